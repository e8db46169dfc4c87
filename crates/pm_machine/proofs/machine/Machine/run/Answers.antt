use Rattle.pm_machine.proofs.Faults.{rise_of}
use Rattle.pm_machine.proofs.machine.Machine.run.Goals as goal

pub returns-clause-faults : goal.returns-clause-faults
returns-clause-faults g c = rise_of c.run_on.result _ (g.P.PmemWork.device c.args.dev.now)
    (g.P.PmemWork.device c.run_on.new.dev) c.run_on.ensures.whole c.run_on.ensures.part
