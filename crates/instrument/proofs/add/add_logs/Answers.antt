use Rattle.instrument.proofs.LoggedCode.{answer_well_formed}
use Rattle.instrument.proofs.add.add_logs.Goals as goal

pub returns-clause-well_formed : goal.returns-clause-well_formed
returns-clause-well_formed c =
    λ short. answer_well_formed c.args.marks.now c.args.ir.now c.logged_program.result
    c.requires short c.logged_program.ensures
