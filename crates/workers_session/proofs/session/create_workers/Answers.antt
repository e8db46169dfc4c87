use Rattle.workers_session.proofs.Crews.{created_ready}
use Rattle.workers_session.proofs.session.create_workers.Goals as goal

pub returns-in-Ok-clause-sound : goal.returns-in-Ok-clause-sound
returns-in-Ok-clause-sound g c =
    created_ready c.args.program.now.image c.args.count _ c.in-Ok.workers
    (g.P.PmemWork.device c.args.dev.now) (g.P.PmemWork.device c.create.new.dev) _
    c.in-Ok.ensures.idle c.requires.last c.in-Ok.ensures.tasks c.in-Ok.ensures.lines
    c.in-Ok.ensures.done
