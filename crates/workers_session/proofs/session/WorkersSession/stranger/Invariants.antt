use Rattle.std.proofs.Common.{◌≡◌, drop, length}
use Rattle.workers_session.specs.WorkersState.{stranger_in}
use Rattle.workers_session.proofs.session.WorkersSession.stranger.Given as goal

abbrev pub invariant-loop-worker : goal.invariant-loop-worker
invariant-loop-worker l =
    stranger_in (length l.self.tasks) (drop l.worker-index l.workers)
    ≡ stranger_in (length l.self.tasks) l.workers
