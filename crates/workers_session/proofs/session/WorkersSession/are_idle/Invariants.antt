use Rattle.std.proofs.Common.{◌≡◌, ◌<◌, ℕ, None}
use Rattle.pool_workers.specs.Crew.{task_at}
use Rattle.workers_session.proofs.session.WorkersSession.are_idle.Given as goal

abbrev pub invariant-loop-worker : goal.invariant-loop-worker
invariant-loop-worker l = (j : ℕ) → j < l.worker → task_at l.self.tasks j ≡ None
