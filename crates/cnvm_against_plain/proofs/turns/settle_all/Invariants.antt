use Rattle.workers_session.specs.WorkersState.{IsReadyFor}
use Rattle.cnvm_against_plain.proofs.turns.settle_all.Given as goal

abbrev pub invariant-loop-worker : goal.invariant-loop-worker
invariant-loop-worker g l = IsReadyFor l.program.image l.session (g.P.PmemWork.device l.dev)
