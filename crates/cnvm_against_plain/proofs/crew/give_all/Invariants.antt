use Rattle.workers_session.specs.WorkersState.{IsReadyFor}
use Rattle.cnvm_against_plain.proofs.crew.give_all.Given as goal

abbrev pub invariant-loop-command : goal.invariant-loop-command
invariant-loop-command g l = IsReadyFor l.program.image l.session (g.P.PmemWork.device l.dev)
