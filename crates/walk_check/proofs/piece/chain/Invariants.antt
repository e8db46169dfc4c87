use Rattle.std.proofs.Common.{◌≡◌, true, drop}
use Rattle.walk_check.specs.Keeps as keeps
use Rattle.walk_check.proofs.piece.chain.Given as goal

abbrev pub invariant-loop-step : goal.invariant-loop-step
invariant-loop-step l =
    keeps.chain l.passed l.opens l.body l.entry l.here (drop l.step-index l.steps)
    ≡ keeps.chain l.passed l.opens l.body true l.fn.first l.steps
