use Rattle.std.proofs.Common.{◌≡◌, drop}
use Rattle.walk_check.specs.Keeps as keeps
use Rattle.walk_check.proofs.there.all_there.Given as goal

abbrev pub invariant-loop-step : goal.invariant-loop-step
invariant-loop-step l =
    keeps.all_there l.shapes l.body (drop l.step-index l.steps)
    ≡ keeps.all_there l.shapes l.body l.steps
