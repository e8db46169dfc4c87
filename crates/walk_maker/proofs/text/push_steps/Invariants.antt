use Rattle.std.proofs.Common.{◌++◌, ◌≡◌, drop, flat_map}
use Rattle.walk_maker.specs.WhyText as why
use Rattle.walk_maker.proofs.text.push_steps.Given as goal

abbrev pub invariant-loop-step : goal.invariant-loop-step
invariant-loop-step l =
    l.text ++ flat_map (why.step_text l.shapes) (drop l.step-index l.steps)
    ≡ l.initial.text ++ flat_map (why.step_text l.shapes) l.steps
