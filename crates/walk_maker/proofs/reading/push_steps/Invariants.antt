use Rattle.std.proofs.Common.{◌≡◌, ◌++◌, ◌-◌, length}
use Rattle.walk_maker.specs.inside.Reading.{steps_of}
use Rattle.walk_maker.proofs.reading.push_steps.Given as goal

abbrev pub invariant-loop : goal.invariant-loop
invariant-loop l =
    l.steps ++ steps_of l.entries (length l.entries - l.counter) l.at
    ≡ l.initial.steps ++ steps_of l.entries (length l.entries) l.number
