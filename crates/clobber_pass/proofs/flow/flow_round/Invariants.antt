use Rattle.std.proofs.Common.{◌≡◌, ◌<◌, ◌≤◌, ℕ, true, false}
use Rattle.clobber_pass.specs.inside.Flow.{Flowing, waits}
use Rattle.clobber_pass.specs.inside.Room.{room}
use Rattle.clobber_pass.proofs.flow.flow_round.Given as goal

abbrev pub invariant-loop-function : goal.invariant-loop-function
invariant-loop-function l =
    Flowing l.ir.functions l.topic l.exits l.entries l.tables l.waiting
    × (l.grew ≡ false → (f : ℕ) → f < l.function → waits l.waiting f ≡ false)
    × (l.grew ≡ true → room l.entries < room l.initial.entries)
    × (room l.entries ≤ room l.initial.entries)
