use Rattle.std.proofs.Common.{◌≡◌, ◌<◌, ◌≤◌, ℕ, true, false}
use Rattle.clobber_pass.specs.inside.Flow.{waits}
use Rattle.clobber_pass.specs.inside.Calling.{Passing}
use Rattle.clobber_pass.specs.inside.Room.{all_room}
use Rattle.clobber_pass.proofs.passes.round.Given as goal

abbrev pub invariant-loop-function : goal.invariant-loop-function
invariant-loop-function l =
    Passing l.ir.functions l.topic l.exits l.waiting
    × (l.grew ≡ false → (f : ℕ) → f < l.function → waits l.waiting f ≡ false)
    × (l.grew ≡ true → all_room l.exits < all_room l.initial.exits)
    × (all_room l.exits ≤ all_room l.initial.exits)
