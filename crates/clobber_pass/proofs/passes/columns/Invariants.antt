use Rattle.std.proofs.Common.{◌≡◌, ◌≤◌, ◌<◌, ℕ, true, false}
use Rattle.clobber_pass.specs.inside.Closed.{ShapedExits, Ended}
use Rattle.clobber_pass.specs.inside.Sound.{SoundExits}
use Rattle.clobber_pass.specs.inside.Calling.{Apart, EndedAlone}
use Rattle.clobber_pass.specs.inside.Room.{all_room}
use Rattle.clobber_pass.proofs.passes.columns.Given as goal

abbrev pub invariant-loop-at : goal.invariant-loop-at
invariant-loop-at l =
    ShapedExits l.ir.functions l.topic l.exits × SoundExits l.ir.functions l.topic l.exits
    × (l.grew ≡ false → l.exits ≡ l.initial.exits)
    × (l.grew ≡ false → (c : ℕ) → c < l.at
    → Ended l.ir.functions l.topic l.initial.exits l.function c)
    × (l.grew ≡ true → all_room l.exits < all_room l.initial.exits)
    × (all_room l.exits ≤ all_room l.initial.exits)
    × Apart l.function l.initial.exits l.exits
    × ((c : ℕ) → c < l.at → EndedAlone l.ir.functions l.topic l.exits l.function c)
