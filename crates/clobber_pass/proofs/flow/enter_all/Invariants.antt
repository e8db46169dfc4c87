use Rattle.std.proofs.Common.{◌≡◌, ◌<◌, ◌≤◌, drop, true, false}
use Rattle.clobber_pass.specs.inside.Flow.{entries_after_calls, Wakes}
use Rattle.clobber_pass.specs.inside.Room.{room}
use Rattle.clobber_pass.proofs.flow.enter_all.Given as goal

abbrev pub invariant-loop-place : goal.invariant-loop-place
invariant-loop-place l =
    (entries_after_calls l.ir.functions l.topic l.exits l.rows l.entries l.row.items l.place
    (drop l.place l.code) ≡ entries_after_calls l.ir.functions l.topic l.exits l.rows
    l.initial.entries l.entry 0 l.code)
    × (l.grew ≡ false → (l.entries ≡ l.initial.entries) × (l.waiting ≡ l.initial.waiting))
    × Wakes l.initial.waiting l.waiting l.initial.entries l.entries
    × (l.grew ≡ true → room l.entries < room l.initial.entries)
    × (room l.entries ≤ room l.initial.entries)
