use Rattle.std.proofs.Common.{◌≡◌, ◌<◌, ◌≤◌, drop, length, true, false}
use Rattle.clobber_pass.specs.inside.Sweep.{swept}
use Rattle.clobber_pass.specs.inside.Closed.{Closed}
use Rattle.clobber_pass.specs.inside.Room.{room}
use Rattle.clobber_pass.proofs.sweep.sweep.Given as goal

abbrev pub invariant-loop-place : goal.invariant-loop-place
invariant-loop-place l =
    (swept l.topic l.exits (length l.code) l.rows l.row.items l.place (drop l.place l.code)
    ≡ swept l.topic l.exits (length l.code) l.initial.rows l.entry 0 l.code)
    × (l.grew ≡ false → l.rows ≡ l.initial.rows)
    × (l.grew ≡ false → Closed l.topic l.exits (length l.code) l.rows l.row.items l.place
    (drop l.place l.code) → Closed l.topic l.exits (length l.code) l.initial.rows
    l.entry 0 l.code)
    × (l.grew ≡ true → room l.rows < room l.initial.rows)
    × (room l.rows ≤ room l.initial.rows)
