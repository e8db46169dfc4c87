use Rattle.std.proofs.Common.{◌≡◌, ◌<◌, ◌≤◌, ◌++◌, take, drop, length, true, false}
use Rattle.clobber_pass.specs.inside.Sweep.{or_from}
use Rattle.clobber_pass.specs.inside.Room.{words_room}
use Rattle.clobber_pass.proofs.rows.join_words.Given as goal

abbrev pub invariant-loop-slot : goal.invariant-loop-slot
invariant-loop-slot l =
    (take l.slot l.row ++ or_from l.more l.slot (drop l.slot l.row) ≡ or_from l.more 0
    l.initial.row) × (length l.row ≡ length l.initial.row)
    × (l.grew ≡ false → l.row ≡ l.initial.row)
    × (l.grew ≡ true → words_room l.row < words_room l.initial.row)
    × (words_room l.row ≤ words_room l.initial.row)
