use Rattle.std.proofs.Common.{◌≡◌, ◌-◌, length}
use Rattle.walk_maker.specs.inside.Reading.{piece_end}
use Rattle.walk_maker.proofs.reading.end_of.Given as goal

abbrev pub invariant-loop : goal.invariant-loop
invariant-loop l =
    piece_end l.entries (length l.entries - l.counter) l.at
    ≡ piece_end l.entries (length l.entries) l.number
