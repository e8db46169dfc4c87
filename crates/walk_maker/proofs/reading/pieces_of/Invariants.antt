use Rattle.std.proofs.Common.{◌≡◌, ◌++◌, ◌-◌, true, length}
use Rattle.walk_maker.specs.inside.Reading.{pieces_of}
use Rattle.walk_maker.proofs.reading.pieces_of.Given as goal

abbrev pub invariant-loop : goal.invariant-loop
invariant-loop l =
    l.pieces ++ pieces_of l.functions l.entries (length l.entries - l.counter) l.opens l.at
    ≡ pieces_of l.functions l.entries (length l.entries) true l.number
