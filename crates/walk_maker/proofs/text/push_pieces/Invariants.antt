use Rattle.std.proofs.Common.{◌++◌, ◌≡◌, drop, flat_map}
use Rattle.walk_maker.specs.WhyText as why
use Rattle.walk_maker.proofs.text.push_pieces.Given as goal

abbrev pub invariant-loop-piece : goal.invariant-loop-piece
invariant-loop-piece l =
    l.text ++ flat_map (why.in_text l.ir) (drop l.piece-index l.pieces)
    ≡ l.initial.text ++ flat_map (why.in_text l.ir) l.pieces
