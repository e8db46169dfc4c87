use Rattle.std.proofs.Common.{◌≡◌, true, drop}
use Rattle.walk_check.specs.Keeps as keeps
use Rattle.walk_check.proofs.walk.pieces_keep.Given as goal

abbrev pub invariant-loop-piece : goal.invariant-loop-piece
invariant-loop-piece l =
    keeps.pieces_keep l.ir l.passed l.site l.ends l.opens l.here (drop l.piece-index l.pieces)
    ≡ keeps.pieces_keep l.ir l.passed l.site l.ends true l.fn.first l.pieces
