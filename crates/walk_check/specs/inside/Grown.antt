-- Lists of pieces that pass calls, as they grow.
use Rattle.std.specs.Prelude.{◌≡◌, ◌++◌, true, List, [], ◌∷◌}
use Rattle.ir.specs.declared.function.Ir.{Ir}
use Rattle.walk_check.specs.declared.certificate.Piece.{Piece}
use Rattle.walk_check.specs.Keeps.{passing_keeps}

-- pieces that pass calls: none, or one more that keeps the rules
pub data ArePassing (ir : Ir) : List Piece → Type 0 where
  no_piece : ArePassing ir []
  one_more : {ps : List Piece} (p : Piece) → ArePassing ir ps → passing_keeps ir ps p ≡ true
      → ArePassing ir (ps ++ p ∷ [])

-- the first pieces and more
pub data Grows : List Piece → List Piece → Type 0 where
  stays : {ps : List Piece} → Grows ps ps
  grows : {ps qs : List Piece} (p : Piece) → Grows ps qs → Grows ps (qs ++ p ∷ [])
