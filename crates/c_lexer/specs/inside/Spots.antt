-- What only bodies and proofs need beside `Spots`.
use Rattle.std.specs.Prelude.{ℕ, List, [], ◌∷◌, ◌+◌, ◌&&◌, ◌==◌, if◌then◌else◌}
use Rattle.c_lexer.specs.declared.spot.Spot.{Spot}
use Rattle.c_lexer.specs.Spots.{past_byte}

abbrev pub spot_past : Spot → List ℕ → Spot
spot_past spot [] = spot
spot_past spot (b ∷ bs) = spot_past (past_byte spot b) bs
