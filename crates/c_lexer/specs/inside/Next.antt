-- What only bodies and proofs need beside `Next`.
use Rattle.std.specs.Prelude.{ℕ, ◌<◌, ◌≤◌, ◌&&◌, ◌||◌, if◌then◌else◌}
use Rattle.c_lexer.specs.declared.piece.Piece.{Piece}
use Rattle.c_lexer.specs.declared.piece.Piece.TheVariants.{Skips, Spells, Refuses}

-- a piece has at least one byte, and no more than are left
abbrev pub PieceFits : Piece → ℕ → Type 0
PieceFits (Skips width) most = (0 < width) × (width ≤ most)
PieceFits (Spells width token) most = (0 < width) × (width ≤ most)
PieceFits (Refuses fault) most = Unit {0}
