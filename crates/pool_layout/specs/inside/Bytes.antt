-- What only bodies and proofs need beside `Bytes`.
use Rattle.std.specs.Prelude.{ℕ, ◌≡◌, ◌%◌, length, List, ℤ, pos, slice_index_or, FitsSigned}
use Rattle.std.specs.Int.{w64}

-- the bytes are whole words
abbrev pub AreWholeWords : List ℕ → Type 0
AreWholeWords bytes = length bytes % 8 ≡ 0

-- each number is a word
abbrev pub AreWords : List ℤ → Type 0
AreWords words = (i : ℕ) → FitsSigned w64 (slice_index_or words i (pos 0))
