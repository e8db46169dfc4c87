-- A row of words, and the bits of its words.
use Rattle.std.specs.Prelude.{◌==◌, ℕ, Bool, List, slice_index_or}
use Rattle.std.specs.Int.{bit_at}

abbrev pub word : List ℕ → ℕ → ℕ
word row s = slice_index_or row s 0

-- whether a bit of a word is set
unfoldable pub has_bit : ℕ → ℕ → Bool
has_bit x w = bit_at w x == 1

-- whether a row records the slot's fact, for the class of a bit
abbrev pub tells : List ℕ → ℕ → ℕ → Bool
tells row x s = has_bit x (word row s)
