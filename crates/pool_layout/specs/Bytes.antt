-- Words and bytes: a word is eight bytes, the lowest first, in two's complement.
use Rattle.std.specs.Prelude.{ℕ, ◌+◌, ◌*◌, List, [], ◌∷◌, ◌++◌, ℤ, slice_index}
use Rattle.std.specs.Int.{w64, cast_signed, cast_unsigned, from_le_bytes, to_le_bytes}

-- the word of the eight bytes from place `at` on
unfoldable pub word_from : List ℕ → ℕ → ℤ
word_from bytes at = cast_signed w64 (from_le_bytes w64
    (slice_index bytes at ∷ slice_index bytes (at + 1) ∷ slice_index bytes (at + 2)
    ∷ slice_index bytes (at + 3)
    ∷ slice_index bytes (at + 4) ∷ slice_index bytes (at + 5) ∷ slice_index bytes (at + 6)
    ∷ slice_index bytes (at + 7) ∷ []))

-- word k of bytes
abbrev pub word_in : List ℕ → ℕ → ℤ
word_in bytes k = word_from bytes (8 * k)

unfoldable pub bytes_of_word : ℤ → List ℕ
bytes_of_word x = to_le_bytes w64 (cast_unsigned w64 x)

-- an image's bytes: those of each word, in order, and nothing else
abbrev pub bytes_of : List ℤ → List ℕ
bytes_of [] = []
bytes_of (x ∷ xs) = bytes_of_word x ++ bytes_of xs
