-- The width of a slot: the words of the largest struct and one for the header, rounded up to lines
-- of eight words, and within the limits of a slot.
use Rattle.std.specs.Prelude.{ℕ, ◌+◌, ◌*◌, ◌/◌, List, [], ◌∷◌, max, min}
use Rattle.pool_map.specs.declared.shapes.StructShape.{StructShape}
use Rattle.pool_map.specs.declared.limits.TheConstants.{LEAST_SLOT, MOST_SLOT}
use Rattle.pool_map.specs.PoolFits.{words_of}

-- the words of the largest struct
abbrev pub most_words : List StructShape → ℕ
most_words [] = 0
most_words (s ∷ ss) = max (words_of s.fields) (most_words ss)

abbrev pub slot_words : List StructShape → ℕ
slot_words structs = min (max (8 * ((most_words structs + 8) / 8)) LEAST_SLOT) MOST_SLOT
