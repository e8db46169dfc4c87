-- The sizes of the pool of a compiled program: the numbers that were asked for, or the nearest
-- limit for a number outside its limits; and as many root words as the program's root has.
use Rattle.std.specs.Prelude.{ℕ, ◌≡◌, nat_lt, if◌then◌else◌}
use Rattle.pool_map.specs.declared.shapes.Shapes.{Shapes}
use Rattle.pool_map.specs.PoolFits.{words_of}
use Rattle.pool_map.specs.Width as width
use Rattle.pool_layout.specs.declared.limits.Sizes.{Sizes}
use Rattle.pool_layout.specs.Sizes.{slot_words}
use Rattle.pool_map.specs.declared.limits.TheConstants.{RECORDS, ROOT_WORDS, SLOTS, TICKS}

abbrev pub within : (least most n : ℕ) → ℕ
within least most n = if nat_lt n least then least else (if nat_lt most n then most else n)

-- the pool has the words of the shapes' root, of which a checked program has at least one
abbrev pub HasRoot : Shapes → Sizes → Type 0
HasRoot shapes sizes = sizes.root_words ≡ within 1 ROOT_WORDS (words_of shapes.root)

-- a slot has room for the largest struct
abbrev pub HasWidth : Shapes → Sizes → Type 0
HasWidth shapes sizes = slot_words sizes ≡ width.slot_words shapes.structs

abbrev pub HasSizes : (slots records ticks : ℕ) → Sizes → Type 0
HasSizes slots records ticks sizes =
    (sizes.slots ≡ within 1 SLOTS slots) × (sizes.records ≡ within 1 RECORDS records)
    × (sizes.ticks ≡ within 1 TICKS ticks)
