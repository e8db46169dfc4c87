-- An image of a pool, and whether it is sealed.
use Rattle.std.specs.Prelude.{ℕ, ◌≡◌, ◌≤◌, Bool, List, ℤ, pos, ◌+ℤ◌, slice_index_or}
use Rattle.std.specs.Ordering.{int_eq}
use Rattle.cache_model.specs.Cache.{Words}
use Rattle.pool_layout.specs.Places.{seal_word}
use Rattle.pool_layout.specs.declared.places.TheConstants.{DONE}
use Rattle.pool_layout.specs.declared.places.Version.TheVariants.{Second}
use Rattle.pool_layout.specs.declared.places.Version.{Version}

-- An image is the words of a pool by their numbers; words past the pool's end don't matter.
abbrev pub image_words : List ℤ → Words
image_words xs p = slice_index_or xs p (pos 0)

-- the first word is one more than the second, as whole numbers
abbrev pub is_next : ℤ → ℤ → Bool
is_next x y = int_eq x (y +ℤ pos 1)

-- A call is sealed in the image: its seal is one more than done. The second is for today's layout.
abbrev pub is_sealed_in : Version → Words → Bool
is_sealed_in v image = is_next (image (seal_word v)) (image DONE)

abbrev pub is_sealed : Words → Bool
is_sealed = is_sealed_in Second

-- a number from 0 to n
abbrev pub IsUpTo : ℕ → ℤ → Type 0
IsUpTo n x = (s : ℕ) × (s ≤ n) × (x ≡ pos s)
