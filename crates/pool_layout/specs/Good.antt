-- The content of an image of a pool at rest (Good), and of one that a trap made unusable (Lost).
use Rattle.std.specs.Prelude.{ℕ, suc, ◌+◌, ◌^◌, ◌<◌, ◌≤◌, ◌≡◌, List, [], ◌∷◌, ℤ, pos, codes}
use Rattle.std.specs.Prelude.{slice_index_or}
use Rattle.cache_model.specs.Cache.{Words}
use Rattle.pool_layout.specs.declared.limits.Sizes.{Sizes}
use Rattle.pool_layout.specs.declared.places.Place.TheVariants.{Super, Done, Attempt, Mark, Seal}
use Rattle.pool_layout.specs.declared.places.Place.TheVariants.{Heap}
use Rattle.pool_layout.specs.declared.places.TheConstants.{SUPER_WORDS}
use Rattle.pool_layout.specs.Sizes.{heap_words}
use Rattle.pool_layout.specs.Places.{at, pool_of}
use Rattle.pool_layout.specs.Bytes.{word_in}
use Rattle.pool_layout.specs.Log.{WellMade}

-- the bytes CNVMPOOL
abbrev pub magic : ℤ
magic = word_in (codes "CNVMPOOL") 0

-- words 0 to 5: magic, version, slots, records, root words, ticks
abbrev pub sizes_words : Sizes → List ℤ
sizes_words s = magic ∷ pos 2 ∷ pos s.slots ∷ pos s.records ∷ pos s.root_words ∷ pos s.ticks ∷ []

-- Words 0 to 5 are the sizes', and words 8 to 11 the digest's. The other words of lines 0 and 1 may
-- have any value.
pub record HasSuper (s : Sizes) (digest : List ℤ) (image : Words) : Type 0 where
  pub sizes_are : (k : ℕ) → k < 6
      → image (at (pool_of s) (Super k)) ≡ slice_index_or (sizes_words s) k (pos 0)
  pub digest_is : (k : ℕ) → k < 4 → image (at (pool_of s) (Super (8 + k)))
      ≡ slice_index_or digest k (pos 0)

-- a pool of these sizes, and the words of lines 0 and 1: magic, version, sizes and digest, and the
-- unread ones
pub record Pool : Type 0 where
  pub sizes : Sizes
  pub super : ℕ → ℤ

-- An image at rest, with d finished transactions and heap h. The function, the arguments and the
-- unread words may have any value.
pub record Good (pool : Pool) (d : ℕ) (h : ℕ → ℤ) (image : Words) : Type 0 where
  pub super : (k : ℕ) → k < SUPER_WORDS → image (at (pool_of pool.sizes) (Super k)) ≡ pool.super k
  pub mark : image (at (pool_of pool.sizes) Mark) ≡ pos 0
  pub done : image (at (pool_of pool.sizes) Done) ≡ pos d
  pub done_fits : d ≤ 2 ^ 62 + 1
  pub unsealed : image (at (pool_of pool.sizes) Seal) ≡ pos (suc d) → ⊥
  pub attempt : ℕ
  pub attempt_is : image (at (pool_of pool.sizes) Attempt) ≡ pos attempt
  pub attempt_fits : attempt ≤ 2 ^ 62 + 1
  pub log : WellMade (pool_of pool.sizes) attempt image
  pub heap : (w : ℕ) → w < heap_words pool.sizes → image (at (pool_of pool.sizes) (Heap w)) ≡ h w

-- An image whose mark is trap k.
abbrev pub Lost : Sizes → ℕ → Words → Type 0
Lost s k image = (image (at (pool_of s) Mark) ≡ pos k) × (0 < k)
