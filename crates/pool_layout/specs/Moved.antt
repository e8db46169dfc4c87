-- A pool of the first version, moved to the second. Word 1 is 2; the other words of lines 0 and 1,
-- last, done, mark and the heap are the image's; all other words are 0.
use Rattle.std.specs.Prelude.{ℕ, ◌*◌, ◌<◌, ◌≡◌, ◌==◌, cond, false, List, length, ℤ, pos}
use Rattle.cache_model.specs.Cache.{Words}
use Rattle.pool_layout.specs.declared.limits.Sizes.{Sizes}
use Rattle.pool_layout.specs.declared.places.Version.TheVariants.{First}
use Rattle.pool_layout.specs.declared.places.Layout.{Layout}
use Rattle.pool_layout.specs.declared.places.Place.{Place}
use Rattle.pool_layout.specs.declared.places.Place.TheVariants.{Super, Last, Done, Attempt, Mark}
use Rattle.pool_layout.specs.declared.places.Place.TheVariants.{Heap}
use Rattle.pool_layout.specs.Sizes.{pool_lines, heap_words}
use Rattle.pool_layout.specs.Places.{at, pool_of, IsPlace}
use Rattle.pool_layout.specs.Image.{image_words, is_sealed}
use Rattle.pool_layout.specs.Log.{count, WellMade}

abbrev pub first_layout : Sizes → Layout
first_layout s = record { version = First; sizes = s }

-- the moved pool's word at each place
unfoldable pub moved : Sizes → Words → Place → ℤ
moved s image (Super k) = cond (k == 1) (pos 2) (image k)
moved s image Last = image (at (first_layout s) Last)
moved s image Done = image (at (first_layout s) Done)
moved s image Mark = image (at (first_layout s) Mark)
moved s image (Heap w) = image (at (first_layout s) (Heap w))
moved s image q = pos 0

-- the words are those of the moved pool
pub record AreMoved (s : Sizes) (image : Words) (words : List ℤ) : Type 0 where
  pub whole : length words ≡ 8 * pool_lines s
  pub each : (q : Place) → IsPlace (pool_of s) q → image_words words (at (pool_of s) q)
      ≡ moved s image q

-- the moved pool keeps the heap, last, done and mark; it isn't sealed and its log is empty
pub record KeepsPool (s : Sizes) (image words : Words) : Type 0 where
  pub last : words (at (pool_of s) Last) ≡ image (at (first_layout s) Last)
  pub done : words (at (pool_of s) Done) ≡ image (at (first_layout s) Done)
  pub mark : words (at (pool_of s) Mark) ≡ image (at (first_layout s) Mark)
  pub attempt : words (at (pool_of s) Attempt) ≡ pos 0
  pub heap : (w : ℕ) → w < heap_words s
      → words (at (pool_of s) (Heap w)) ≡ image (at (first_layout s) (Heap w))
  pub log : WellMade (pool_of s) 0 words
  pub empty : count (pool_of s) 0 words ≡ 0

abbrev pub MovedKeeps : Type 0
MovedKeeps = (s : Sizes) (image : Words) (words : List ℤ) → AreMoved s image words
    → KeepsPool s image (image_words words)

abbrev pub MovedUnsealed : Type 0
MovedUnsealed = (s : Sizes) (image : Words) (words : List ℤ) (d : ℕ) → AreMoved s image words
    → image (at (first_layout s) Done) ≡ pos d → is_sealed (image_words words) ≡ false
