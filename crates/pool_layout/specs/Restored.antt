-- The heap that the log of an image restores: the valid records are applied from the newest to the
-- oldest, and each sets its heap word to its old value. So the oldest valid record of a heap word
-- decides, and a heap word without a record stays.
use Rattle.std.specs.Prelude.{ℕ, zero, suc, ◌<◌, ◌≡◌, ◌≢◌, cond, ℤ, pos}
use Rattle.std.specs.Ordering.{int_eq}
use Rattle.cache_model.specs.Cache.{Words}
use Rattle.pool_layout.specs.declared.places.Layout.{Layout}
use Rattle.pool_layout.specs.declared.places.Place.TheVariants.{RecordWord, RecordOld, Heap}
use Rattle.pool_layout.specs.Places.{at}
use Rattle.pool_layout.specs.Log.{count}

abbrev pub undo : ℤ → ℤ → (ℕ → ℤ) → ℕ → ℤ
undo x old h w = cond (int_eq x (pos w)) old (h w)

-- the heap after the first n records were applied, the newest first
abbrev pub undone : (word old : ℕ → ℤ) → ℕ → (ℕ → ℤ) → ℕ → ℤ
undone word old zero h = h
undone word old (suc n) h = undone word old n (undo (word n) (old n) h)

unfoldable pub restored : Layout → ℕ → Words → ℕ → ℤ
restored l a image =
    undone (λ j. image (at l (RecordWord j))) (λ j. image (at l (RecordOld j))) (count l a image)
    (λ w. image (at l (Heap w)))

-- record j is the oldest valid record of heap word w
pub record IsOldest (l : Layout) (a : ℕ) (image : Words) (w j : ℕ) : Type 0 where
  pub valid : j < count l a image
  pub word : image (at l (RecordWord j)) ≡ pos w
  pub oldest : (i : ℕ) → i < j → image (at l (RecordWord i)) ≢ pos w

abbrev pub OldestDecides : Type 0
OldestDecides = (l : Layout) (a : ℕ) (image : Words) (w j : ℕ) → IsOldest l a image w j
    → restored l a image w ≡ image (at l (RecordOld j))

abbrev pub OthersStay : Type 0
OthersStay = (l : Layout) (a : ℕ) (image : Words) (w : ℕ)
    → ((j : ℕ) → j < count l a image → image (at l (RecordWord j)) ≢ pos w)
    → restored l a image w ≡ image (at l (Heap w))
