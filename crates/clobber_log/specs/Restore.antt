-- The events that restore the valid records, from the newest to the oldest: each old value is
-- stored at its heap word, and that line is flushed; after them comes one fence, if there was a
-- record. A record whose word lies outside the heap, which no pool holds, gives no event.
use Rattle.std.specs.Prelude.{ℕ, zero, suc, ◌<◌, ◌≡◌, if◌then◌else◌, nat_lt, Option, Some, None}
use Rattle.std.specs.Prelude.{List, [], ◌∷◌, ◌++◌, ℤ, pos, negsuc}
use Rattle.cache_model.specs.Event.{CacheEvent, Store, Flush, Fence}
use Rattle.cache_model.specs.Cache.{Words}
use Rattle.pool_layout.specs.declared.limits.Sizes.{Sizes}
use Rattle.pool_layout.specs.declared.places.Place.TheVariants.{RecordWord, RecordOld, Heap}
use Rattle.pool_layout.specs.Sizes.{heap_words}
use Rattle.pool_layout.specs.Places.{at, line_of, pool_of}
use Rattle.pool_layout.specs.Restored.{undone}
use Rattle.clobber_log.specs.Logs.{count_in}

-- the heap word that a word names, if it names one
abbrev pub as_heap_word : Sizes → ℤ → Option ℕ
as_heap_word s (pos w) = if nat_lt w (heap_words s) then Some w else None
as_heap_word s (negsuc n) = None

-- the events that restore the old value at its heap word
abbrev pub back_at : Sizes → Option ℕ → (old : ℤ) → List CacheEvent
back_at s None old = []
back_at s (Some w) old = Store (at (pool_of s) (Heap w)) old ∷ Flush (line_of (pool_of s) (Heap w))
    ∷ []

abbrev pub word_in_record : Sizes → Words → ℕ → ℤ
word_in_record s image i = image (at (pool_of s) (RecordWord i))

abbrev pub old_in_record : Sizes → Words → ℕ → ℤ
old_in_record s image i = image (at (pool_of s) (RecordOld i))

-- the events that restore record i of an image
abbrev pub back_record : Sizes → Words → ℕ → List CacheEvent
back_record s image i =
    back_at s (as_heap_word s (word_in_record s image i)) (old_in_record s image i)

-- the events that restore the first n records, the newest first
abbrev pub back_events : Sizes → (word old : ℕ → ℤ) → ℕ → List CacheEvent
back_events s word old zero = []
back_events s word old (suc n) =
    back_at s (as_heap_word s (word n)) (old n) ++ back_events s word old n

abbrev pub fence_after : ℕ → List CacheEvent
fence_after zero = []
fence_after (suc n) = Fence ∷ []

-- the events that restore the first n records of an image; and those with the fence
abbrev pub back_first : Sizes → Words → ℕ → List CacheEvent
back_first s image n = back_events s (word_in_record s image) (old_in_record s image) n

abbrev pub first_events : Sizes → Words → ℕ → List CacheEvent
first_events s image n = back_first s image n ++ fence_after n

-- in the heap of the later words the first n records of the earlier ones are undone
abbrev pub IsUndoneFirst : Sizes → ℕ → (before after : Words) → Type 0
IsUndoneFirst s n before after = (w : ℕ) → w < heap_words s
    → after (at (pool_of s) (Heap w))
    ≡ undone (word_in_record s before) (old_in_record s before) n
    (λ v. before (at (pool_of s) (Heap v))) w

unfoldable pub restore_events : Sizes → Words → List CacheEvent
restore_events s image = first_events s image (count_in s image)
