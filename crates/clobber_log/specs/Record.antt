-- The events that append record i: its heap word, the word's old value and its stamp are stored,
-- and then its line is flushed and fenced. The three words share one cache line, and the stamp is
-- stored last: so an image holds the whole record, or the record isn't valid in it.
use Rattle.std.specs.Prelude.{ℕ, ◌+◌, ℤ, pos, List, [], ◌∷◌}
use Rattle.cache_model.specs.Event.{CacheEvent, Store, Flush, Fence}
use Rattle.pool_layout.specs.declared.limits.Sizes.{Sizes}
use Rattle.pool_layout.specs.declared.places.Place.TheVariants.{RecordWord, RecordOld, RecordStamp}
use Rattle.pool_layout.specs.Places.{at, pool_of}

abbrev pub record_events : Sizes → (i heap_word : ℕ) → (old : ℤ) → (stamp : ℕ) → List CacheEvent
record_events s i heap_word old stamp =
    Store (at (pool_of s) (RecordWord i)) (pos heap_word)
    ∷ Store (at (pool_of s) (RecordOld i)) old
    ∷ Store (at (pool_of s) (RecordStamp i)) (pos stamp)
    ∷ Flush (6 + i)
    ∷ Fence
    ∷ []
