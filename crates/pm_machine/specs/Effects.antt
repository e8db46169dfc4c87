-- The effects of the machine's steps: what each does to the heap, how many records it appends, and
-- which events of the device it plays.
use Rattle.std.specs.Prelude.{ℕ, suc, ◌+◌, List, [], ◌∷◌, ◌++◌}
use Rattle.cache_model.specs.Event.{CacheEvent, Store, Flush, Fence}
use Rattle.cache_model.specs.Cache.{Words, put}
use Rattle.pool_layout.specs.declared.limits.Sizes.{Sizes}
use Rattle.pool_layout.specs.declared.places.Place.TheVariants.{Heap}
use Rattle.pool_layout.specs.Places.{at, pool_of}
use Rattle.clobber_log.specs.Record.{record_events}
use Rattle.pm_machine.specs.declared.effect.Effect.{Effect}
use Rattle.pm_machine.specs.declared.effect.Effect.TheVariants.{Loads, Scans, Stores, Logs, Flushes}
use Rattle.pm_machine.specs.declared.effect.Effect.TheVariants.{Fences, Quiet}

-- the heap after a step
abbrev pub heap_past : Words → Effect → Words
heap_past heap (Loads w) = heap
heap_past heap (Scans w apart m) = heap
heap_past heap (Stores w x) = put heap w x
heap_past heap (Logs w) = heap
heap_past heap (Flushes l) = heap
heap_past heap Fences = heap
heap_past heap Quiet = heap

-- the heap after a run
abbrev pub heap_end : Words → List Effect → Words
heap_end heap [] = heap
heap_end heap (e ∷ es) = heap_end (heap_past heap e) es

-- the number of records after a step that began with n
abbrev pub records_past : ℕ → Effect → ℕ
records_past n (Loads w) = n
records_past n (Scans w apart m) = n
records_past n (Stores w x) = n
records_past n (Logs w) = suc n
records_past n (Flushes l) = n
records_past n Fences = n
records_past n Quiet = n

-- the number of records after a run
abbrev pub records_end : ℕ → List Effect → ℕ
records_end n [] = n
records_end n (e ∷ es) = records_end (records_past n e) es

-- the number of steps of a run: a record belongs to the step after it
abbrev pub steps_in : List Effect → ℕ
steps_in [] = 0
steps_in (Logs w ∷ es) = steps_in es
steps_in (Loads w ∷ es) = suc (steps_in es)
steps_in (Scans w apart m ∷ es) = suc (steps_in es)
steps_in (Stores w x ∷ es) = suc (steps_in es)
steps_in (Flushes l ∷ es) = suc (steps_in es)
steps_in (Fences ∷ es) = suc (steps_in es)
steps_in (Quiet ∷ es) = suc (steps_in es)

-- the events of a step, with attempt a, n records so far and the heap so far
abbrev pub events_of : Sizes → (a n : ℕ) → Words → Effect → List CacheEvent
events_of s a n heap (Loads w) = []
events_of s a n heap (Scans w apart m) = []
events_of s a n heap (Stores w x) = Store (at (pool_of s) (Heap w)) x ∷ []
events_of s a n heap (Logs w) = record_events s n w (heap w) (a + 1)
events_of s a n heap (Flushes l) = Flush (6 + s.records + l) ∷ []
events_of s a n heap Fences = Fence ∷ []
events_of s a n heap Quiet = []

-- the events of a run: those of this step, then those of the rest
abbrev pub events_all : Sizes → (a n : ℕ) → Words → List Effect → List CacheEvent
events_all s a n heap [] = []
events_all s a n heap (e ∷ es) =
    events_of s a n heap e ++ events_all s a (records_past n e) (heap_past heap e) es
