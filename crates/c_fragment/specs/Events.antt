-- The events of the device that a run plays, with attempt a. A record has the heap word, its old
-- value and the attempt's stamp.
use Rattle.std.specs.Prelude.{ℕ, zero, suc, ◌+◌, ◌==◌, List, [], ◌∷◌, ◌++◌, if◌then◌else◌}
use Rattle.std.specs.Int.{w64, cast_signed}
use Rattle.cache_model.specs.Event.{CacheEvent, Store, Flush, Fence}
use Rattle.pool_layout.specs.declared.limits.Sizes.{Sizes}
use Rattle.pool_layout.specs.declared.places.Place.TheVariants.{Heap}
use Rattle.pool_layout.specs.Places.{at, pool_of}
use Rattle.clobber_log.specs.Record.{record_events}
use Rattle.c_fragment.specs.State.{PoolStep, Stored, Recorded, Flushed, Fenced}
use Rattle.c_fragment.specs.Runs.{CRun, GoesOn, Returned, Trapped, HasNoMeaning}

-- the events of these steps, with n records and this heap so far
abbrev pub step_events : Sizes → (a n : ℕ) → (ℕ → ℕ) → List PoolStep → List CacheEvent
step_events s a n heap [] = []
step_events s a n heap (Stored w v ∷ ps) =
    Store (at (pool_of s) (Heap w)) (cast_signed w64 v)
    ∷ step_events s a n (λ u. if u == w then v else heap u) ps
step_events s a n heap (Recorded w ∷ ps) =
    record_events s n w (cast_signed w64 (heap w)) (a + 1) ++ step_events s a (suc n) heap ps
step_events s a n heap (Flushed l ∷ ps) =
    Flush (6 + s.records + l) ∷ step_events s a n heap ps
step_events s a n heap (Fenced ∷ ps) = Fence ∷ step_events s a n heap ps

-- the events of a run that began with an empty log on this heap
abbrev pub c_events : Sizes → (a : ℕ) → (ℕ → ℕ) → CRun → List CacheEvent
c_events s a heap GoesOn = []
c_events s a heap (Returned v ps) = step_events s a 0 heap ps
c_events s a heap (Trapped k ps) = step_events s a 0 heap ps
c_events s a heap HasNoMeaning = []
