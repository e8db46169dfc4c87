-- The events that create a pool on blank lines. The first line gets the magic word, the version and
-- the sizes, and the second the digest of the program; both lines are then flushed and fenced.
use Rattle.std.specs.Prelude.{ℤ, pos, List, [], ◌∷◌, ◌++◌, slice_index_or}
use Rattle.cache_model.specs.Event.{CacheEvent, Store, Fence}
use Rattle.pool_layout.specs.declared.limits.Sizes.{Sizes}
use Rattle.pool_layout.specs.Good.{sizes_words}
use Rattle.args_log.specs.Seal.{stores_from, flushes_from}

unfoldable pub sizes_events : Sizes → List CacheEvent
sizes_events s = stores_from 0 (sizes_words s)

unfoldable pub digest_events : List ℤ → List CacheEvent
digest_events digest =
    Store 8 (slice_index_or digest 0 (pos 0)) ∷ Store 9 (slice_index_or digest 1 (pos 0))
    ∷ Store 10 (slice_index_or digest 2 (pos 0))
    ∷ Store 11 (slice_index_or digest 3 (pos 0)) ∷ []

abbrev pub head_events : List CacheEvent
head_events = flushes_from 0 2 ++ Fence ∷ []

abbrev pub creation_events : Sizes → List ℤ → List CacheEvent
creation_events s digest = sizes_events s ++ (digest_events digest ++ head_events)
