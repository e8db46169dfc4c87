-- The events that begin the next attempt: the attempt's word is increased by one, and its line is
-- flushed and fenced. This makes the records of the attempt before invalid.
use Rattle.std.specs.Prelude.{ℕ, ◌+◌, pos, List, [], ◌∷◌}
use Rattle.cache_model.specs.Event.{CacheEvent, Store, Flush, Fence}
use Rattle.pool_layout.specs.declared.limits.Sizes.{Sizes}
use Rattle.pool_layout.specs.declared.places.Place.TheVariants.{Attempt}
use Rattle.pool_layout.specs.Places.{at, pool_of}

abbrev pub reset_events : Sizes → (attempt : ℕ) → List CacheEvent
reset_events s attempt = Store (at (pool_of s) Attempt) (pos (attempt + 1)) ∷ Flush 2 ∷ Fence ∷ []
