-- The events that finish a call, and those that make a pool unusable. Line 2 holds the value of the
-- last call (LAST), the number of finished calls (DONE), the attempt (ATTEMPT) and the mark (MARK).
use Rattle.std.specs.Prelude.{ℕ, ℤ, pos, List, [], ◌∷◌}
use Rattle.cache_model.specs.Event.{CacheEvent, Store, Flush, Fence}
use Rattle.pool_layout.specs.declared.places.TheConstants.{LAST, DONE, ATTEMPT, MARK}

-- stores the value, the number of finished calls, and the next attempt, so that no record of the
-- log is valid any more
unfoldable pub retire_events : (value done attempt : ℤ) → List CacheEvent
retire_events v d a = Store LAST v ∷ Store DONE d ∷ Store ATTEMPT a ∷ Flush 2 ∷ Fence ∷ []

unfoldable pub mark_events : (trap : ℕ) → List CacheEvent
mark_events k = Store MARK (pos k) ∷ Flush 2 ∷ Fence ∷ []
