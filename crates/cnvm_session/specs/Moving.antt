-- A pool is moved to another program whose pools have the same shapes: it gets that program's
-- digest, and nothing else in it changes.
use Rattle.std.specs.Prelude.{ℤ, List, [], ◌∷◌, ◌++◌, Bool, true, false}
use Rattle.cache_model.specs.Event.{CacheEvent, Flush, Fence}
use Rattle.args_log.specs.Created.{digest_events}
use Rattle.cnvm_session.specs.declared.mode.Mode.{Mode}
use Rattle.cnvm_session.specs.declared.mode.Mode.TheVariants.{Ready, Down, Unusable}

-- the digest's line is flushed and fenced
abbrev pub safe_events : List CacheEvent
safe_events = Flush 1 ∷ Fence ∷ []

abbrev pub moving_events : List ℤ → List CacheEvent
moving_events digest = digest_events digest ++ safe_events

-- nothing is owed: the pool takes calls, or a trap has ended it
abbrev pub is_recovered : Mode → Bool
is_recovered Ready = true
is_recovered Down = false
is_recovered (Unusable kind) = true
