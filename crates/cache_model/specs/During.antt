-- A property that holds of a cache before a list of events, between any two of them and after them.
use Rattle.std.specs.Prelude.{List, [], ◌∷◌}
use Rattle.cache_model.specs.Event.{CacheEvent}
use Rattle.cache_model.specs.Cache.{Cache}
use Rattle.cache_model.specs.Play.{apply}

abbrev pub during : Cache → List CacheEvent → (Cache → Type 0) → Type 0
during c [] Q = Q c
during c (e ∷ es) Q = Q c × during (apply c e) es Q
