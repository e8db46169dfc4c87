-- What only bodies and proofs need beside `During`.
use Rattle.std.specs.Prelude.{List, [], ◌∷◌}
use Rattle.cache_model.specs.Event.{CacheEvent}
use Rattle.cache_model.specs.Cache.{Cache}
use Rattle.cache_model.specs.Play.{apply}

-- Q holds before, between and after the events, and F after them
abbrev pub Through : (Q F : Cache → Type 0) → Cache → List CacheEvent → Type 0
Through Q F c [] = Q c × F c
Through Q F c (e ∷ es) = Q c × Through Q F (apply c e) es
