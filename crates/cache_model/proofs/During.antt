-- Facts on lists of events that follow one another.
use Rattle.std.proofs.Common.{◌≡◌, List, [], ◌∷◌, ◌++◌, refl}
use Rattle.cache_model.specs.Event.{CacheEvent}
use Rattle.cache_model.specs.Cache.{Cache}
use Rattle.cache_model.specs.Play.{apply, play}
use Rattle.cache_model.specs.During.{during}
use Rattle.cache_model.specs.inside.During.{Through}

pub play_append : (c : Cache) (es fs : List CacheEvent) → play c (es ++ fs) ≡ play (play c es) fs
play_append c [] fs = refl
play_append c (e ∷ es) fs = play_append (apply c e) es fs

pub during_more : (c : Cache) (es : List CacheEvent) (P Q : Cache → Type 0)
    → ((d : Cache) → P d → Q d) → during c es P → during c es Q
during_more c [] P Q f h = f c h
during_more c (e ∷ es) P Q f h = (f c h.0, during_more (apply c e) es P Q f h.1)

pub during_prefix : (c : Cache) (es fs : List CacheEvent) (Q : Cache → Type 0)
    → during c (es ++ fs) Q → Q (play c es)
during_prefix c [] [] Q h = h
during_prefix c [] (f ∷ fs) Q h = h.0
during_prefix c (e ∷ es) fs Q h = during_prefix (apply c e) es fs Q h.1

pub through_append : (Q F G : Cache → Type 0) (c : Cache) (es fs : List CacheEvent)
    → Through Q F c es → ((d : Cache) → F d → Through Q G d fs) → Through Q G c (es ++ fs)
through_append Q F G c [] fs h next = next c h.1
through_append Q F G c (e ∷ es) fs h next = (h.0, through_append Q F G (apply c e) es fs h.1 next)

pub through_more : (P Q F G : Cache → Type 0) (c : Cache) (es : List CacheEvent)
    → ((d : Cache) → P d → Q d) → ((d : Cache) → F d → G d) → Through P F c es → Through Q G c es
through_more P Q F G c [] f g h = (f c h.0, g c h.1)
through_more P Q F G c (e ∷ es) f g h = (f c h.0, through_more P Q F G (apply c e) es f g h.1)

pub through_during : (Q F : Cache → Type 0) (c : Cache) (es : List CacheEvent) → Through Q F c es
    → during c es Q
through_during Q F c [] h = h.0
through_during Q F c (e ∷ es) h = (h.0, through_during Q F (apply c e) es h.1)

pub through_end : (Q F : Cache → Type 0) (c : Cache) (es : List CacheEvent) → Through Q F c es
    → F (play c es)
through_end Q F c [] h = h.1
through_end Q F c (e ∷ es) h = through_end Q F (apply c e) es h.1

pub through_of : (Q F : Cache → Type 0) (c : Cache) (es : List CacheEvent) → during c es Q
    → F (play c es) → Through Q F c es
through_of Q F c [] h end = (h, end)
through_of Q F c (e ∷ es) h end = (h.0, through_of Q F (apply c e) es h.1 end)

pub during_end : (c : Cache) (es : List CacheEvent) (Q : Cache → Type 0) → during c es Q
    → Q (play c es)
during_end c [] Q h = h
during_end c (e ∷ es) Q h = during_end (apply c e) es Q h.1
