-- The laws of events: the effect of a store, a flush and a fence on the versions of a line and on
-- the view, what a fence leaves of a flushed line, events played one after another, and what a
-- power cut leaves.
use Rattle.std.specs.Prelude.{ℕ, ◌/◌, ◌≡◌, ◌≢◌, ◌⊎◌, List, ◌++◌, ℤ}
use Rattle.cache_model.specs.Event.{CacheEvent, Store, Flush, Fence}
use Rattle.cache_model.specs.Cache.{Words, put, Cache, view}
use Rattle.cache_model.specs.Play.{apply, play, IsReady}
use Rattle.cache_model.specs.Image.{IsVersion, IsImage, HasOne}
use Rattle.cache_model.specs.During.{during}
use Rattle.cache_model.specs.Collapse.{left_cache}
use Rattle.cache_model.specs.declared.choice.Rest.{Rest}
use Rattle.cache_model.specs.declared.choice.Pick.{Pick}

-- A store adds one version to its line and changes one word of the view.
abbrev pub StoreLaw : Type 0
StoreLaw =
    ((c : Cache) (p : ℕ) (x : ℤ) (l : ℕ) (v : Words) → IsVersion (apply c (Store p x) l) v
    → IsVersion (c l) v ⊎ ((l ≡ p / 8) × (v ≡ put (c l).newest p x)))
    × ((c : Cache) (p l : ℕ) (x : ℤ) → l ≢ p / 8 → apply c (Store p x) l ≡ c l)
    × ((c : Cache) (p q : ℕ) (x : ℤ) → view (apply c (Store p x)) q ≡ put (view c) p x q)

-- A flush adds no version, leaves the view, and makes its line ready for a fence.
abbrev pub FlushLaw : Type 0
FlushLaw =
    ((c : Cache) (k l : ℕ) (v : Words) → IsVersion (apply c (Flush k) l) v → IsVersion (c l) v)
    × ((c : Cache) (k q : ℕ) → view (apply c (Flush k)) q ≡ view c q)
    × ((c : Cache) (k l : ℕ) → (l ≢ k → IsReady (c l)) → IsReady (apply c (Flush k) l))

-- A fence adds no version, leaves the view, and leaves a ready line only its newest version.
abbrev pub FenceLaw : Type 0
FenceLaw =
    ((c : Cache) (l : ℕ) (v : Words) → IsVersion (apply c Fence l) v → IsVersion (c l) v)
    × ((c : Cache) (q : ℕ) → view (apply c Fence) q ≡ view c q)
    × ((c : Cache) (l : ℕ) (v : Words) → IsReady (c l) → IsVersion (apply c Fence l) v
    → v ≡ (c l).newest)

-- Lists of events are played one after another, and a property that holds throughout both parts
-- holds throughout the whole.
abbrev pub PlayLaw : Type 0
PlayLaw =
    ((c : Cache) (es fs : List CacheEvent) → play c (es ++ fs) ≡ play (play c es) fs)
    × ((c : Cache) (es : List CacheEvent) (one : Words) → during c es (λ d. HasOne d one)
    → HasOne (play c es) one)

-- What a power cut leaves is an image of the cache before, and the cache after it has no other
-- image.
abbrev pub CollapseLaw : Type 0
CollapseLaw =
    (c : Cache) (rest : Rest) (picks : List Pick) →
    IsImage c (view (left_cache c rest picks))
    × HasOne (left_cache c rest picks) (view (left_cache c rest picks))
