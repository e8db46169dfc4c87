-- An image of a cache has, for each line, the words of one version of that line.
use Rattle.std.specs.Prelude.{ℕ, ◌/◌, ◌≡◌, ◌⊎◌, List, [], ◌∷◌}
use Rattle.cache_model.specs.Cache.{Words, Line, Cache}

abbrev pub Among : List Words → Words → Type 0
Among [] v = ⊥
Among (u ∷ us) v = (v ≡ u) ⊎ Among us v

abbrev pub IsVersion : Line → Words → Type 0
IsVersion l v = (v ≡ l.newest) ⊎ Among l.older v

abbrev pub IsImage : Cache → Words → Type 0
IsImage c image = (l : ℕ) → (v : Words) × IsVersion (c l) v × ((p : ℕ) → p / 8 ≡ l → image p ≡ v p)

-- the property holds of every image of the cache
abbrev pub Images : (Words → Type 0) → Cache → Type 0
Images P c = (image : Words) → IsImage c image → P image

-- every image equals this one, word for word
abbrev pub HasOne : Cache → Words → Type 0
HasOne c one = (image : Words) → IsImage c image → (p : ℕ) → image p ≡ one p
