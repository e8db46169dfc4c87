-- What a compartment sees of another's events.
use Rattle.std.specs.Prelude.{ℕ, ◌+◌, ◌≤◌, ◌⊎◌, Bool, cond}
use Rattle.cache_model.specs.Event.{Fence}
use Rattle.cache_model.specs.Cache.{Cache}
use Rattle.cache_model.specs.Play.{apply}

-- two compartments that share no line
abbrev pub AreDisjoint : (f n g m : ℕ) → Type 0
AreDisjoint f n g m = (f + n ≤ g) ⊎ (g + m ≤ f)

-- a fence of all lines, or none
abbrev pub fenced_cache : Bool → Cache → Cache
fenced_cache k c = cond k (apply c Fence) c
