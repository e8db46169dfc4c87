-- The inputs and the overwrites of a run, from its effects, for each heap word. The load inside LOG
-- doesn't count.
use Rattle.std.specs.Prelude.{ℕ, ◌<◌, ◌≡◌, ◌≢◌, ◌⊎◌, List, [], ◌∷◌}
use Rattle.cache_model.specs.Cache.{Words}
use Rattle.pm_machine.specs.declared.effect.Effect.{Effect}
use Rattle.pm_machine.specs.declared.effect.Effect.TheVariants.{Loads, Scans, Stores, Logs, Flushes}
use Rattle.pm_machine.specs.declared.effect.Effect.TheVariants.{Fences, Quiet}
use Rattle.pm_machine.specs.Find.{IsHeader}

-- u is loaded before any store to it
abbrev pub IsInput : List Effect → ℕ → Type 0
IsInput [] u = ⊥
IsInput (Loads w ∷ es) u = (u ≡ w) ⊎ IsInput es u
IsInput (Scans w apart m ∷ es) u = IsHeader w apart m u ⊎ IsInput es u
IsInput (Stores w x ∷ es) u = (u ≢ w) × IsInput es u
IsInput (Logs w ∷ es) u = IsInput es u
IsInput (Flushes l ∷ es) u = IsInput es u
IsInput (Fences ∷ es) u = IsInput es u
IsInput (Quiet ∷ es) u = IsInput es u

-- u is stored
abbrev pub IsOverwritten : List Effect → ℕ → Type 0
IsOverwritten [] u = ⊥
IsOverwritten (Loads w ∷ es) u = IsOverwritten es u
IsOverwritten (Scans w apart m ∷ es) u = IsOverwritten es u
IsOverwritten (Stores w x ∷ es) u = (u ≡ w) ⊎ IsOverwritten es u
IsOverwritten (Logs w ∷ es) u = IsOverwritten es u
IsOverwritten (Flushes l ∷ es) u = IsOverwritten es u
IsOverwritten (Fences ∷ es) u = IsOverwritten es u
IsOverwritten (Quiet ∷ es) u = IsOverwritten es u

-- heaps of H words that differ only in words that the run stores and doesn't load before
abbrev pub AreAlike : (H : ℕ) → List Effect → (h r : Words) → Type 0
AreAlike H es h r = (u : ℕ) → u < H → (IsOverwritten es u → ⊥) ⊎ IsInput es u → h u ≡ r u
