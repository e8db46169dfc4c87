-- The effects of a machine's run, and what the crash law uses of them.
use Rattle.std.specs.Prelude.{ℕ, suc, ◌<◌, ◌≤◌, ◌≡◌, ◌≢◌, ◌⊎◌, ◌==◌, cond, List, [], ◌∷◌, ◌++◌}
use Rattle.std.specs.Prelude.{Option, Some, None, ℤ}
use Rattle.crash_law.specs.Due.{Entry, Plain, Logged}
use Rattle.clobber_log.specs.Record.{record_events}
use Rattle.cache_model.specs.Event.{CacheEvent, Store}
use Rattle.cache_model.specs.Cache.{put}
use Rattle.pool_layout.specs.declared.places.Place.TheVariants.{Heap}
use Rattle.pool_layout.specs.declared.limits.Sizes.{Sizes}
use Rattle.pool_layout.specs.Places.{at, pool_of}

-- the effect of one machine step inside the heap; Still is a flush, a fence or nothing
pub data Effect : Type 0 where
  Loads : (word : ℕ) → Effect
  Stores : (word : ℕ) (value : ℤ) → Effect
  Logs : (word : ℕ) → Effect
  Still : Effect

-- the entry of a store, given the word of the LOG that was the last LOG or STORE before it
abbrev pub entry : Option ℕ → ℕ → ℤ → Entry
entry None w x = Plain w x
entry (Some u) w x = cond (u == w) (Logged w x) (Plain w x)

abbrev pub trace_of : Option ℕ → List Effect → List Entry
trace_of last [] = []
trace_of last (Loads w ∷ es) = trace_of last es
trace_of last (Stores w x ∷ es) = entry last w x ∷ trace_of None es
trace_of last (Logs w ∷ es) = trace_of (Some w) es
trace_of last (Still ∷ es) = trace_of last es

-- u is loaded before any store to it
abbrev pub IsInput : List Effect → ℕ → Type 0
IsInput [] u = ⊥
IsInput (Loads w ∷ es) u = (u ≡ w) ⊎ IsInput es u
IsInput (Stores w x ∷ es) u = (u ≢ w) × IsInput es u
IsInput (Logs w ∷ es) u = IsInput es u
IsInput (Still ∷ es) u = IsInput es u

-- u is stored
abbrev pub IsOverwritten : List Effect → ℕ → Type 0
IsOverwritten [] u = ⊥
IsOverwritten (Loads w ∷ es) u = IsOverwritten es u
IsOverwritten (Stores w x ∷ es) u = (u ≡ w) ⊎ IsOverwritten es u
IsOverwritten (Logs w ∷ es) u = IsOverwritten es u
IsOverwritten (Still ∷ es) u = IsOverwritten es u

-- u has a LOG before any store to it
abbrev pub IsLoggedFirst : List Effect → ℕ → Type 0
IsLoggedFirst [] u = ⊥
IsLoggedFirst (Loads w ∷ es) u = IsLoggedFirst es u
IsLoggedFirst (Stores w x ∷ es) u = (u ≢ w) × IsLoggedFirst es u
IsLoggedFirst (Logs w ∷ es) u = (u ≡ w) ⊎ IsLoggedFirst es u
IsLoggedFirst (Still ∷ es) u = IsLoggedFirst es u

-- after each LOG, the next LOG or STORE is a store to its word
abbrev pub IsPaired : Option ℕ → List Effect → Type 0
IsPaired None [] = Unit {0}
IsPaired (Some u) [] = ⊥
IsPaired last (Loads w ∷ es) = IsPaired last es
IsPaired None (Stores w x ∷ es) = IsPaired None es
IsPaired (Some u) (Stores w x ∷ es) = (u ≡ w) × IsPaired None es
IsPaired None (Logs w ∷ es) = IsPaired (Some w) es
IsPaired (Some u) (Logs w ∷ es) = ⊥
IsPaired last (Still ∷ es) = IsPaired last es

abbrev pub logs_of : List Effect → ℕ
logs_of [] = 0
logs_of (Loads w ∷ es) = logs_of es
logs_of (Stores w x ∷ es) = logs_of es
logs_of (Logs w ∷ es) = suc (logs_of es)
logs_of (Still ∷ es) = logs_of es

-- what Sound says of a run's effects
pub record IsSound (C H : ℕ) (es : List Effect) : Type 0 where
  pub in_heap : (w : ℕ) → IsOverwritten es w → w < H
  pub covered : (w : ℕ) → IsInput es w → IsOverwritten es w → IsLoggedFirst es w
  pub paired : IsPaired None es
  pub fits : logs_of es ≤ C

-- the events of a run step by step: those of one effect, and then those of the rest
abbrev pub effect_events : (z : Sizes) (a n : ℕ) → (ℕ → ℤ) → List Effect → List CacheEvent
effect_events z a n heap [] = []
effect_events z a n heap (Loads w ∷ es) = effect_events z a n heap es
effect_events z a n heap (Stores w x ∷ es) =
    Store (at (pool_of z) (Heap w)) x ∷ effect_events z a n (put heap w x) es
effect_events z a n heap (Logs w ∷ es) =
    record_events z n w (heap w) (suc a) ++ effect_events z a (suc n) heap es
effect_events z a n heap (Still ∷ es) = effect_events z a n heap es
