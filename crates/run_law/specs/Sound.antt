-- The conditions on a run's effects: it is covered, each LOG is followed by its STORE, and it
-- flushes and fences only at its end.
use Rattle.std.specs.Prelude.{ℕ, ◌/◌, ◌≡◌, List, [], ◌∷◌, nat_eq, None}
use Rattle.indexmap.specs.IndexSet.{insert_key}
use Rattle.crash_law.specs.Effects.{IsLoggedFirst, IsPaired}
use Rattle.pm_machine.specs.declared.effect.Effect.{Effect}
use Rattle.pm_machine.specs.declared.effect.Effect.TheVariants.{Loads, Scans, Stores, Logs, Flushes}
use Rattle.pm_machine.specs.declared.effect.Effect.TheVariants.{Fences, Quiet}
use Rattle.pm_machine.specs.declared.effect.End.{End}
use Rattle.pm_machine.specs.declared.effect.End.TheVariants.{Halted, Trapped}
use Rattle.pm_machine.specs.declared.records.Policy.{Policy}
use Rattle.run_law.specs.Seen.{seen_all, E, W}

-- for each word that is stored and whose first value is to be restored, a LOG of the word comes
-- before its first store
abbrev pub IsCoveredRun : Policy → List Effect → Type 0
IsCoveredRun p es = (w : ℕ) → E p es w → W es w → IsLoggedFirst (seen_all es) w

-- each LOG is followed by its STORE
abbrev pub IsPairedRun : List Effect → Type 0
IsPairedRun es = IsPaired None (seen_all es)

-- the effects have no flush and no fence
abbrev pub IsStill : List Effect → Type 0
IsStill [] = Unit {0}
IsStill (Loads w ∷ es) = IsStill es
IsStill (Scans w apart many ∷ es) = IsStill es
IsStill (Stores w x ∷ es) = IsStill es
IsStill (Logs w ∷ es) = IsStill es
IsStill (Flushes l ∷ es) = ⊥
IsStill (Fences ∷ es) = ⊥
IsStill (Quiet ∷ es) = IsStill es

-- these lines are flushed in order, followed by the fence and nothing else
abbrev pub IsFlushed : List ℕ → List Effect → Type 0
IsFlushed ls [] = ⊥
IsFlushed ls (Loads w ∷ es) = IsFlushed ls es
IsFlushed ls (Scans w apart many ∷ es) = IsFlushed ls es
IsFlushed ls (Stores w x ∷ es) = ⊥
IsFlushed ls (Logs w ∷ es) = ⊥
IsFlushed ls (Quiet ∷ es) = IsFlushed ls es
IsFlushed [] (Flushes l ∷ es) = ⊥
IsFlushed (k ∷ ks) (Flushes l ∷ es) = (l ≡ k) × IsFlushed ks es
IsFlushed [] (Fences ∷ es) = es ≡ []
IsFlushed (k ∷ ks) (Fences ∷ es) = ⊥

-- given the lines stored so far: no flush and no fence, then each stored line flushed in the order
-- of first stores, then the fence
abbrev pub IsTidy : List ℕ → List Effect → Type 0
IsTidy ls [] = ⊥
IsTidy ls (Loads w ∷ es) = IsTidy ls es
IsTidy ls (Scans w apart many ∷ es) = IsTidy ls es
IsTidy ls (Stores w x ∷ es) = IsTidy (insert_key nat_eq ls (w / 8)) es
IsTidy ls (Logs w ∷ es) = IsTidy ls es
IsTidy ls (Flushes l ∷ es) = IsFlushed ls (Flushes l ∷ es)
IsTidy ls (Fences ∷ es) = IsFlushed ls (Fences ∷ es)
IsTidy ls (Quiet ∷ es) = IsTidy ls es

-- the effects and the end of a tidy run, given the lines that it began with
abbrev pub IsTidyEnd : List ℕ → End → List Effect → Type 0
IsTidyEnd ls (Halted v) es = IsTidy ls es
IsTidyEnd ls (Trapped k) es = IsStill es

-- The parts of Sound that concern one run.
pub record IsSoundRun (p : Policy) (end : End) (es : List Effect) : Type 0 where
  pub covered : IsCoveredRun p es
  pub paired : IsPairedRun es
  pub tidy : IsTidyEnd [] end es
