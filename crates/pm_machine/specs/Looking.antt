-- A run that only looks: it loads, and has no event. FENCE goes on, and so does FLUSH, since no
-- line is dirty. Where another effect is due it ends with the trap depth, which never happens in
-- code that only looks.
use Rattle.std.specs.Prelude.{ℕ, zero, suc, List, [], ◌∷◌, Bool, true, false}
use Rattle.std.specs.Prelude.{if◌then◌else◌, ◌≡◌, Option, Some, None}
use Rattle.cache_model.specs.Cache.{Words}
use Rattle.pool_map.specs.declared.trap.TrapKind.TheVariants.{Steps, Depth}
use Rattle.pm_machine.specs.declared.effect.Effect.{Effect}
use Rattle.pm_machine.specs.declared.effect.Effect.TheVariants.{Loads, Scans, Stores, Logs, Flushes}
use Rattle.pm_machine.specs.declared.effect.Effect.TheVariants.{Fences, Quiet}
use Rattle.pm_machine.specs.declared.effect.End.{End}
use Rattle.pm_machine.specs.declared.effect.End.TheVariants.{Trapped}
use Rattle.pm_machine.specs.declared.image.Image.{Image}
use Rattle.pm_machine.specs.Machine.{State, StepOutcome, Goes, Ends, step}

abbrev pub is_look : Effect → Bool
is_look (Loads w) = true
is_look (Scans w apart m) = false
is_look (Stores w x) = false
is_look (Logs w) = false
is_look (Flushes l) = false
is_look Fences = true
is_look Quiet = true

abbrev pub AreLooks : List Effect → Type 0
AreLooks [] = Unit {0}
AreLooks (e ∷ es) = (is_look e ≡ true) × AreLooks es

-- how such a run ends, and after how many steps
pub record Look : Type 0 where
  pub end : End
  pub steps : ℕ

abbrev pub later : Look → Look
later x = record { end = x.end; steps = suc x.steps }

abbrev pub look_on : (State → Look) → StepOutcome → Look
look_on rest (Ends end) = record { end = end; steps = 1 }
look_on rest (Goes e s) = if is_look e then later (rest s)
    else record { end = Trapped Depth; steps = 1 }

-- the run from a state, of at most k steps; one that hasn't ended by then ends as if it had no tick
-- left
abbrev pub look_of : Image → (k : ℕ) → State → Words → Look
look_of image zero s heap = record { end = Trapped Steps; steps = 0 }
look_of image (suc k) s heap = look_on (λ t. look_of image k t heap) (step image s heap)

-- the processor of a run that only looks went on as this step goes on, or ended as it ends
abbrev pub IsLook : Option End → State → StepOutcome → Type 0
IsLook None s (Goes e t) = (is_look e ≡ true) × (s ≡ t)
IsLook None s (Ends end) = ⊥
IsLook (Some q) s (Goes e t) = (is_look e ≡ false) × (q ≡ Trapped Depth)
IsLook (Some q) s (Ends end) = q ≡ end
