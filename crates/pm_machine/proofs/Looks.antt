-- The loop of a run that only looks: what is left of it completes what was left at the start.
use Rattle.std.proofs.Common.{◌≡◌, ℕ, suc, ◌+◌, ◌-◌, ◌<◌, List, Some, None, refl, sym, ap, ◌∙◌}
use Rattle.std.proofs.Common.{subst, arith, slice_get, Bool, true}
use Rattle.std.specs.Prelude.{if◌then◌else◌}
use Rattle.cache_model.specs.Cache.{Words}
use Rattle.pmem.specs.Device.{Device}
use Rattle.pool_map.specs.declared.trap.TrapKind.TheVariants.{Depth}
use Rattle.pm_machine.specs.declared.op.Op.{Op}
use Rattle.pm_machine.specs.declared.effect.Effect.{Effect}
use Rattle.pm_machine.specs.declared.effect.Effect.TheVariants.{Loads, Scans, Stores, Logs, Flushes}
use Rattle.pm_machine.specs.declared.effect.Effect.TheVariants.{Fences, Quiet}
use Rattle.pm_machine.specs.declared.effect.End.{End}
use Rattle.pm_machine.specs.declared.effect.End.TheVariants.{Trapped}
use Rattle.pm_machine.specs.declared.image.Image.{Image}
use Rattle.pm_machine.specs.Machine.{State, StepOutcome, Goes, Ends, step, execute}
use Rattle.pm_machine.specs.Looking.{Look, is_look, later, look_on, look_of, IsLook}
use Rattle.pm_machine.specs.Runs.{heap_in}
use Rattle.pm_machine.specs.inside.Runs.{GoesSilently, RestLooks}
use Rattle.pm_machine.specs.inside.Code.{code_of}
use Rattle.pm_machine.proofs.Leads.{fetched}

-- first one part of a run, and then the next
pub looks_after : (image : Image) (d : Device) (n k : ℕ) (s : State) (n1 k1 : ℕ) (s1 : State)
    (n0 k0 : ℕ) (s0 : State) → RestLooks image d n k s n1 k1 s1
    → RestLooks image d n1 k1 s1 n0 k0 s0 → RestLooks image d n k s n0 k0 s0
looks_after image d n k s n1 k1 s1 n0 k0 s0 next first =
    record { end = next.end ∙ first.end; steps = next.steps ∙ first.steps }

-- one step of the loop, with m steps left
module _ (image : Image) (d : Device) (m k : ℕ) (s : State) (n0 k0 : ℕ) (s0 : State) where
  abbrev heap : Words
  heap = heap_in image.parts.sizes d.cache

  abbrev rest : State → Look
  rest t = look_of image (m - 1) t heap

  abbrev start : Look
  start = look_of image n0 s0 heap

  -- what is left, by the outcome of its first step
  pub record Opened (o : StepOutcome) : Type 0 where
    pub end : (look_on rest o).end ≡ start.end
    pub steps : k + (look_on rest o).steps ≡ k0 + start.steps

  -- m isn't 0
  opened : 0 < m → RestLooks image d m k s n0 k0 s0 → Opened (step image s heap)
  opened some h =
      let e : m ≡ suc (m - 1) = omega arith in
      let l = subst (λ (n : ℕ). RestLooks image d n k s n0 k0 s0) e h in
      record { end = l.end; steps = l.steps }

  went : (t : State) (k1 : ℕ) (e : Effect) → is_look e ≡ true → k1 ≡ k + 1 → Opened (Goes e t)
      → RestLooks image d (m - 1) k1 t n0 k0 s0
  went t k1 e look tick l =
      let same : look_on rest (Goes e t) ≡ later (rest t) =
      ap (λ (b : Bool). if b then later (rest t) else record { end = Trapped Depth; steps = 1 })
      look in
      record {
        end = sym (ap (λ (x : Look). x.end) same) ∙ l.end;
        steps = let q = sym (ap (λ (x : Look). k + x.steps) same) ∙ l.steps in omega arith;
      }

  pub looks_did : (t : State) (k1 : ℕ) → IsLook None t (step image s heap) → k1 ≡ k + 1 → 0 < m
      → RestLooks image d m k s n0 k0 s0 → RestLooks image d (m - 1) k1 t n0 k0 s0
  looks_did t k1 is tick some h = go (step image s heap) is (opened some h)
    where
      go : (o : StepOutcome) → IsLook None t o → Opened o → RestLooks image d (m - 1) k1 t n0 k0 s0
      go (Goes e u) is l =
          went t k1 e is.0 tick (subst (λ (v : State). Opened (Goes e v)) (sym is.1) l)
      go (Ends end) is l = absurd is

  pub looks_ended : (q : End) (t : State) (k1 : ℕ) → IsLook (Some q) t (step image s heap)
      → k1 ≡ k + 1 → 0 < m → RestLooks image d m k s n0 k0 s0
      → (q ≡ start.end) × (k1 ≡ k0 + start.steps)
  looks_ended q t k1 is tick some h = go (step image s heap) is (opened some h)
    where
      go : (o : StepOutcome) → IsLook (Some q) t o → Opened o
          → (q ≡ start.end) × (k1 ≡ k0 + start.steps)
      go (Goes e u) is l =
          let same : look_on rest (Goes e u) ≡ record { end = Trapped Depth; steps = 1 } =
          ap (λ (b : Bool). if b then later (rest u)
          else record { end = Trapped Depth; steps = 1 }) is.0 in
          let ends = sym (ap (λ (x : Look). x.end) same) ∙ l.end in
          let steps = sym (ap (λ (x : Look). k + x.steps) same) ∙ l.steps in
          (is.1 ∙ ends, tick ∙ steps)
      go (Ends end) is l = (is ∙ l.end, tick ∙ l.steps)

  -- a step without an event
  pub looks_silent : (code : List Op) (t : State) (k1 : ℕ)
      → code ≡ code_of image.parts.functions s.top.function
      → GoesSilently t (execute image heap s (slice_get code s.top.place)) → k1 ≡ k + 1 → 0 < m
      → RestLooks image d m k s n0 k0 s0 → RestLooks image d (m - 1) k1 t n0 k0 s0
  looks_silent code t k1 is silent tick some h =
      looks_did t k1
      (subst (IsLook None t) (ap (execute image heap s) (fetched image s code is))
      (go (execute image heap s (slice_get code s.top.place)) silent)) tick some h
    where
      go : (o : StepOutcome) → GoesSilently t o → IsLook None t o
      go (Goes Quiet u) silent = (refl, silent)
      go (Goes (Loads w) u) silent = (refl, silent)
      go (Goes (Scans w apart l) u) silent = absurd silent
      go (Goes (Stores w x) u) silent = absurd silent
      go (Goes (Logs w) u) silent = absurd silent
      go (Goes (Flushes l) u) silent = absurd silent
      go (Goes Fences u) silent = absurd silent
      go (Ends end) silent = absurd silent
