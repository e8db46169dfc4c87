-- A run whose effects are all those of a look is one.
use Rattle.std.proofs.Common.{◌≡◌, ℕ, zero, suc, ◌+◌, List, [], ◌∷◌, length, Bool, true, refl, sym}
use Rattle.std.proofs.Common.{ap, ◌∙◌, subst, arith}
use Rattle.std.specs.Prelude.{if◌then◌else◌}
use Rattle.cache_model.specs.Cache.{Words}
use Rattle.pool_map.specs.declared.trap.TrapKind.TheVariants.{Depth}
use Rattle.pm_machine.specs.declared.image.Image.{Image}
use Rattle.pm_machine.specs.declared.effect.Effect.{Effect}
use Rattle.pm_machine.specs.declared.effect.Effect.TheVariants.{Loads, Scans, Stores, Logs, Flushes}
use Rattle.pm_machine.specs.declared.effect.Effect.TheVariants.{Fences, Quiet}
use Rattle.pm_machine.specs.declared.effect.End.{End}
use Rattle.pm_machine.specs.declared.effect.End.TheVariants.{Trapped}
use Rattle.pm_machine.specs.Effects.{heap_past, heap_end}
use Rattle.pm_machine.specs.Machine.{State, StepOutcome, Goes, Ends, Run, Finished, follow, step}
use Rattle.pm_machine.specs.Machine.{run}
use Rattle.pm_machine.specs.Looking.{Look, is_look, AreLooks, later, look_on, look_of}
use Rattle.pm_machine.specs.Law.{IsLookOf}
use Rattle.pm_machine.proofs.Fuel.{began_rest}

-- a look leaves the heap as it is
look_past : (heap : Words) (e : Effect) → is_look e ≡ true → heap_past heap e ≡ heap
look_past heap (Loads w) h = refl
look_past heap Fences h = refl
look_past heap Quiet h = refl
look_past heap (Scans w apart m) h = absurd (cc)
look_past heap (Stores w x) h = absurd (cc)
look_past heap (Logs w) h = absurd (cc)
look_past heap (Flushes l) h = absurd (cc)

-- a look that comes to this end, with these effects
pub record Comes (x : Look) (heap : Words) (end : End) (es : List Effect) : Type 0 where
  pub end_is : x.end ≡ end
  pub steps_are : x.steps ≡ length es + 1
  pub heap_is : heap_end heap es ≡ heap

comes_later : (x : Look) (heap : Words) (end : End) (e : Effect) (rest : List Effect)
    → is_look e ≡ true → Comes x heap end rest → Comes (later x) heap end (e ∷ rest)
comes_later x heap end e rest look h = record {
  end_is = h.end_is;
  steps_are = let same = h.steps_are in omega arith;
  heap_is = ap (λ (g : Words). heap_end g rest) (look_past heap e look) ∙ h.heap_is;
}

comes_on : (o : StepOutcome) (rest : State → Look) (f : Effect → State → Run) (heap : Words)
    (end : End) (es : List Effect) →
    ((e : Effect) (t : State) (es1 : List Effect) → is_look e ≡ true → AreLooks es1
    → f e t ≡ Finished end es1 → Comes (rest t) heap end es1) →
    follow f o ≡ Finished end es → AreLooks es → Comes (look_on rest o) heap end es
comes_on (Ends q) rest f heap end es next ran looks =
    let ends : q ≡ end = cc in
    let none : [] ≡ es = cc in
    subst (λ (fs : List Effect). Comes (record { end = q; steps = 1 }) heap end fs) none
    (record { end_is = ends; steps_are = refl; heap_is = refl })
comes_on (Goes e t) rest f heap end es next ran looks =
    let inv = began_rest e (f e t) end es ran in
    let l = subst AreLooks inv.2 looks in
    subst (λ (fs : List Effect). Comes (look_on rest (Goes e t)) heap end fs) (sym inv.2)
    (subst (λ (b : Bool). Comes (if b then later (rest t)
    else record { end = Trapped Depth; steps = 1 }) heap end (e ∷ inv.0)) (sym l.0)
    (comes_later (rest t) heap end e inv.0 l.0 (next e t inv.0 l.0 l.1 inv.1)))

comes_run : (image : Image) (k : ℕ) (s : State) (heap : Words) (end : End) (es : List Effect)
    → run image k s heap ≡ Finished end es → AreLooks es
    → Comes (look_of image k s heap) heap end es
comes_run image zero s heap end es h looks = absurd (cc)
comes_run image (suc k) s heap end es h looks =
    comes_on (step image s heap) (λ t. look_of image k t heap)
    (λ e t. run image k t (heap_past heap e)) heap end es
    (λ e t es1 look others ran. comes_run image k t heap end es1
    (ap (run image k t) (sym (look_past heap e look)) ∙ ran) others) h looks

pub look_run : (image : Image) (k : ℕ) (s : State) (heap : Words) (end : End) (es : List Effect)
    → run image k s heap ≡ Finished end es → AreLooks es → IsLookOf image k s heap end es
look_run image k s heap end es ran looks =
    let c = comes_run image k s heap end es ran looks in
    record { end_is = c.end_is; steps_are = c.steps_are; heap_is = c.heap_is }
