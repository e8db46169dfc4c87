-- More fuel changes nothing.
use Rattle.std.proofs.Common.{◌≡◌, ℕ, zero, suc, ◌≤◌, List, ◌∷◌, sym, ap, ◌∙◌, arith}
use Rattle.cache_model.specs.Cache.{Words}
use Rattle.pm_machine.specs.declared.image.Image.{Image}
use Rattle.pm_machine.specs.declared.effect.Effect.{Effect}
use Rattle.pm_machine.specs.declared.effect.End.{End}
use Rattle.pm_machine.specs.Effects.{heap_past}
use Rattle.pm_machine.specs.Machine.{State, StepOutcome, Goes, Ends, Run, Unfinished, Finished}
use Rattle.pm_machine.specs.Machine.{began, follow, step, run}

-- a finished run that began with a step is that step and a finished run
pub began_rest : (e : Effect) (x : Run) (end : End) (es : List Effect) → began e x ≡ Finished end es
    → (rest : List Effect) × (x ≡ Finished end rest) × (es ≡ e ∷ rest)
began_rest e Unfinished end es h = absurd (cc)
began_rest e (Finished q qs) end es h = (qs, cc, cc)

more : (o : StepOutcome) (f g : Effect → State → Run) (end : End) (es : List Effect)
    → ((e : Effect) (t : State) (rest : List Effect) → f e t ≡ Finished end rest
    → g e t ≡ Finished end rest) → follow f o ≡ Finished end es → follow g o ≡ Finished end es
more (Ends q) f g end es next h = h
more (Goes e t) f g end es next h =
    let inv = began_rest e (f e t) end es h in
    ap (began e) (next e t inv.0 inv.1) ∙ ap (Finished end) (sym inv.2)

pub more_fuel : (image : Image) (k m : ℕ) (s : State) (heap : Words) (end : End)
    (es : List Effect) → k ≤ m → run image k s heap ≡ Finished end es
    → run image m s heap ≡ Finished end es
more_fuel image zero m s heap end es le h = absurd (cc)
more_fuel image (suc k) zero s heap end es le h = absurd (omega arith)
more_fuel image (suc k) (suc m) s heap end es le h =
    more (step image s heap) (λ e t. run image k t (heap_past heap e))
    (λ e t. run image m t (heap_past heap e)) end es
    (λ e t rest. more_fuel image k m t (heap_past heap e) end rest (omega arith))
    h
