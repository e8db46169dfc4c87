-- Lists of effects, with the first or with the newest at the front.
use Rattle.std.proofs.Common.{◌≡◌, List, [], ◌∷◌, ◌++◌, refl, sym, ap, ◌∙◌}
use Rattle.pm_machine.specs.declared.effect.Effect.{Effect}
use Rattle.pm_machine.specs.declared.effect.Effect.TheVariants.{Loads, Scans, Stores, Logs, Flushes}
use Rattle.pm_machine.specs.declared.effect.Effect.TheVariants.{Fences, Quiet}
use Rattle.machine_law.specs.emitted.Moments.{onto}
use Rattle.machine_law.specs.emitted.Placed.{heard}
use Rattle.machine_law.specs.matching.Accesses.{accesses}

pub accesses_heard : (es : List Effect) → accesses (heard es) ≡ accesses es
accesses_heard [] = refl
accesses_heard (Loads w ∷ es) = ap (λ (fs : List Effect). Loads w ∷ fs) (accesses_heard es)
accesses_heard (Scans w apart many ∷ es) =
    ap (λ (fs : List Effect). Scans w apart many ∷ fs) (accesses_heard es)
accesses_heard (Stores w x ∷ es) = ap (λ (fs : List Effect). Stores w x ∷ fs) (accesses_heard es)
accesses_heard (Logs w ∷ es) = ap (λ (fs : List Effect). Logs w ∷ fs) (accesses_heard es)
accesses_heard (Flushes l ∷ es) = accesses_heard es
accesses_heard (Fences ∷ es) = accesses_heard es
accesses_heard (Quiet ∷ es) = accesses_heard es

pub accesses_onto : (es seen : List Effect)
    → accesses (onto es seen) ≡ onto (accesses es) (accesses seen)
accesses_onto [] seen = refl
accesses_onto (Loads w ∷ es) seen = accesses_onto es (Loads w ∷ seen)
accesses_onto (Scans w apart many ∷ es) seen = accesses_onto es (Scans w apart many ∷ seen)
accesses_onto (Stores w x ∷ es) seen = accesses_onto es (Stores w x ∷ seen)
accesses_onto (Logs w ∷ es) seen = accesses_onto es (Logs w ∷ seen)
accesses_onto (Flushes l ∷ es) seen = accesses_onto es (Flushes l ∷ seen)
accesses_onto (Fences ∷ es) seen = accesses_onto es (Fences ∷ seen)
accesses_onto (Quiet ∷ es) seen = accesses_onto es (Quiet ∷ seen)

onto_onto : (es fs gs : List Effect) → onto (onto es fs) gs ≡ onto fs (es ++ gs)
onto_onto [] fs gs = refl
onto_onto (e ∷ es) fs gs = onto_onto es (e ∷ fs) gs ∙ refl

append_none : (es : List Effect) → es ++ [] ≡ es
append_none [] = refl
append_none (e ∷ es) = ap (λ (fs : List Effect). e ∷ fs) (append_none es)

back_again : (es : List Effect) → onto (onto es []) [] ≡ es
back_again es = onto_onto es [] [] ∙ append_none es

-- a list is determined by what adding it to the empty list gives
pub onto_same : (es fs : List Effect) → onto es [] ≡ onto fs [] → es ≡ fs
onto_same es fs e = sym (back_again es) ∙ ap (λ (gs : List Effect). onto gs []) e ∙ back_again fs
