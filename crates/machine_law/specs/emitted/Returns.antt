-- The return of a transaction: FLUSH, FENCE and HALT flush each dirty line once, in order, fence
-- and halt, in three steps more than there are dirty lines.
use Rattle.std.specs.Prelude.{ℕ, ◌+◌, ◌≡◌, List, [], ◌∷◌, length, Some}
use Rattle.cache_model.specs.Cache.{Words}
use Rattle.pm_machine.specs.declared.effect.Effect.{Effect}
use Rattle.pm_machine.specs.declared.effect.Effect.TheVariants.{Flushes, Fences, Quiet}
use Rattle.pm_machine.specs.declared.effect.End.TheVariants.{Halted}
use Rattle.pm_machine.specs.declared.image.Image.{Image}
use Rattle.pm_machine.specs.declared.op.Op.TheVariants.{Flush, Fence, Halt}
use Rattle.pm_machine.specs.Machine.{State, Finished, run, fetch, passed, read_register}

-- flushes of the lines, then the FLUSH that goes on, and the fence
abbrev pub last_effects : List ℕ → List Effect
last_effects [] = Quiet ∷ Fences ∷ []
last_effects (l ∷ ls) = Flushes l ∷ last_effects ls

abbrev pub ReturnLaw : Type 0
ReturnLaw = (image : Image) (s : State) (heap : Words) (a : ℕ) →
    fetch image s ≡ Some Flush → fetch image (passed s) ≡ Some Fence
    → fetch image (passed (passed s)) ≡ Some (Halt a) →
    run image (length s.dirty + 3) s heap ≡ Finished (Halted (read_register s a))
    (last_effects s.dirty)
