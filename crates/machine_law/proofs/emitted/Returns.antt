-- A transaction's return.
use Rattle.std.proofs.Common.{◌≡◌, ℕ, zero, suc, ◌+◌, List, [], ◌∷◌, length, drop, slice_get}
use Rattle.std.proofs.Common.{Option, Some, refl, ap, ◌∙◌, arith}
use Rattle.cache_model.specs.Cache.{Words}
use Rattle.pm_machine.specs.declared.effect.Effect.{Effect}
use Rattle.pm_machine.specs.declared.effect.Effect.TheVariants.{Flushes, Fences, Quiet}
use Rattle.pm_machine.specs.declared.effect.End.TheVariants.{Halted}
use Rattle.pm_machine.specs.declared.image.Image.{Image}
use Rattle.pm_machine.specs.declared.op.Op.{Op}
use Rattle.pm_machine.specs.declared.op.Op.TheVariants.{Flush, Fence, Halt}
use Rattle.pm_machine.specs.Effects.{heap_past}
use Rattle.pm_machine.specs.Machine.{State, Run, Finished, began, follow, run, execute}
use Rattle.pm_machine.specs.Machine.{flush, fetch, passed, cleaned, read_register}
use Rattle.machine_law.specs.emitted.Returns.{last_effects, ReturnLaw}

module _ (image : Image) (heap : Words) (a : ℕ) where
  abbrev next_run : ℕ → Effect → State → Run
  next_run k e t = run image k t (heap_past heap e)

  -- one step, by the instruction there
  by_op : (k : ℕ) (s : State) (i : Option Op) → fetch image s ≡ i
      → run image (suc k) s heap ≡ follow (next_run k) (execute image heap s i)
  by_op k s i e = ap (λ (o : Option Op). follow (next_run k) (execute image heap s o)) e

  halt_run : (s : State) → fetch image s ≡ Some (Halt a)
      → run image (suc zero) s heap ≡ Finished (Halted (read_register s a)) []
  halt_run s e = by_op zero s (Some (Halt a)) e

  fence_run : (s : State) → fetch image s ≡ Some Fence → fetch image (passed s) ≡ Some (Halt a)
      → run image (suc (suc zero)) s heap ≡ Finished (Halted (read_register s a)) (Fences ∷ [])
  fence_run s e f = by_op (suc zero) s (Some Fence) e ∙ ap (began Fences) (halt_run (passed s) f)

  flush_run : (ls : List ℕ) (s : State) → s.dirty ≡ ls → fetch image s ≡ Some Flush
      → fetch image (passed s) ≡ Some Fence → fetch image (passed (passed s)) ≡ Some (Halt a) →
      run image (length ls + 3) s heap ≡ Finished (Halted (read_register s a)) (last_effects ls)
  flush_run [] s is e f g =
      let none : List ℕ = [] in
      let three : length none + 3 ≡ suc (suc (suc zero)) = omega arith in
      ap (λ (k : ℕ). run image k s heap) three
      ∙ by_op (suc (suc zero)) s (Some Flush) e
      ∙ ap (λ (ls : List ℕ). follow (next_run (suc (suc zero))) (flush s (slice_get ls 0)))
      is
      ∙ ap (began Quiet) (fence_run (passed s) f g)
  flush_run (l ∷ ls) s is e f g =
      let more : length (l ∷ ls) + 3 ≡ suc (length ls + 3) = omega arith in
      ap (λ (k : ℕ). run image k s heap) more
      ∙ by_op (length ls + 3) s (Some Flush) e
      ∙ ap (λ (ks : List ℕ). follow (next_run (length ls + 3)) (flush s (slice_get ks 0)))
      is
      ∙ ap (began (Flushes l)) (flush_run ls (cleaned s) (ap (λ (ks : List ℕ). drop 1 ks) is) e f g)

pub returned_all : ReturnLaw
returned_all image s heap a e f g = flush_run image heap a s.dirty s refl e f g
