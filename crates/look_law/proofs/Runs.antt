-- Code that only looks has the effects of a look alone.
use Rattle.std.proofs.Common.{◌≡◌, ℕ, zero, suc, ◌+◌, ◌-◌, Bool, true, false, List, [], ◌∷◌}
use Rattle.std.proofs.Common.{length, take, Option, None, Some, ℤ, refl, sym, ap, subst, ltb, ◌==◌}
use Rattle.std.proofs.Common.{if◌then◌else◌, slice_get}
use Rattle.std.specs.Ordering.{int_eq}
use Rattle.std.specs.List.{AllByRecursion}
use Rattle.std.specs.Prelude.{pos}
use Rattle.nvm_base.proofs.Lists.{all_at, all_append}
use Rattle.cache_model.specs.Cache.{Words}
use Rattle.pool_map.specs.declared.trap.TrapKind.TheVariants.{Steps, Depth}
use Rattle.pm_machine.specs.declared.effect.Effect.{Effect}
use Rattle.pm_machine.specs.declared.effect.Effect.TheVariants.{Quiet}
use Rattle.pm_machine.specs.declared.effect.End.{End}
use Rattle.pm_machine.specs.declared.effect.End.TheVariants.{Trapped}
use Rattle.pm_machine.specs.declared.frame.Frame.{Frame}
use Rattle.pm_machine.specs.declared.image.Image.{Image}
use Rattle.pm_machine.specs.declared.op.Op.{Op}
use Rattle.pm_machine.specs.declared.op.Op.TheVariants as op
use Rattle.pm_machine.specs.Effects.{heap_past}
use Rattle.pm_machine.specs.Looking.{is_look, AreLooks}
use Rattle.look_law.specs.MachineCode.{op_looks_at, AreLooking, FrameLooks, IsLooking}
use Rattle.pm_machine.specs.Machine.{State, StepOutcome, Goes, Ends, Run, Finished, follow, run}
use Rattle.pm_machine.specs.Machine.{step, execute, target, read_register, load, flush, call}
use Rattle.pm_machine.specs.Machine.{return, fetch_in, passed, moved_to, tick_spent, entered}
use Rattle.pm_machine.specs.Machine.{frame_at}
use Rattle.pm_machine.proofs.Fuel.{began_rest}

all_take : (P : Frame → Type 0) (n : ℕ) (bs : List Frame) → AllByRecursion P bs
    → AllByRecursion P (take n bs)
all_take P zero bs h = tt
all_take P (suc n) [] h = tt
all_take P (suc n) (b ∷ bs) h = (h.0, all_take P n bs h.1)

module _ (looking : ℕ → Bool) where
  abbrev Kept : StepOutcome → Type 0
  Kept (Goes e t) = (is_look e ≡ true) × IsLooking looking t
  Kept (Ends end) = Unit {0}

  -- one step from such a state
  module _ (image : Image) (heap : Words) (s : State) (h : IsLooking looking s) where
    kept_load : (r : ℕ) (p : Option ℕ) → Kept (load heap s r p)
    kept_load r None = (refl, record { top = h.top; below = h.below; clean = h.clean })
    kept_load r (Some w) = (refl, record { top = h.top; below = h.below; clean = h.clean })

    kept_branch : (t : ℕ) (b : Bool)
        → Kept (Goes Quiet (if b then moved_to s t else passed s))
    kept_branch t true = (refl, record { top = h.top; below = h.below; clean = h.clean })
    kept_branch t false = (refl, record { top = h.top; below = h.below; clean = h.clean })

    kept_flush : (o : Option ℕ) → o ≡ None → Kept (flush s o)
    kept_flush None none = (refl, record { top = h.top; below = h.below; clean = h.clean })
    kept_flush (Some l) none = absurd (cc)

    kept_call : (r f : ℕ) (args : List ℕ) → looking f ≡ true → Kept (call s r f args)
    kept_call r f args looks = by_depth (ltb (length s.below + 1) 256)
      where
        by_depth : (b : Bool) → Kept (if b then Goes Quiet (entered s r f args)
            else Ends (Trapped Depth))
        by_depth true = (
          refl,
          record {
            top = looks;
            below = all_append (FrameLooks looking) s.below
                (frame_at s.top (s.top.place + 1) ∷ []) h.below (h.top, tt);
            clean = h.clean;
          },
        )
        by_depth false = tt

    kept_return : (v : ℤ) (o : Option Frame) → slice_get s.below (length s.below - 1) ≡ o
        → Kept (return s v o)
    kept_return v None is = tt
    kept_return v (Some c) is = (
      refl,
      record {
        top = all_at (FrameLooks looking) s.below (length s.below - 1) c h.below is;
        below = all_take (FrameLooks looking) (length s.below - 1) s.below h.below;
        clean = h.clean;
      },
    )

    kept_tick : (b : Bool) → Kept (if b then Ends (Trapped Steps) else Goes Quiet (tick_spent s))
    kept_tick true = tt
    kept_tick false = (refl, record { top = h.top; below = h.below; clean = h.clean })

    kept : (i : Option Op) → op_looks_at looking i ≡ true → Kept (execute image heap s i)
    kept None looks = tt
    kept (Some (op.Const r v)) looks =
        (refl, record { top = h.top; below = h.below; clean = h.clean })
    kept (Some (op.Mov r a)) looks =
        (refl, record { top = h.top; below = h.below; clean = h.clean })
    kept (Some (op.Bin o r a b)) looks =
        (refl, record { top = h.top; below = h.below; clean = h.clean })
    kept (Some (op.Jmp t)) looks =
        (refl, record { top = h.top; below = h.below; clean = h.clean })
    kept (Some (op.Jz a t)) looks = kept_branch t (int_eq (read_register s a) (pos 0))
    kept (Some (op.Load r a o)) looks = kept_load r (target image s a o)
    kept (Some (op.Store a o b)) looks = absurd (cc)
    kept (Some (op.Find r)) looks = absurd (cc)
    kept (Some (op.Log a o)) looks = absurd (cc)
    kept (Some op.Flush) looks =
        kept_flush (slice_get s.dirty 0) (ap (λ (ls : List ℕ). slice_get ls 0) h.clean)
    kept (Some op.Fence) looks =
        (refl, record { top = h.top; below = h.below; clean = h.clean })
    kept (Some (op.Call r f args)) looks = kept_call r f args looks
    kept (Some (op.Ret a)) looks =
        kept_return (read_register s a) (slice_get s.below (length s.below - 1)) refl
    kept (Some op.Tick) looks = kept_tick (s.ticks == 0)
    kept (Some (op.Trap k)) looks = tt
    kept (Some (op.Halt a)) looks = tt

  kept_on : (o : StepOutcome) (f : Effect → State → Run) (end : End) (es : List Effect) → Kept o →
      ((e : Effect) (t : State) (rest : List Effect) → IsLooking looking t
      → f e t ≡ Finished end rest → AreLooks rest) →
      follow f o ≡ Finished end es → AreLooks es
  kept_on (Ends q) f end es kept next ran =
      let none : [] ≡ es = cc in
      subst AreLooks none tt
  kept_on (Goes e t) f end es kept next ran =
      let inv = began_rest e (f e t) end es ran in
      subst AreLooks (sym inv.2) (kept.0, next e t inv.0 kept.1 inv.1)

  pub looking_run : (image : Image) (k : ℕ) (s : State) (heap : Words) (end : End)
      (es : List Effect) → AreLooking image looking → IsLooking looking s
      → run image k s heap ≡ Finished end es → AreLooks es
  looking_run image zero s heap end es are is ran = absurd (cc)
  looking_run image (suc k) s heap end es are is ran =
      kept_on (step image s heap) (λ e t. run image k t (heap_past heap e)) end es
      (kept image heap s is (fetch_in s.top.place (slice_get image.parts.functions s.top.function))
      (are s.top.function s.top.place is.top))
      (λ e t rest looks left. looking_run image k t (heap_past heap e) end rest are looks left)
      ran
