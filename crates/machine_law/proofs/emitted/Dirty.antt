-- Dirty lines are distinct lines of the heap.
use Rattle.std.proofs.Common.{◌≡◌, ℕ, zero, suc, ◌+◌, ◌-◌, ◌*◌, ◌/◌, ◌<◌, ◌≤◌, ◌||◌, ◌==◌}
use Rattle.std.proofs.Common.{if◌then◌else◌, nat_eq, Bool, true, false, List, [], ◌∷◌, ◌++◌, length}
use Rattle.std.proofs.Common.{drop, slice_get, Option, Some, None, ℤ, pos, ltb, refl, sym, subst}
use Rattle.std.proofs.Common.{arith, length-append}
use Rattle.std.specs.List.{list_any, IsDistinct}
use Rattle.std.specs.Ordering.{int_eq}
use Rattle.std.proofs.lemmas.Bool.{eqb-true}
use Rattle.std.proofs.lemmas.Cmp.{nat_eq_equiv}
use Rattle.std.proofs.lemmas.Map.Keys.{IsDistinct-push, IsDistinct-tail}
use Rattle.std.proofs.lemmas.Map.Steps.{length-le_from_distinct_below}
use Rattle.cache_model.specs.Cache.{Words}
use Rattle.pool_layout.specs.Sizes.{root_lines, heap_words}
use Rattle.pool_map.specs.declared.trap.TrapKind.TheVariants as trap
use Rattle.pm_machine.specs.declared.effect.Effect.{Effect}
use Rattle.pm_machine.specs.declared.effect.Effect.TheVariants.{Quiet}
use Rattle.pm_machine.specs.declared.effect.End.TheVariants.{Trapped}
use Rattle.pm_machine.specs.declared.frame.Frame.{Frame}
use Rattle.pm_machine.specs.declared.image.Image.{Image}
use Rattle.pm_machine.specs.declared.op.Op.{Op}
use Rattle.pm_machine.specs.declared.op.Op.TheVariants.{Jz, Load, Store, Log, Flush, Call, Ret}
use Rattle.pm_machine.specs.declared.op.Op.TheVariants.{Tick, Trap, Halt}
use Rattle.pm_machine.specs.Machine.{State, StepOutcome, Goes, Ends, step, execute, fetch}
use Rattle.pm_machine.specs.Machine.{target, read_register, load, store, log, flush, call, return}
use Rattle.pm_machine.specs.Machine.{passed, moved_to, tick_spent, entered}
use Rattle.pm_machine.specs.Runs.{AreLines}
use Rattle.pm_machine.specs.inside.Runs.{StepKeeps}
use Rattle.pm_machine.proofs.Range.{keeps_step}
use Rattle.machine_law.specs.emitted.Moments.{RunMoment, On, moment_after, staged, stage_then, go}
use Rattle.machine_law.specs.emitted.Dirty.{IsCleanState, StaysCleanLaw, FewLines, GrowLaw}

distinct_insert : (ls : List ℕ) (l : ℕ) (b : Bool) → list_any (nat_eq l) ls ≡ b
    → IsDistinct nat_eq ls → IsDistinct nat_eq (if b then ls else ls ++ l ∷ [])
distinct_insert ls l true e h = h
distinct_insert ls l false e h = IsDistinct-push nat_eq_equiv ls l h e

module _ (image : Image) (heap : Words) (s : State) (distinct : IsDistinct nat_eq s.dirty)
  where
    abbrev Kept : StepOutcome → Type 0
    Kept (Goes e t) = IsDistinct nat_eq t.dirty
    Kept (Ends end) = Unit {0}

    kept_load : (r : ℕ) (p : Option ℕ) → Kept (load heap s r p)
    kept_load r None = distinct
    kept_load r (Some w) = distinct

    kept_store : (x : ℤ) (p : Option ℕ) → Kept (store s x p)
    kept_store x None = distinct
    kept_store x (Some w) = distinct_insert s.dirty (w / 8) (list_any (nat_eq (w / 8)) s.dirty)
        refl distinct

    kept_log : (p : Option ℕ) → Kept (log s p)
    kept_log None = distinct
    kept_log (Some w) = distinct

    kept_flush : (ls : List ℕ) → s.dirty ≡ ls → Kept (flush s (slice_get ls 0))
    kept_flush [] is = distinct
    kept_flush (l ∷ ls) is = subst (λ (ks : List ℕ). IsDistinct nat_eq (drop 1 ks)) (sym is)
        (IsDistinct-tail nat_eq l ls (subst (IsDistinct nat_eq) is distinct))

    kept_call : (r f : ℕ) (args : List ℕ) → Kept (call s r f args)
    kept_call r f args = by_depth (ltb (length s.below + 1) 256)
      where
        by_depth : (b : Bool) → Kept (if b then Goes Quiet (entered s r f args)
            else Ends (Trapped trap.Depth))
        by_depth true = distinct
        by_depth false = tt

    kept_return : (v : ℤ) (o : Option Frame) → Kept (return s v o)
    kept_return v None = tt
    kept_return v (Some caller) = distinct

    kept_tick : (b : Bool) → Kept (if b then Ends (Trapped trap.Steps)
        else Goes Quiet (tick_spent s))
    kept_tick true = tt
    kept_tick false = distinct

    kept_branch : (t : ℕ) (b : Bool)
        → Kept (Goes Quiet (if b then moved_to s t else passed s))
    kept_branch t true = distinct
    kept_branch t false = distinct

    kept_act : (i : Option Op) → Kept (execute image heap s i)
    kept_act None = tt
    kept_act (Some (Jz a t)) = kept_branch t (int_eq (read_register s a) (pos 0))
    kept_act (Some (Load r a o)) = kept_load r (target image s a o)
    kept_act (Some (Store a o b)) = kept_store (read_register s b) (target image s a o)
    kept_act (Some (Log a o)) = kept_log (target image s a o)
    kept_act (Some Flush) = kept_flush s.dirty refl
    kept_act (Some (Call r f args)) = kept_call r f args
    kept_act (Some (Ret a)) = kept_return (read_register s a)
        (slice_get s.below (length s.below - 1))
    kept_act (Some Tick) = kept_tick (s.ticks == 0)
    kept_act (Some (Trap k)) = tt
    kept_act (Some (Halt a)) = tt
    kept_act (Some i) = distinct

step_clean : (image : Image) (heap : Words) (s : State) (e : Effect) (t : State)
    → IsCleanState image s → step image s heap ≡ Goes e t → IsCleanState image t
step_clean image heap s e t clean is =
    let kept : StepKeeps (heap_words image.parts.sizes) (Goes e t) =
    keeps_step image heap s (Goes e t) clean.lines (sym is) in
    record {
      lines = kept.1;
      distinct = subst (Kept image heap s clean.distinct) is
          (kept_act image heap s clean.distinct (fetch image s));
    }

module _ (image : Image) (b : RunMoment) where
  clean_on : (k : ℕ) (m : RunMoment) (o : StepOutcome) → step image m.state m.heap ≡ o
      → IsCleanState image m.state →
      ((t : RunMoment) → IsCleanState image t.state → go image k t ≡ On b
      → IsCleanState image b.state) → stage_then (staged m o) (go image k) ≡ On b
      → IsCleanState image b.state
  clean_on k m (Ends end) e clean next h = absurd (cc)
  clean_on k m (Goes f t) e clean next h =
      next (moment_after m f t) (step_clean image m.heap m.state f t clean e) h

  clean_run : (k : ℕ) (m : RunMoment) → IsCleanState image m.state → go image k m ≡ On b
      → IsCleanState image b.state
  clean_run zero m clean h = let same : m ≡ b = cc in
      subst (λ (c : RunMoment). IsCleanState image c.state) same clean
  clean_run (suc k) m clean h = clean_on k m (step image m.state m.heap) refl clean
      (λ t c g. clean_run k t c g) h

pub clean_all : StaysCleanLaw
clean_all image k m b clean h = clean_run image b k m clean h

below_or : (n q l : ℕ) (ls : List ℕ) (b : Bool) → nat_eq q l ≡ b → l < n
    → (list_any (nat_eq q) ls ≡ true → q < n) → (b || list_any (nat_eq q) ls) ≡ true → q < n
below_or n q l ls true e low next h = let same : q ≡ l = eqb-true q l e in omega arith
below_or n q l ls false e low next h = next h

each_below : (H n : ℕ) (ls : List ℕ) → H ≤ 8 * n → AreLines H ls → (q : ℕ)
    → list_any (nat_eq q) ls ≡ true → q < n
each_below H n [] fits lines q h = absurd (cc)
each_below H n (l ∷ ls) fits lines q h =
    let first : 8 * l < H = lines.0 in
    below_or n q l ls (nat_eq q l) refl (omega arith) (λ g. each_below H n ls fits lines.1 q g) h

pub few_lines : FewLines
few_lines image s clean =
    length-le_from_distinct_below s.dirty
    (root_lines image.parts.sizes + image.parts.sizes.slot_lines * image.parts.sizes.slots)
    clean.distinct
    (each_below (heap_words image.parts.sizes)
    (root_lines image.parts.sizes + image.parts.sizes.slot_lines * image.parts.sizes.slots)
    s.dirty (omega arith) clean.lines)

-- a step makes at most one more line dirty
module _ (image : Image) (heap : Words) (s : State) where
  abbrev Grows : StepOutcome → Type 0
  Grows (Goes e t) = length t.dirty ≤ length s.dirty + 1
  Grows (Ends end) = Unit {0}

  grows_load : (r : ℕ) (p : Option ℕ) → Grows (load heap s r p)
  grows_load r None = omega arith
  grows_load r (Some w) = omega arith

  grows_insert : (l : ℕ) (b : Bool) →
      length (if b then s.dirty else s.dirty ++ l ∷ []) ≤ length s.dirty + 1
  grows_insert l true = omega arith
  grows_insert l false = omega (arith, length-append s.dirty (l ∷ []))

  grows_store : (x : ℤ) (p : Option ℕ) → Grows (store s x p)
  grows_store x None = omega arith
  grows_store x (Some w) = grows_insert (w / 8) (list_any (nat_eq (w / 8)) s.dirty)

  grows_log : (p : Option ℕ) → Grows (log s p)
  grows_log None = omega arith
  grows_log (Some w) = omega arith

  grows_flush : (ls : List ℕ) → s.dirty ≡ ls → Grows (flush s (slice_get ls 0))
  grows_flush [] is = omega arith
  grows_flush (l ∷ ls) is =
      subst (λ (ks : List ℕ). length (drop 1 ks) ≤ length ks + 1) (sym is) (omega arith)

  grows_call : (r f : ℕ) (args : List ℕ) → Grows (call s r f args)
  grows_call r f args = by_depth (ltb (length s.below + 1) 256)
    where
      by_depth : (b : Bool) →
          Grows (if b then Goes Quiet (entered s r f args) else Ends (Trapped trap.Depth))
      by_depth true = omega arith
      by_depth false = tt

  grows_return : (v : ℤ) (o : Option Frame) → Grows (return s v o)
  grows_return v None = tt
  grows_return v (Some caller) = omega arith

  grows_tick : (b : Bool) →
      Grows (if b then Ends (Trapped trap.Steps) else Goes Quiet (tick_spent s))
  grows_tick true = tt
  grows_tick false = omega arith

  grows_branch : (t : ℕ) (b : Bool)
      → Grows (Goes Quiet (if b then moved_to s t else passed s))
  grows_branch t true = omega arith
  grows_branch t false = omega arith

  grows_act : (i : Option Op) → Grows (execute image heap s i)
  grows_act None = tt
  grows_act (Some (Jz a t)) = grows_branch t (int_eq (read_register s a) (pos 0))
  grows_act (Some (Load r a o)) = grows_load r (target image s a o)
  grows_act (Some (Store a o b)) = grows_store (read_register s b) (target image s a o)
  grows_act (Some (Log a o)) = grows_log (target image s a o)
  grows_act (Some Flush) = grows_flush s.dirty refl
  grows_act (Some (Call r f args)) = grows_call r f args
  grows_act (Some (Ret a)) = grows_return (read_register s a)
      (slice_get s.below (length s.below - 1))
  grows_act (Some Tick) = grows_tick (s.ticks == 0)
  grows_act (Some (Trap k)) = tt
  grows_act (Some (Halt a)) = tt
  grows_act (Some i) = omega arith

module _ (image : Image) (b : RunMoment) where
  grow_on : (k : ℕ) (m : RunMoment) (o : StepOutcome) → Grows image m.heap m.state o →
      ((t : RunMoment) → go image k t ≡ On b → length b.state.dirty ≤ length t.state.dirty + k) →
      stage_then (staged m o) (go image k) ≡ On b →
      length b.state.dirty ≤ length m.state.dirty + suc k
  grow_on k m (Ends end) grows next h = absurd (cc)
  grow_on k m (Goes f t) grows next h = omega (arith, next (moment_after m f t) h, grows)

  grow_run : (k : ℕ) (m : RunMoment) → go image k m ≡ On b →
      length b.state.dirty ≤ length m.state.dirty + k
  grow_run zero m h = let same : m ≡ b = cc in
      subst (λ (c : RunMoment). length c.state.dirty ≤ length m.state.dirty + 0) same (omega arith)
  grow_run (suc k) m h =
      grow_on k m (step image m.state m.heap)
      (grows_act image m.heap m.state (fetch image m.state)) (λ t g. grow_run k t g) h

pub grow_all : GrowLaw
grow_all image k m b h = grow_run image b k m h
