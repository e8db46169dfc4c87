-- The effect of a step is in range, dirty lines are lines of the heap, and there are no more
-- records than the log holds.
use Rattle.std.proofs.Common.{◌≡◌, ℕ, zero, suc, ◌+◌, ◌-◌, ◌*◌, ◌/◌, ◌<◌, ◌≤◌, ◌++◌, ◌==◌}
use Rattle.std.proofs.Common.{if◌then◌else◌, Bool, true, false, List, [], ◌∷◌, drop, length}
use Rattle.std.proofs.Common.{slice_get, Option, Some, None, ℤ, pos, ltb, w64, ◌+ℤ◌, refl, sym, ap}
use Rattle.std.proofs.Common.{◌∙◌, subst, arith, nat_eq, ◌^◌}
use Rattle.std.specs.List.{list_any}
use Rattle.std.specs.Ordering.{int_eq}
use Rattle.std.specs.Int.{int_wrap}
use Rattle.indexmap.specs.IndexSet.{insert_key}
use borrow.Author.Tests.{ltb-true}
use Rattle.std.proofs.Math.Nat.{mul-le-mul_left}
use Rattle.std.proofs.lemmas.Nat.{mul-le}
use Rattle.cache_model.specs.Cache.{Words}
use Rattle.pool_layout.specs.declared.limits.Sizes.{Sizes}
use Rattle.pool_layout.specs.Sizes.{heap_words, slot_words, slot_word}
use Rattle.pool_map.specs.declared.trap.TrapKind.TheVariants as trap
use Rattle.pm_machine.specs.declared.image.Image.{Image}
use Rattle.pm_machine.specs.declared.op.Op.{Op}
use Rattle.pm_machine.specs.declared.op.Op.TheVariants.{Jz, Load, Store, Find, Log, Flush, Call}
use Rattle.pm_machine.specs.declared.op.Op.TheVariants.{Ret, Tick, Trap, Halt}
use Rattle.pm_machine.specs.declared.frame.Frame.{Frame}
use Rattle.pm_machine.specs.declared.effect.Effect.{Effect}
use Rattle.pm_machine.specs.declared.effect.Effect.TheVariants.{Loads, Scans, Stores, Logs, Flushes}
use Rattle.pm_machine.specs.declared.effect.Effect.TheVariants.{Fences, Quiet}
use Rattle.pm_machine.specs.declared.effect.End.TheVariants.{Trapped}
use Rattle.pm_machine.specs.declared.processor.Progress.{Progress}
use Rattle.pm_machine.specs.declared.processor.Progress.TheVariants.{Did}
use Rattle.pm_machine.specs.Logging.{bare}
use Rattle.pm_machine.specs.Machine.{State, StepOutcome, Goes, Ends, step, execute}
use Rattle.pm_machine.specs.Machine.{fetch, read_register, load, store, log, flush, call, return}
use Rattle.pm_machine.specs.Machine.{target, moved_to, passed, tick_spent, entered, address_index}
use Rattle.pm_machine.specs.Machine.{word_inside}
use Rattle.pm_machine.specs.Find.{tried, looks}
use Rattle.pm_machine.specs.Runs.{AreLines, outcome_of}
use Rattle.pm_machine.specs.inside.Runs.{IsInRange, HasRoomFor, StepKeeps}

pub inside_below : (H w : ℕ) (o : Option ℕ) → word_inside H o ≡ Some w → w < H
inside_below H w None is = absurd (cc)
inside_below H w (Some v) is = go (ltb v H) refl is
  where
    go : (b : Bool) → ltb v H ≡ b → (if b then Some v else None) ≡ Some w → w < H
    go true lt same = let e : v ≡ w = cc in subst (λ (i : ℕ). i < H) e (ltb-true v H lt)
    go false lt same = absurd (cc)

-- a pool has few heap words
pub heap_few : (s : Sizes) → heap_words s ≤ 2 ^ 30
heap_few s =
    let most : slot_words s * s.slots ≤ 512 * 2 ^ 20 =
    mul-le (slot_words s) s.slots 512 (2 ^ 20) (omega (arith, s.slot_fits.1))
    (omega (arith, s.slots_fit.1)) in
    omega (arith, most, s.root_words_fit.1)

-- no more headers are loaded than there are
tried_few : (heap : Words) (d n w : ℕ) → tried heap d n w ≤ n
tried_few heap d zero w = omega arith
tried_few heap d (suc n) w = go (tried_few heap d n (w + d)) (int_eq (heap w) (pos 0))
  where
    go : tried heap d n (w + d) ≤ n → (b : Bool) →
        suc (if b then 0 else tried heap d n (w + d)) ≤ suc n
    go few true = omega arith
    go few false = omega arith

pub some_words : (s : Sizes) → 1 ≤ slot_words s
some_words s = let few : 2 ≤ s.slot_lines = s.slot_fits.0 in omega arith

pub looks_within : (s : Sizes) (heap : Words)
    → slot_word s 1 + slot_words s * looks s heap ≤ heap_words s
looks_within s heap =
    let few : slot_words s * looks s heap ≤ slot_words s * s.slots =
    mul-le-mul_left (slot_words s) (tried_few heap (slot_words s) s.slots (slot_word s 1)) in
    omega (arith, few)

lines_push : (H : ℕ) (ls : List ℕ) (l : ℕ) → AreLines H ls → 8 * l < H → AreLines H (ls ++ l ∷ [])
lines_push H [] l lines lt = (lt, tt)
lines_push H (k ∷ ks) l lines lt = (lines.0, lines_push H ks l lines.1 lt)

lines_insert : (H : ℕ) (ls : List ℕ) (l : ℕ) → AreLines H ls → 8 * l < H
    → AreLines H (insert_key nat_eq ls l)
lines_insert H ls l lines lt = go (list_any (nat_eq l) ls)
  where
    go : (b : Bool) → AreLines H (if b then ls else ls ++ l ∷ [])
    go true = lines
    go false = lines_push H ls l lines lt

module _ (image : Image) (heap : Words) (s : State)
    (lines : AreLines (heap_words image.parts.sizes) s.dirty) where
  abbrev H : ℕ
  H = heap_words image.parts.sizes

  abbrev Kept : StepOutcome → Type 0
  Kept = StepKeeps H

  keeps_load : (r : ℕ) (p : Option ℕ) → ((w : ℕ) → p ≡ Some w → w < H) → Kept (load heap s r p)
  keeps_load r None below = (tt, lines)
  keeps_load r (Some w) below = (below w refl, lines)

  keeps_store : (x : ℤ) (p : Option ℕ) → ((w : ℕ) → p ≡ Some w → w < H) → Kept (store s x p)
  keeps_store x None below = (tt, lines)
  keeps_store x (Some w) below = let lt : w < H = below w refl in
      (lt, lines_insert H s.dirty (w / 8) lines (omega arith))

  keeps_log : (p : Option ℕ) → ((w : ℕ) → p ≡ Some w → w < H) → Kept (log s p)
  keeps_log None below = (tt, lines)
  keeps_log (Some w) below = (below w refl, lines)

  keeps_flush : (ls : List ℕ) → ls ≡ s.dirty → Kept (flush s (slice_get ls 0))
  keeps_flush [] is = (tt, lines)
  keeps_flush (l ∷ ls) is =
      let all : AreLines H (l ∷ ls) = subst (AreLines H) (sym is) lines in
      (all.0, subst (λ (ks : List ℕ). AreLines H (drop 1 ks)) is all.1)

  keeps_call : (r f : ℕ) (args : List ℕ) → Kept (call s r f args)
  keeps_call r f args = go (ltb (length s.below + 1) 256)
    where
      go : (b : Bool) → Kept (if b then Goes Quiet (entered s r f args)
          else Ends (Trapped trap.Depth))
      go true = (tt, lines)
      go false = tt

  keeps_return : (v : ℤ) (o : Option Frame) → Kept (return s v o)
  keeps_return v None = tt
  keeps_return v (Some caller) = (tt, lines)

  keeps_tick : (b : Bool) → Kept (if b then Ends (Trapped trap.Steps)
      else Goes Quiet (tick_spent s))
  keeps_tick true = tt
  keeps_tick false = (tt, lines)

  keeps_branch : (t : ℕ) (b : Bool) → Kept (Goes Quiet (if b then moved_to s t else passed s))
  keeps_branch t true = (tt, lines)
  keeps_branch t false = (tt, lines)

  keeps_act : (i : Option Op) → Kept (execute image heap s i)
  keeps_act None = tt
  keeps_act (Some (Jz a t)) = keeps_branch t (int_eq (read_register s a) (pos 0))
  keeps_act (Some (Load r a o)) =
      keeps_load r (target image s a o)
      (λ w. inside_below H w (address_index (int_wrap w64 (read_register s a +ℤ o))))
  keeps_act (Some (Store a o b)) =
      keeps_store (read_register s b) (target image s a o)
      (λ w. inside_below H w (address_index (int_wrap w64 (read_register s a +ℤ o))))
  keeps_act (Some (Find r)) = (looks_within image.parts.sizes heap, lines)
  keeps_act (Some (Log a o)) = keeps_log (target image s a o)
      (λ w. inside_below H w (address_index (int_wrap w64 (read_register s a +ℤ o))))
  keeps_act (Some Flush) = keeps_flush s.dirty refl
  keeps_act (Some (Call r f args)) = keeps_call r f args
  keeps_act (Some (Ret a)) = keeps_return (read_register s a)
      (slice_get s.below (length s.below - 1))
  keeps_act (Some Tick) = keeps_tick (s.ticks == 0)
  keeps_act (Some (Trap k)) = tt
  keeps_act (Some (Halt a)) = tt
  keeps_act (Some i) = (tt, lines)

pub keeps_step : (image : Image) (heap : Words) (s : State) (o : StepOutcome)
    → AreLines (heap_words image.parts.sizes) s.dirty → o ≡ step image s heap
    → StepKeeps (heap_words image.parts.sizes) o
keeps_step image heap s o lines is =
    subst (StepKeeps (heap_words image.parts.sizes)) (sym is)
    (keeps_act image heap s lines (fetch image s))

pub keeps_progress : (image : Image) (heap : Words) (s : State) (p : Progress) (e : Effect)
    (t : State) → AreLines (heap_words image.parts.sizes) s.dirty → p ≡ Did e
    → outcome_of p t ≡ step image s heap → StepKeeps (heap_words image.parts.sizes) (Goes e t)
keeps_progress image heap s p e t lines did is =
    keeps_step image heap s (Goes e t) lines
    (ap (λ (p : Progress). outcome_of p t) (sym did) ∙ is)

-- what a turn keeps: its effects are in range, and there is room for its record
pub bare_range : (H : ℕ) (e : Effect) → IsInRange H e → IsInRange H (bare e)
bare_range H (Logs w) fits = tt
bare_range H (Loads w) fits = fits
bare_range H (Scans w apart m) fits = fits
bare_range H (Stores w x) fits = fits
bare_range H (Flushes l) fits = fits
bare_range H Fences fits = tt
bare_range H Quiet fits = tt

-- a bare effect takes no room
pub bare_room : (C n : ℕ) (e : Effect) → HasRoomFor C n (bare e)
bare_room C n (Logs w) = tt
bare_room C n (Loads w) = tt
bare_room C n (Scans w apart m) = tt
bare_room C n (Stores w x) = tt
bare_room C n (Flushes l) = tt
bare_room C n Fences = tt
bare_room C n Quiet = tt
