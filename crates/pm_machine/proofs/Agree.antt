-- Two heaps that are alike for a run have the same run.
use Rattle.std.proofs.Common.{◌≡◌, ◌≢◌, inl, inr, ⊎_elim, ℕ, zero, suc, ◌<◌, List, [], ◌∷◌, ◌++◌}
use Rattle.std.proofs.Common.{Option}
use Rattle.std.proofs.Common.{Some, None, ℤ, Bool, true, false, if◌then◌else◌, pos, ◌+◌, ◌≤◌, ◌*◌}
use Rattle.std.proofs.Common.{◌+ℤ◌, w64, arith, refl, sym, ap, ◌∙◌, subst}
use Rattle.std.specs.Int.{int_wrap}
use Rattle.std.specs.Ordering.{int_eq}
use Rattle.std.proofs.Math.Nat.{mul-suc}
use Rattle.std.proofs.lemmas.Bool.{cases_eq}
use Rattle.cache_model.specs.Cache.{Words, Cache, put}
use Rattle.cache_model.proofs.Versions.{put_same, put_other}
use Rattle.pool_layout.specs.declared.limits.Sizes.{Sizes}
use Rattle.pool_layout.specs.Sizes.{heap_words, slot_words, slot_word}
use Rattle.pm_machine.specs.declared.image.Image.{Image}
use Rattle.pm_machine.specs.declared.op.Op.{Op}
use Rattle.pm_machine.specs.declared.op.Op.TheVariants.{Load, Find}
use Rattle.pm_machine.specs.declared.effect.Effect.{Effect}
use Rattle.pm_machine.specs.declared.effect.Effect.TheVariants.{Loads, Scans, Stores, Logs, Flushes}
use Rattle.pm_machine.specs.declared.effect.Effect.TheVariants.{Fences, Quiet}
use Rattle.pm_machine.specs.declared.effect.End.{End}
use Rattle.pool_map.specs.declared.trap.TrapKind.TheVariants.{LogFull}
use Rattle.pm_machine.specs.declared.effect.End.TheVariants.{Trapped}
use Rattle.pm_machine.specs.Effects.{heap_past, heap_end}
use Rattle.pm_machine.specs.Inputs.{AreAlike}
use Rattle.pm_machine.specs.Find.{free_of, tried, least, looks, IsHeader}
use Rattle.pm_machine.specs.Machine.{State, StepOutcome, Goes, Ends, Run, Finished, step, execute}
use Rattle.pm_machine.specs.Machine.{fetch, load, target, written, read_register, address_index}
use Rattle.pm_machine.specs.Logging.{Logging, Turn, Plays, Stops, asks, unlisted, missing, bare}
use Rattle.pm_machine.specs.Logging.{with_record, noted, has_room, turn, begun, follows, logged_run}
use Rattle.pm_machine.specs.Runs.{heap_in, AreLines, due, owed, IsFinished}
use Rattle.pm_machine.proofs.Range.{inside_below, some_words, looks_within}
use Rattle.pm_machine.proofs.Recording.{heap_with, heap_append, begun_rest, bare_heap}
use Rattle.pm_machine.proofs.Dues.{due_run}

load_same : (h r : Words) (s : State) (q : ℕ) (p : Option ℕ) → ((w : ℕ) → p ≡ Some w → h w ≡ r w)
    → load r s q p ≡ load h s q p
load_same h r s q None same = refl
load_same h r s q (Some w) same = ap (λ (v : ℤ). Goes (Loads w) (written s q v)) (sym (same w refl))

-- heaps with the same headers, as far as the search in one of them goes, have the same least free
-- slot, and their searches are equally long
find_same : (h r : Words) (d n q w : ℕ) → ((u : ℕ) → IsHeader w d (tried h d n w) u → h u ≡ r u)
    → (free_of r d n q w ≡ free_of h d n q w) × (tried r d n w ≡ tried h d n w)
find_same h r d zero q w same = (refl, refl)
find_same h r d (suc n) q w same =
    let first : h w ≡ r w = same w (inl refl) in
    let both = go (λ some. find_same h r d n (q + 1) (w + d) some) (int_eq (h w) (pos 0)) same in (
      ap (λ (x : ℤ). if int_eq x (pos 0) then q else free_of r d n (q + 1) (w + d)) (sym first)
          ∙ both.0,
      ap (λ (x : ℤ). suc (if int_eq x (pos 0) then 0 else tried r d n (w + d))) (sym first)
          ∙ both.1,
    )
  where
    Same : Type 0
    Same =
        (free_of r d n (q + 1) (w + d) ≡ free_of h d n (q + 1) (w + d))
        × (tried r d n (w + d) ≡ tried h d n (w + d))

    go : (((u : ℕ) → IsHeader (w + d) d (tried h d n (w + d)) u → h u ≡ r u) → Same)
        → (b : Bool) →
        ((u : ℕ) → IsHeader w d (suc (if b then 0 else tried h d n (w + d))) u → h u ≡ r u) →
        ((if b then q else free_of r d n (q + 1) (w + d))
        ≡ (if b then q else free_of h d n (q + 1) (w + d)))
        × (suc (if b then 0 else tried r d n (w + d))
        ≡ suc (if b then 0 else tried h d n (w + d)))
    go next true some = (refl, refl)
    go next false some = let rest = next (λ u is. some u (inr is)) in (rest.0, ap suc rest.1)

-- a step depends on the heap only through its loads
pub act_same : (image : Image) (h r : Words) (s : State) (i : Option Op) →
    ((w : ℕ) (t : State) → w < heap_words image.parts.sizes
    → execute image h s i ≡ Goes (Loads w) t → h w ≡ r w) →
    ((w d m : ℕ) (t : State) → 1 ≤ d → w + d * m ≤ heap_words image.parts.sizes
    → execute image h s i ≡ Goes (Scans w d m) t → (u : ℕ) → IsHeader w d m u → h u ≡ r u) →
    execute image r s i ≡ execute image h s i
act_same image h r s (Some (Load q a o)) same alike =
    load_same h r s q (target image s a o)
    (λ w is. same w (written s q (h w))
    (inside_below (heap_words image.parts.sizes) w
    (address_index (int_wrap w64 (read_register s a +ℤ o))) is) (ap (load h s q) is))
act_same image h r s (Some (Find q)) same alike =
    let z : Sizes = image.parts.sizes in
    let both = find_same h r (slot_words z) z.slots 1 (slot_word z 1)
    (alike (slot_word z 1) (slot_words z) (looks z h) (written s q (pos (least z h)))
    (some_words z) (looks_within z h) refl) in
    ap (λ (m : ℕ). Goes (Scans (slot_word z 1) (slot_words z) m)
    (written s q (pos (least z r)))) both.1
    ∙ ap (λ (p : ℕ). Goes (Scans (slot_word z 1) (slot_words z) (looks z h))
    (written s q (pos p))) both.0
act_same image h r s i same alike = refl

-- headers below the end of the heap
pub header_below : (w d m u H : ℕ) → 1 ≤ d → w + d * m ≤ H → IsHeader w d m u → u < H
header_below w d zero u H some fits is = absurd is
header_below w d (suc m) u H some fits (inl e) = omega (arith, mul-suc d m)
header_below w d (suc m) u H some fits (inr is) =
    header_below (w + d) d m u H some (omega (arith, mul-suc d m)) is

alike_past : (H : ℕ) (e : Effect) (es : List Effect) (h r : Words) → AreAlike H (e ∷ es) h r
    → AreAlike H es (heap_past h e) (heap_past r e)
alike_past H (Loads w) es h r alike u lt kept =
    alike u lt (⊎_elim (λ no. inl no) (λ input. inr (inr input)) kept)
alike_past H (Scans w apart m) es h r alike u lt kept =
    alike u lt (⊎_elim (λ no. inl no) (λ input. inr (inr input)) kept)
alike_past H (Stores w x) es h r alike u lt kept = ⊎_elim
    (λ (e : u ≡ w). subst (λ (v : ℕ). put h w x v ≡ put r w x v) (sym e)
    (put_same h w x ∙ sym (put_same r w x)))
    (λ (ne : u ≢ w).
    put_other h w u x ne
    ∙ alike u lt (⊎_elim (λ no. inl (λ over. ⊎_elim ne no over)) (λ input. inr (ne, input)) kept)
    ∙ sym (put_other r w u x ne))
    (cases_eq u w)
alike_past H (Logs w) es h r alike u lt kept = alike u lt kept
alike_past H (Flushes l) es h r alike u lt kept = alike u lt kept
alike_past H Fences es h r alike u lt kept = alike u lt kept
alike_past H Quiet es h r alike u lt kept = alike u lt kept

-- of a step with its record, the words that it depends on are those of the step
alike_with : (H : ℕ) (o : Option ℕ) (e : Effect) (es : List Effect) (h r : Words)
    → AreAlike H (with_record o e ++ es) h r → AreAlike H (bare e ∷ es) h r
alike_with H None e es h r alike = alike
alike_with H (Some w) e es h r alike = alike

module _ (image : Image) (end : End) where
  abbrev H : ℕ
  H = heap_words image.parts.sizes

  abbrev C : ℕ
  C = image.parts.sizes.records

  abbrev Agrees : (k : ℕ) → Logging → State → (h r : Words) → List Effect → Type 0
  Agrees k g s h r es = (logged_run image k g s r ≡ Finished end es)
      × ((u : ℕ) → u < H → heap_end h es u ≡ heap_end r es u)

  abbrev after : (k : ℕ) → Words → List Effect → Logging → State → Run
  after k heap es g t = logged_run image k g t (heap_end heap es)

  agree_on : (k : ℕ) (g : Logging) (o : StepOutcome) (h r : Words) (es : List Effect) →
      ((g : Logging) (t : State) (h r : Words) (rest : List Effect)
      → logged_run image k g t h ≡ Finished end rest → AreAlike H rest h r
      → Agrees k g t h r rest) →
      follows (after k h) (turn C g o) ≡ Finished end es → AreAlike H es h r →
      (follows (after k r) (turn C g o) ≡ Finished end es)
      × ((u : ℕ) → u < H → heap_end h es u ≡ heap_end r es u)
  agree_on k g (Ends q) h r es next ran alike = stopped h r es (cc) ran alike
    where
      stopped : (h r : Words) (es : List Effect) → [] ≡ es → Finished q [] ≡ Finished end es
          → AreAlike H es h r
          → (Finished q [] ≡ Finished end es)
          × ((u : ℕ) → u < H → heap_end h es u ≡ heap_end r es u)
      stopped h r es none ran alike = (
        ran,
        subst (λ (fs : List Effect). AreAlike H fs h r → (u : ℕ) → u < H
            → heap_end h fs u ≡ heap_end r fs u) none (λ same u lt. same u lt (inl (λ over. over)))
            alike,
      )
  agree_on k g (Goes e t) h r es next ran alike = go (has_room C g o) ran
    where
      o : Option ℕ
      o = missing g e

      both : List Effect
      both = with_record o e

      chosen : Bool → Turn
      chosen b = if b then Plays both (noted g o) t else Stops (Trapped LogFull)

      go : (b : Bool) → follows (after k h) (chosen b) ≡ Finished end es
          → (follows (after k r) (chosen b) ≡ Finished end es)
          × ((u : ℕ) → u < H → heap_end h es u ≡ heap_end r es u)
      go false is =
          let none : [] ≡ es = cc in (
            is,
            subst (λ (fs : List Effect). AreAlike H fs h r → (u : ℕ) → u < H
                → heap_end h fs u ≡ heap_end r fs u) none
                (λ same u lt. same u lt (inl (λ over. over))) alike,
          )
      go true is =
          let inv = begun_rest both (after k h both (noted g o) t) end es is in
          let rest : List Effect = inv.0 in
          let h1 : heap_end h both ≡ heap_past h e = heap_with h o e in
          let r1 : heap_end r both ≡ heap_past r e = heap_with r o e in
          let alike1 : AreAlike H (bare e ∷ rest) h r = alike_with H o e rest h r
          (subst (λ (fs : List Effect). AreAlike H fs h r) inv.2 alike) in
          let tail : AreAlike H rest (heap_end h both) (heap_end r both) =
          subst (λ (x : Words). AreAlike H rest x (heap_end r both))
          (bare_heap h e ∙ sym h1)
          (subst (λ (y : Words). AreAlike H rest (heap_past h (bare e)) y)
          (bare_heap r e ∙ sym r1) (alike_past H (bare e) rest h r alike1)) in
          let afterwards = next (noted g o) t (heap_end h both) (heap_end r both) rest inv.1 tail
          in (
            ap (begun both) afterwards.0 ∙ ap (Finished end) (sym inv.2),
            subst (λ (fs : List Effect). (u : ℕ) → u < H → heap_end h fs u ≡ heap_end r fs u)
                (sym inv.2) (λ u lt. ap (λ (x : Words). x u) (heap_append h both rest)
                ∙ afterwards.1 u lt ∙ ap (λ (x : Words). x u) (sym (heap_append r both rest))),
          )

  -- what a step loads is alike
  loaded : (k : ℕ) (g : Logging) (h r : Words) (e : Effect) (t : State) (es : List Effect)
      → asks g.policy e ≡ None → bare e ≡ e
      → follows (after k h) (turn C g (Goes e t)) ≡ Finished end es → AreAlike H es h r
      → (rest : List Effect) × AreAlike H (e ∷ rest) h r
  loaded k g h r e t es none is ran alike = go (missing g e) (ap (unlisted g.words) none) ran
    where
      go : (o : Option ℕ) → o ≡ None
          → follows (after k h) (if has_room C g o then Plays (with_record o e) (noted g o) t
          else Stops (Trapped LogFull)) ≡ Finished end es
          → (rest : List Effect) × AreAlike H (e ∷ rest) h r
      go None q ran =
          let inv = begun_rest (bare e ∷ []) (after k h (bare e ∷ []) g t) end es ran in (
            inv.0,
            subst (λ (e : Effect). AreAlike H (e ∷ inv.0) h r) is
                (subst (λ (fs : List Effect). AreAlike H fs h r) inv.2 alike),
          )
      go (Some w) q ran = absurd (cc)

  pub agree : (k : ℕ) (g : Logging) (s : State) (h r : Words) (es : List Effect)
      → logged_run image k g s h ≡ Finished end es → AreAlike H es h r → Agrees k g s h r es
  agree zero g s h r es ran alike = absurd (cc)
  agree (suc k) g s h r es ran alike =
      let same : step image s r ≡ step image s h =
      act_same image h r s (fetch image s)
      (λ w t lt is.
      let seen = loaded k g h r (Loads w) t es refl refl
      (ap (λ (o : StepOutcome). follows (after k h) (turn C g o)) (sym is) ∙ ran) alike in
      seen.1 w lt (inr (inl refl)))
      (λ w d m t some fits is u header.
      let seen = loaded k g h r (Scans w d m) t es refl refl
      (ap (λ (o : StepOutcome). follows (after k h) (turn C g o)) (sym is) ∙ ran) alike in
      seen.1 u (header_below w d m u H some fits header) (inr (inl header))) in
      let on = agree_on k g (step image s h) h r es
      (λ g t h r rest. agree k g t h r rest) ran alike in
      (ap (λ (o : StepOutcome). follows (after k r) (turn C g o)) same ∙ on.0, on.1)

  pub alike_due : (a k : ℕ) (g : Logging) (s : State) (c : Cache) (h : Words) (es : List Effect)
      → AreLines H s.dirty → logged_run image k g s h ≡ Finished end es
      → AreAlike H es h (heap_in image.parts.sizes c) →
      due image a k g s c ≡ owed image.parts.sizes a g (heap_in image.parts.sizes c)
      (Finished end es)
  alike_due a k g s c h es lines ran alike =
      let own : logged_run image k g s (heap_in image.parts.sizes c) ≡ Finished end es =
      (agree k g s h (heap_in image.parts.sizes c) es ran alike).0 in
      due_run image a k g s c lines (subst IsFinished (sym own) tt)
      ∙ ap (owed image.parts.sizes a g (heap_in image.parts.sizes c)) own
