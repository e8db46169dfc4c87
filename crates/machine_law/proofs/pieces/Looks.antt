-- The search for a free slot finds the pool's least free one, and only loads headers.
use Rattle.std.proofs.Common.{◌≡◌, ℕ, zero, suc, ◌+◌, ◌-◌, ◌*◌, ◌<◌, ◌≤◌, Bool, true, false, List}
use Rattle.std.proofs.Common.{[], ◌∷◌}
use Rattle.std.proofs.Common.{length, Option, None, Some, IfSome, IsSomeAnd, get_or, ℤ, pos, refl}
use Rattle.std.proofs.Common.{sym, ap, ◌∙◌, subst, arith, ltb}
use Rattle.std.specs.Prelude.{if◌then◌else◌}
use Rattle.std.specs.List.{AllByRecursion}
use Rattle.std.specs.Ordering.{int_eq}
use Rattle.std.proofs.Math.Nat.{le_of_mul-le-mul_left}
use Rattle.std.proofs.lemmas.Bool.{lt-ltb, le-ltb}
use Rattle.cache_model.specs.Cache.{Words}
use Rattle.pool_layout.specs.declared.limits.Sizes.{Sizes}
use Rattle.pool_layout.specs.Sizes.{root_lines, slot_words, slot_word}
use Rattle.pool_map.specs.declared.object.Object.{Object}
use Rattle.pool_map.specs.declared.shapes.StructShape.{StructShape}
use Rattle.pool_map.specs.declared.shapes.Shapes.{Shapes}
use Rattle.pool_map.specs.PoolFits.{PoolFits, ObjectFits, words_of, struct_at}
use Rattle.pool_map.specs.PoolMap.{PoolMap, first_free, least_free}
use Rattle.ir.specs.declared.site.Site.{Site}
use Rattle.pm_machine.specs.declared.effect.Effect.{Effect}
use Rattle.pm_machine.specs.declared.effect.Effect.TheVariants.{Scans}
use Rattle.pm_machine.specs.Find.{free_of, least, looks}
use Rattle.pm_machine.proofs.Range.{looks_within}
use Rattle.pool_layout.proofs.Slots.{slot_after}
use Rattle.machine_law.specs.pieces.Stands.{Stands, header_of}
use Rattle.machine_law.specs.pieces.Shows.{ShowsDeeds, done, scans}

-- a slot's number, or 0 if there is none
abbrev pub number_of : Option ℕ → ℕ
number_of None = 0
number_of (Some q) = q

-- the header after another
next_is : (s : Sizes) (q w : ℕ) → w ≡ slot_word s q → 1 ≤ q → w + slot_words s ≡ slot_word s (suc q)
next_is s q w at low =
    let one : suc q - 1 ≡ q = omega arith in
    let ends = slot_after (slot_words s) q low in
    let e : w + slot_words s ≡ 8 * root_lines s + slot_words s * q = omega (arith, at, ends) in
    e ∙ ap (λ (n : ℕ). 8 * root_lines s + slot_words s * n) (sym one)

module _ (s : Sizes) (heap : Words) where
  full_at : (structs : List StructShape) (kind n : ℕ) →
      IsSomeAnd (struct_at structs kind) (λ shape. n ≡ words_of shape.fields) →
      int_eq (pos kind) (pos 0) ≡ false
  full_at structs zero n fits = absurd fits
  full_at structs (suc kind) n fits =
      let above : ltb 0 (suc kind) ≡ true = lt-ltb 0 (suc kind) (omega arith) in
      let low : ltb (suc kind) 0 ≡ false = le-ltb (suc kind) 0 (omega arith) in
      rw (low, above) refl

  free_in_list : (structs : List StructShape) (slots : List (Option Object)) (q w : ℕ) →
      w ≡ slot_word s q → 1 ≤ q →
      ((i : ℕ) → i < length slots → heap (slot_word s (q + i)) ≡ header_of (get_or slots i None)) →
      AllByRecursion (λ slot. IfSome slot (ObjectFits structs)) slots →
      free_of heap (slot_words s) (length slots) q w ≡ number_of (first_free q slots)
  free_in_list structs [] q w at low heads fits = refl
  free_in_list structs (None ∷ slots) q w at low heads fits =
      let zero_on : q + 0 ≡ q = omega arith in
      let same : slot_word s (q + 0) ≡ w = ap (slot_word s) zero_on ∙ sym at in
      let head : heap w ≡ pos 0 = subst (λ (n : ℕ). heap n ≡ pos 0) same (heads 0 (omega arith)) in
      ap (λ (z : ℤ). if int_eq z (pos 0) then q
      else free_of heap (slot_words s) (length slots) (q + 1) (w + slot_words s)) head
  free_in_list structs (Some o ∷ slots) q w at low heads fits =
      let zero_on : q + 0 ≡ q = omega arith in
      let same : slot_word s (q + 0) ≡ w = ap (slot_word s) zero_on ∙ sym at in
      let more : q + 1 ≡ suc q = omega arith in
      let head : heap w ≡ pos o.kind =
      subst (λ (n : ℕ). heap n ≡ pos o.kind) same (heads 0 (omega arith)) in
      ap (λ (z : ℤ). if int_eq z (pos 0) then q
      else free_of heap (slot_words s) (length slots) (q + 1) (w + slot_words s)) head
      ∙ ap (λ (b : Bool). if b then q
      else free_of heap (slot_words s) (length slots) (q + 1) (w + slot_words s))
      (full_at structs o.kind (length o.fields) fits.0)
      ∙ ap (λ (n : ℕ). free_of heap (slot_words s) (length slots) n (w + slot_words s)) more
      ∙ free_in_list structs slots (suc q) (w + slot_words s) (next_is s q w at low) (omega arith)
      (λ i less. let next : q + suc i ≡ suc q + i = omega arith in
      subst (λ (n : ℕ). heap (slot_word s n) ≡ header_of (get_or slots i None)) next
      (heads (suc i) (omega arith))) fits.1

pub least_is : (s : Sizes) (shapes : Shapes) (heap : Words) (w : PoolMap) → PoolFits shapes w →
    Stands s heap w → least s heap ≡ number_of (least_free w)
least_is s shapes heap w fits stands =
    ap (λ (n : ℕ). free_of heap (slot_words s) n 1 (slot_word s 1)) (sym stands.slots)
    ∙ free_in_list s heap shapes.structs w.slots 1 (slot_word s 1) refl (omega arith) (λ i less.
    let at : suc i ≡ 1 + i = omega arith in
    subst (λ (n : ℕ). heap (slot_word s n) ≡ header_of (get_or w.slots i None))
    at (stands.headers (suc i) (omega arith) (omega (arith, stands.slots)))) fits.1

-- the search's effects show no deed
abbrev pub looks_of : Sizes → Words → List Effect
looks_of s heap = Scans (slot_word s 1) (slot_words s) (looks s heap) ∷ []

pub looks_show : (s : Sizes) (heap : Words) (logged : Site → Bool) →
    ShowsDeeds s logged [] (looks_of s heap)
looks_show s heap logged =
    let all : slot_words s * looks s heap ≤ slot_words s * s.slots =
    omega (arith, looks_within s heap) in
    let few : looks s heap ≤ s.slots = le_of_mul-le-mul_left all (omega arith) in
    scans (looks s heap) few done
