-- The word that a target names lies in the target's field, and is its only word unless the field is
-- an array.
use Rattle.std.proofs.Common.{◌≡◌, ℕ, zero, suc, ℤ, pos, negsuc, Bool, true, false, if◌then◌else◌}
use Rattle.std.proofs.Common.{Option, None, Ok, Err, List, slice_get, refl, ap, sym, ◌∙◌, subst}
use Rattle.pool_map.specs.declared.shapes.Shapes.{Shapes}
use Rattle.pool_map.specs.declared.trap.TrapKind.{TrapKind}
use Rattle.pool_map.specs.declared.trap.TrapKind.TheVariants as trap
use Rattle.pool_map.specs.PoolMap.{PoolMap, object_at}
use Rattle.ir.specs.declared.instruction.Target.TheVariants.{Root, Field}
use Rattle.ir.specs.WellFormed.{IsTarget, shape_field}
use Rattle.code_meaning.specs.Code.{Spot, InRoot, InSlot, is_kind, slot_of, word_in_shape}
use Rattle.pool_map.specs.Checks.{then_on}
use Rattle.code_meaning.specs.Code.{words_before, fields_of, spot_of, index_in}
use Rattle.log_law.proofs.covered.Fields.{width, field_only, then_ok, word_in_field, word_in_first}
use Rattle.log_law.proofs.covered.Fields.{indexed_one, field_of_is}
use Rattle.log_law.proofs.covered.Spots.{Names, Lies, LiesRoot}

slot_in : (t : Bool) (w : PoolMap) (kind n q : ℕ) (k : TrapKind) → is_kind (object_at w n) kind ≡ t
    → (if t then Ok n else Err k) ≡ Ok q → (n ≡ q) × (is_kind (object_at w q) kind ≡ true)
slot_in true w kind n q k h e =
    let same : n ≡ q = cc in
    (same, subst (λ r. is_kind (object_at w r) kind ≡ true) same h)
slot_in false w kind n q k h e = absurd (cc)

pub slot_ok : (w : PoolMap) (kind : ℕ) (pointer : ℤ) (q : ℕ) → slot_of w kind pointer ≡ Ok q
    → (pointer ≡ pos q) × (is_kind (object_at w q) kind ≡ true)
slot_ok w kind (pos zero) q e = absurd (cc)
slot_ok w kind (pos (suc n)) q e =
    let r = slot_in (is_kind (object_at w (suc n)) kind) w kind (suc n) q trap.Stale refl e in
    (ap pos r.0, r.1)
slot_ok w kind (negsuc n) q e = absurd (cc)

pub width_root : (shapes : Shapes) (r x : ℕ) (j : Option ℕ) (regs : List ℤ)
    → IsTarget shapes r (Root x j) → index_in regs (Root x j) ≡ None
    → width (slice_get shapes.root x) ≡ 1
width_root shapes r x j regs t e = indexed_one r (slice_get shapes.root x) j regs t e

pub width_field : (shapes : Shapes) (r b s x : ℕ) (j : Option ℕ) (regs : List ℤ)
    → IsTarget shapes r (Field b s x j) → index_in regs (Field b s x j) ≡ None
    → width (slice_get (fields_of shapes s) x) ≡ 1
width_field shapes r b s x j regs t e =
    subst (λ o. width o ≡ 1) (field_of_is shapes s x)
    (indexed_one r (shape_field shapes s x) j regs t.1 e)

pub root_target : (shapes : Shapes) (w : PoolMap) (x : ℕ) (j : Option ℕ) (pointer : ℤ)
    (index : Option ℤ) (u : Spot) → (index ≡ None → width (slice_get shapes.root x) ≡ 1)
    → spot_of shapes w (Root x j) pointer index ≡ Ok u → LiesRoot shapes u x
root_target shapes w x j pointer index u one e =
    let r = then_ok (word_in_shape shapes.root x index) (λ i. Ok (InRoot i)) u e in
    let same : InRoot r.0 ≡ u = cc (r.2) in
    subst (λ v. LiesRoot shapes v x) same (word_in_field shapes.root x r.0 index one r.1)

pub field_target : (shapes : Shapes) (w : PoolMap) (b s x : ℕ) (j : Option ℕ) (pointer : ℤ)
    (index : Option ℤ) (u : Spot) → (index ≡ None → width (slice_get (fields_of shapes s) x) ≡ 1)
    → spot_of shapes w (Field b s x j) pointer index ≡ Ok u → Names u pointer × Lies shapes u w s x
field_target shapes w b s x j pointer index u one e =
    let q = then_ok (slot_of w s pointer) (λ q. then_on (word_in_shape (fields_of shapes s) x index)
    (λ i. Ok (InSlot q i))) u e in
    let r = then_ok (word_in_shape (fields_of shapes s) x index) (λ i. Ok (InSlot q.0 i)) u q.2 in
    let is = slot_ok w s pointer q.0 q.1 in
    let same : InSlot q.0 r.0 ≡ u = cc (r.2) in
    subst (λ v. Names v pointer × Lies shapes v w s x) same
    (is.0, (is.1, word_in_field (fields_of shapes s) x r.0 index one r.1))

pub root_first : (shapes : Shapes) (w : PoolMap) (x : ℕ) (j : Option ℕ) (pointer : ℤ) (t u : Spot)
    → width (slice_get shapes.root x) ≡ 1
    → spot_of shapes w (Root x j) pointer None ≡ Ok t → LiesRoot shapes u x → u ≡ t
root_first shapes w x j pointer t (InRoot i) one e l =
    let r = then_ok (word_in_shape shapes.root x None) (λ i. Ok (InRoot i)) t e in
    let at_first : words_before x shapes.root ≡ r.0 = word_in_first shapes.root x r.0 r.1 in
    let only : words_before x shapes.root ≡ i = field_only shapes.root x i one l in
    let same : InRoot r.0 ≡ t = cc (r.2) in
    ap InRoot (sym only ∙ at_first) ∙ same
root_first shapes w x j pointer t (InSlot p i) one e l = absurd l

pub field_first : (shapes : Shapes) (w w' : PoolMap) (b s x : ℕ) (j : Option ℕ) (pointer : ℤ)
    (t u : Spot) → width (slice_get (fields_of shapes s) x) ≡ 1
    → spot_of shapes w (Field b s x j) pointer None ≡ Ok t → Names u pointer
    → Lies shapes u w' s x → u ≡ t
field_first shapes w w' b s x j pointer t (InRoot i) one e n l = absurd n
field_first shapes w w' b s x j pointer t (InSlot p i) one e n l =
    let q = then_ok (slot_of w s pointer) (λ q. then_on (word_in_shape (fields_of shapes s) x None)
    (λ i. Ok (InSlot q i))) t e in
    let r = then_ok (word_in_shape (fields_of shapes s) x None) (λ i. Ok (InSlot q.0 i)) t q.2 in
    let is = slot_ok w s pointer q.0 q.1 in
    let at_first : words_before x (fields_of shapes s) ≡ r.0 =
    word_in_first (fields_of shapes s) x r.0 r.1 in
    let only : words_before x (fields_of shapes s) ≡ i =
    field_only (fields_of shapes s) x i one l.1 in
    let slot : pos p ≡ pos q.0 = sym n ∙ is.0 in
    let slots : p ≡ q.0 = cc in
    let words : i ≡ r.0 = sym only ∙ at_first in
    let same : InSlot q.0 r.0 ≡ t = cc (r.2) in
    cc
