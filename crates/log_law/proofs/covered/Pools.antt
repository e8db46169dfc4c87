-- The kinds of the objects in the slots after a store, a new and a free.
use Rattle.std.proofs.Common.{◌≡◌, ◌<◌, ℕ, zero, suc, ℤ, pos, Bool, true, false, if◌then◌else◌}
use Rattle.std.proofs.Common.{List, [], ◌∷◌, Option, None, Some, IsSomeAnd, option_map}
use Rattle.std.proofs.Common.{slice_index_or, length, nat_eq, refl, ap, sym, ◌∙◌, subst, inl, inr}
use Rattle.std.proofs.Common.{arith}
use Rattle.std.proofs.lemmas.Bool.{false≢true, eqb-true, ltb-true, cases_eq}
use Rattle.pool_map.specs.declared.object.Object.{Object}
use Rattle.pool_map.specs.declared.shapes.Shapes.{Shapes}
use Rattle.pool_map.specs.PoolFits.{words_of}
use Rattle.pool_map.specs.PoolMap.{PoolMap, IsSlot, object_at, with_object, blank_object, new, free}
use Rattle.pool_map.specs.PoolMap.{write, write_root}
use Rattle.pool_map.proofs.Points.{object_at-with_object_same, object_at-with_object_other}
use Rattle.pool_map.proofs.Points.{kind-write}
use Rattle.pool_map.specs.Checks.{has_word}
use Rattle.code_meaning.specs.Code.{Spot, InRoot, InSlot, store_spot, is_kind, fields_of}
use Rattle.log_law.proofs.covered.Spots.{kind_at, Names, Has, Lies, Stays, Leaves, has_lies}
use Rattle.log_law.proofs.covered.Fills.{Filled}

-- a store changes no kind
has_field : (o : Option Object) (n : ℕ) → has_word o n ≡ true
    → IsSomeAnd o (λ object. n < length object.fields)
has_field None n h = absurd (false≢true h)
has_field (Some object) n h = ltb-true n (length object.fields) h

kind_map : (a b : Option Object) (s : ℕ) → option_map (λ (object : Object). object.kind) a
    ≡ option_map (λ (object : Object). object.kind) b → is_kind a s ≡ is_kind b s
kind_map None None s e = refl
kind_map None (Some b) s e = absurd (cc)
kind_map (Some a) None s e = absurd (cc)
kind_map (Some a) (Some b) s e =
    let same : a.kind ≡ b.kind = cc in
    ap (λ k. nat_eq k s) same

kind_root : (w : PoolMap) (n p : ℕ) (v : ℤ) (s : ℕ) → is_kind (object_at (write_root w n v) p) s
    ≡ is_kind (object_at w p) s
kind_root w n zero v s = refl
kind_root w n (suc p) v s = refl

kind_slot : (t : Bool) (w : PoolMap) (q n p : ℕ) (v : ℤ) (s : ℕ) → has_word (object_at w q) n ≡ t
    → is_kind (object_at (if t then write w q n v else w) p) s ≡ is_kind (object_at w p) s
kind_slot true w q n p v s h =
    kind_map (object_at (write w q n v) p) (object_at w p) s
    (kind-write w q n p v (has_field (object_at w q) n h))
kind_slot false w q n p v s h = refl

pub kind_store : (u : Spot) (w : PoolMap) (t : Spot) (v : ℤ) (s : ℕ)
    → kind_at u (store_spot w t v) s ≡ kind_at u w s
kind_store (InRoot i) w t v s = refl
kind_store (InSlot p i) w (InRoot n) v s = kind_root w n p v s
kind_store (InSlot p i) w (InSlot q n) v s = kind_slot (has_word (object_at w q) n) w q n p v s refl

pub store_stays : (shapes : Shapes) (u : Spot) (w : PoolMap) (t : Spot) (v : ℤ)
    → Stays shapes u w (store_spot w t v)
store_stays shapes u w t v = λ s h. (sym (kind_store u w t v s) ∙ h.0, h.1)

pub store_leaves : (shapes : Shapes) (u : Spot) (w : PoolMap) (t : Spot) (v : ℤ) (freed : Bool)
    → Leaves shapes u w (store_spot w t v) freed
store_leaves shapes u w t v freed = λ s e. inl (kind_store u w t v s ∙ e)

pub same_leaves : (shapes : Shapes) (u : Spot) (w : PoolMap) (freed : Bool)
    → Leaves shapes u w w freed
same_leaves shapes u w freed = λ s e. inl e

-- a slot with an object is a slot of the pool
within : (slots : List (Option Object)) (n s : ℕ) → is_kind (slice_index_or slots n None) s ≡ true
    → n < length slots
within [] n s h = absurd (false≢true h)
within (slot ∷ slots) zero s h = omega arith
within (slot ∷ slots) (suc n) s h = let below : n < length slots = within slots n s h in omega arith

pub kind_is_slot : (w : PoolMap) (q s : ℕ) → is_kind (object_at w q) s ≡ true → IsSlot w q
kind_is_slot w zero s h = absurd (false≢true h)
kind_is_slot w (suc n) s h = let below : n < length w.slots = within w.slots n s h in
    (omega arith, omega arith)

kind_same : (w : PoolMap) (p q s : ℕ) (o : Option Object) → p ≡ q → IsSlot w q
    → is_kind (object_at (with_object w q o) p) s ≡ is_kind o s
kind_same w p q s o e slot = ap (λ r. is_kind (object_at (with_object w q o) r) s) e
    ∙ ap (λ r. is_kind r s) (object_at-with_object_same w q o slot)

kind_other : (w : PoolMap) (p q s : ℕ) (o : Option Object) → (p ≡ q → ⊥) → IsSlot w q
    → is_kind (object_at (with_object w q o) p) s ≡ is_kind (object_at w p) s
kind_other w p q s o far slot = ap (λ r. is_kind r s) (object_at-with_object_other w q p o slot far)

pub empty_kind : (w : PoolMap) (p q s : ℕ) → p ≡ q → object_at w q ≡ None
    → is_kind (object_at w p) s ≡ true → ⊥
empty_kind w p q s e none h = false≢true
    (sym (ap (λ r. is_kind (object_at w r) s) e ∙ ap (λ o. is_kind o s) none) ∙ h)

-- a new object in an empty slot, if its fill doesn't store to the word
new_filled : (shapes : Shapes) (p i : ℕ) (w : PoolMap) (q kind s : ℕ) → IsSlot w q → p ≡ q
    → Has shapes (InSlot p i) (new w q kind (words_of (fields_of shapes kind))) s
    → Filled (InSlot p i) q 0 (words_of (fields_of shapes kind))
new_filled shapes p i w q kind s slot e h =
    let o : Option Object = Some (blank_object kind (words_of (fields_of shapes kind))) in
    let same : kind ≡ s = eqb-true kind s (sym (kind_same w p q s o e slot) ∙ h.0) in
    let below : i < words_of (fields_of shapes kind) =
    subst (λ t. i < words_of (fields_of shapes t)) (sym same) h.1 in
    (e, omega arith, omega arith)

pub new_stays : (shapes : Shapes) (u : Spot) (w : PoolMap) (q kind : ℕ) → IsSlot w q
    → (Filled u q 0 (words_of (fields_of shapes kind)) → ⊥)
    → Stays shapes u w (new w q kind (words_of (fields_of shapes kind)))
new_stays shapes (InRoot i) w q kind slot unfilled = λ s h. h
new_stays shapes (InSlot p i) w q kind slot unfilled = λ s h.
    elim (cases_eq p q) [
      | inl e ↦ absurd (unfilled (new_filled shapes p i w q kind s slot e h))
      | inr far ↦ (
        sym (kind_other w p q s
            (Some (blank_object kind (words_of (fields_of shapes kind)))) far slot) ∙ h.0,
        h.1,
      )
    ]

pub new_leaves : (shapes : Shapes) (u : Spot) (w : PoolMap) (q kind words : ℕ) (freed : Bool)
    → IsSlot w q → object_at w q ≡ None
    → Leaves shapes u w (new w q kind words) freed
new_leaves shapes (InRoot i) w q kind words freed slot none = λ s e. absurd (false≢true e)
new_leaves shapes (InSlot p i) w q kind words freed slot none = λ s h.
    elim (cases_eq p q) [
      | inl e ↦ absurd (empty_kind w p q s e none h)
      | inr far ↦ inl (kind_other w p q s (Some (blank_object kind words)) far slot ∙ h)
    ]

pub new_named : (shapes : Shapes) (u : Spot) (w : PoolMap) (q kind : ℕ) → IsSlot w q
    → (Filled u q 0 (words_of (fields_of shapes kind)) → ⊥)
    → (s x : ℕ) → Names u (pos q) →
    Lies shapes u (new w q kind (words_of (fields_of shapes kind))) s x → ⊥
new_named shapes (InRoot i) w q kind slot unfilled s x n l = n
new_named shapes (InSlot p i) w q kind slot unfilled s x n l =
    let e : p ≡ q = cc in
    unfilled (new_filled shapes p i w q kind s slot e
    (has_lies shapes (InSlot p i) (new w q kind (words_of (fields_of shapes kind))) s x l))

-- 0 is the number of no object and of no slot
pub null_named : (shapes : Shapes) (u : Spot) (w : PoolMap) (s x : ℕ) → Names u (pos 0)
    → Lies shapes u w s x → ⊥
null_named shapes (InRoot i) w s x n l = n
null_named shapes (InSlot zero i) w s x n l = false≢true l.0
null_named shapes (InSlot (suc p) i) w s x n l = absurd (cc)

-- a free
pub free_stays : (shapes : Shapes) (u : Spot) (w : PoolMap) (q : ℕ) → IsSlot w q
    → Stays shapes u w (free w q)
free_stays shapes (InRoot i) w q slot = λ s h. h
free_stays shapes (InSlot p i) w q slot = λ s h.
    elim (cases_eq p q) [
      | inl e ↦ absurd (false≢true (sym (kind_same w p q s None e slot) ∙ h.0))
      | inr far ↦ (sym (kind_other w p q s None far slot) ∙ h.0, h.1)
    ]

pub free_leaves : (shapes : Shapes) (u : Spot) (w : PoolMap) (q : ℕ) → IsSlot w q
    → Leaves shapes u w (free w q) true
free_leaves shapes (InRoot i) w q slot = λ s e. absurd (false≢true e)
free_leaves shapes (InSlot p i) w q slot = λ s h.
    elim (cases_eq p q) [
      | inl e ↦ inr (refl, λ t g. false≢true (sym (kind_same w p q t None e slot) ∙ g.0))
      | inr far ↦ inl (kind_other w p q s None far slot ∙ h)
    ]
