-- The emitter's places of a field's words are those of the code.
use Rattle.std.proofs.Common.{◌≡◌, ℕ, zero, suc, ◌+◌, ◌<◌, ◌≤◌, true, false, List, [], ◌∷◌, Option}
use Rattle.std.proofs.Common.{None, Some, refl, sym, ap, ◌∙◌, arith, eqb, leb, le-leb, ne_eqb}
use Rattle.std.proofs.Common.{sub-one}
use Rattle.std.specs.Prelude.{slice_get}
use Rattle.std.specs.Option.{option_map_or}
use Rattle.std.proofs.lemmas.List.Sums.{sum_by-cons}
use Rattle.pool_map.specs.declared.shapes.FieldShape.{FieldShape}
use Rattle.pool_map.specs.PoolFits.{words_of, words_of_field}
use Rattle.ir.specs.WellFormed.{IsIndexed}
use Rattle.code_meaning.specs.Code.{words_before, elements}
use Rattle.codegen.specs.declared.fields.At.TheVariants.{Word, Element}
use Rattle.codegen.specs.declared.fields.Reach.{Reach}
use Rattle.codegen.specs.Fields.{word_after_field, place_at, field_at, reach, words_from}

words_more : (field : FieldShape) (fs : List FieldShape)
    → words_of (field ∷ fs) ≡ words_of_field field + words_of fs
words_more field fs = sum_by-cons words_of_field field fs

past_is : (limit n : ℕ) (field : FieldShape) → n + words_of_field field ≤ limit
    → word_after_field limit n field ≡ Some (n + words_of_field field)
past_is limit n field fits = let e : leb (n + words_of_field field) limit ≡ true =
    le-leb (n + words_of_field field) limit fits in rw e refl

pub field_is : (limit n : ℕ) (fs : List FieldShape) (f : ℕ) (shape : FieldShape)
    → slice_get fs f ≡ Some shape → n + words_of fs ≤ limit
    → field_at limit n fs f ≡ Some (place_at (n + words_before f fs) shape)
field_is limit n [] f shape e fits = absurd (cc)
field_is limit n (field ∷ fs) zero shape e fits =
    let is : field ≡ shape = cc in
    let at : n ≡ n + 0 = omega arith in
    rw (past_is limit n field (omega (arith, words_more field fs)))
    (ap (λ (x : FieldShape). Some (place_at n x)) is ∙ ap (λ (m : ℕ). Some (place_at m shape)) at)
field_is limit n (field ∷ fs) (suc f) shape e fits =
    let ne : eqb (suc f) 0 ≡ false = ne_eqb (suc f) 0 (λ z. absurd (omega arith)) in
    let at : n + words_of_field field + words_before f fs ≡ n
    + (words_of_field field + words_before f fs) = omega arith in
    rw (past_is limit n field (omega (arith, words_more field fs)), ne, sub-one)
    (field_is limit (n + words_of_field field) fs f shape e (omega (arith, words_more field fs))
    ∙ ap (λ (m : ℕ). Some (place_at m shape)) at)

pub words_is : (limit n : ℕ) (fs : List FieldShape) → n + words_of fs ≤ limit
    → words_from limit n fs ≡ Some (n + words_of fs)
words_is limit n [] fits = let at : n ≡ n + 0 = omega arith in ap Some at
words_is limit n (field ∷ fs) fits =
    let at : n + words_of_field field + words_of fs ≡ n + (words_of_field field + words_of fs) =
    omega arith in
    rw (past_is limit n field (omega (arith, words_more field fs)))
    (words_is limit (n + words_of_field field) fs (omega (arith, words_more field fs))
    ∙ ap Some at ∙ ap (λ (m : ℕ). Some (n + m)) (sym (words_more field fs)))

-- the field's words are among those of all fields
pub within_all : (fs : List FieldShape) (f : ℕ) (shape : FieldShape) → slice_get fs f ≡ Some shape
    → words_before f fs + words_of_field shape ≤ words_of fs
within_all [] f shape e = absurd (cc)
within_all (field ∷ fs) zero shape e = let is : words_of_field field ≡ words_of_field shape =
    ap (λ (o : Option FieldShape). option_map_or words_of_field o 0) e in
    omega (arith, words_more field fs)
within_all (field ∷ fs) (suc f) shape e = let rest = within_all fs f shape e in
    omega (arith, words_more field fs)

-- how a field is reached: one word, or an element of an array
pub data Reaches (fs : List FieldShape) (f : ℕ) : Option ℕ → Option Reach → Type 0 where
  word : (first : ℕ) → words_before f fs ≡ first → first < words_of fs
      → Reaches fs f None (Some (record { first = first; at = Word }))
  element : (i first len : ℕ) → words_before f fs ≡ first → elements (slice_get fs f) ≡ len
      → first + len ≤ words_of fs → Reaches fs f (Some i)
      (Some (record { first = first; at = Element i len }))

reached : (r limit : ℕ) (fs : List FieldShape) (f : ℕ) (o : Option FieldShape) (index : Option ℕ)
    → slice_get fs f ≡ o → words_of fs ≤ limit → IsIndexed r o index
    → Reaches fs f index (reach (field_at limit 0 fs f) index)
reached r limit fs f None index e fits is = absurd is
reached r limit fs f (Some shape) None e fits is =
    let place = field_is limit 0 fs f shape e (omega arith) in
    let inside = within_all fs f shape e in
    let one : words_of_field shape ≡ 1 = rw is refl in
    let at : 0 + words_before f fs ≡ words_before f fs = omega arith in
    rw (place, is, at) (word (words_before f fs) refl (omega arith))
reached r limit fs f (Some shape) (Some i) e fits is =
    let place = field_is limit 0 fs f shape e (omega arith) in
    let inside = within_all fs f shape e in
    let many : words_of_field shape ≡ is.0 = rw is.1 refl in
    let at : 0 + words_before f fs ≡ words_before f fs = omega arith in
    let len : elements (slice_get fs f) ≡ is.0 =
    ap elements e ∙ ap (λ (n : Option ℕ). option_map_or (λ k. k) n 0) is.1 in
    rw (place, is.1, at) (element i (words_before f fs) is.0 refl len (omega arith))

pub reaches : (r limit : ℕ) (fs : List FieldShape) (f : ℕ) (index : Option ℕ) → words_of fs ≤ limit
    → IsIndexed r (slice_get fs f) index → Reaches fs f index (reach (field_at limit 0 fs f) index)
reaches r limit fs f index fits is = reached r limit fs f (slice_get fs f) index refl fits is
