-- The words of a field: a word lies in at most one of them.
use Rattle.std.proofs.Common.{◌≡◌, ◌<◌, ◌≤◌, ◌+◌, ◌-◌, ℕ, zero, suc, ℤ, pos, negsuc, Bool, true}
use Rattle.std.proofs.Common.{false, if◌then◌else◌, List, [], ◌∷◌, Option, None, Some, Result, Ok}
use Rattle.std.proofs.Common.{Err, option_map, option_and_then, unwrap_or, slice_get, nat_lt, refl}
use Rattle.std.proofs.Common.{ap, arith}
use Rattle.std.specs.Option.{option_map_or}
use Rattle.std.proofs.lemmas.Bool.{ltb-true}
use Rattle.std.proofs.lemmas.List.Sums.{sum_by-cons}
use Rattle.pool_map.specs.declared.shapes.FieldShape.{FieldShape}
use Rattle.pool_map.specs.declared.shapes.StructShape.{StructShape}
use Rattle.pool_map.specs.declared.shapes.Shapes.{Shapes}
use Rattle.pool_map.specs.declared.trap.TrapKind.{TrapKind}
use Rattle.pool_map.specs.declared.trap.TrapKind.TheVariants as trap
use Rattle.pool_map.specs.PoolFits.{words_of, words_of_field}
use Rattle.ir.specs.WellFormed.{IsIndexed, struct_of, shape_field}
use Rattle.pool_map.specs.Checks.{then_on, element_in}
use Rattle.code_meaning.specs.Code.{register_at, words_before, word_in_shape, elements}
use Rattle.code_meaning.specs.Code.{fields_of}

abbrev pub width : Option FieldShape → ℕ
width None = 0
width (Some f) = words_of_field f

-- word i belongs to field x
abbrev pub InField : List FieldShape → (x i : ℕ) → Type 0
InField fs x i = (words_before x fs ≤ i) × (i < words_before x fs + width (slice_get fs x))

pub field_one : (fs : List FieldShape) (x y i : ℕ) → InField fs x i → InField fs y i → x ≡ y
field_one [] x y i a b = absurd (omega arith)
field_one (f ∷ fs) zero zero i a b = refl
field_one (f ∷ fs) zero (suc y) i a b = absurd (omega arith)
field_one (f ∷ fs) (suc x) zero i a b = absurd (omega arith)
field_one (f ∷ fs) (suc x) (suc y) i a b =
    ap suc (field_one fs x y (i - words_of_field f) (omega arith) (omega arith))

pub field_below : (fs : List FieldShape) (x i : ℕ) → InField fs x i → i < words_of fs
field_below [] x i a = absurd (omega arith)
field_below (f ∷ fs) zero i a = omega (arith, sum_by-cons words_of_field f fs)
field_below (f ∷ fs) (suc x) i a =
    let below : i - words_of_field f < words_of fs =
    field_below fs x (i - words_of_field f) (omega arith) in
    omega (arith, sum_by-cons words_of_field f fs)

-- a field of one word has only its first word
pub field_only : (fs : List FieldShape) (x i : ℕ) → width (slice_get fs x) ≡ 1 → InField fs x i
    → words_before x fs ≡ i
field_only fs x i one a = omega arith

-- results of checks
pub then_ok : {A B : Type 0} (r : Result A TrapKind) (go : A → Result B TrapKind) (b : B)
    → then_on r go ≡ Ok b → (a : A) × (r ≡ Ok a) × (go a ≡ Ok b)
then_ok (Ok a) go b e = (a, refl, e)
then_ok (Err k) go b e = absurd (cc)

element_below : (t : Bool) (n i j : ℕ) (k : TrapKind) → nat_lt i n ≡ t
    → (if t then Ok i else Err k) ≡ Ok j → j < n
element_below true n i j k e h =
    let same : i ≡ j = cc in
    omega (arith, ltb-true i n e)
element_below false n i j k e h = absurd (cc)

element_within : (n : ℕ) (index : ℤ) (i : ℕ) → element_in n index ≡ Ok i → i < n
element_within n (pos j) i e = element_below (nat_lt j n) n j i trap.Index refl e
element_within n (negsuc j) i e = absurd (cc)

length_width : (o : Option ℕ) → option_map_or (λ (n : ℕ). n) o 0 ≤ unwrap_or o 1
length_width None = omega arith
length_width (Some n) = omega arith

elements_width : (o : Option FieldShape) → elements o ≤ width o
elements_width None = omega arith
elements_width (Some f) = length_width f.length

-- a target's word lies in its field
pub word_in_field : (fs : List FieldShape) (x n : ℕ) (index : Option ℤ)
    → (index ≡ None → width (slice_get fs x) ≡ 1) → word_in_shape fs x index ≡ Ok n → InField fs x n
word_in_field fs x n None one e =
    let same : words_before x fs ≡ n = cc in
    omega (arith, one refl)
word_in_field fs x n (Some index) one e =
    let r = then_ok (element_in (elements (slice_get fs x)) index)
    (λ i. Ok (words_before x fs + i)) n e in
    let same : words_before x fs + r.0 ≡ n = cc (r.2) in
    omega (
      arith,
      element_within (elements (slice_get fs x)) index r.0 r.1,
      elements_width (slice_get fs x),
    )

-- without an index it is the field's first word
pub word_in_first : (fs : List FieldShape) (x n : ℕ) → word_in_shape fs x None ≡ Ok n
    → words_before x fs ≡ n
word_in_first fs x n e = cc

pub indexed_one : (r : ℕ) (o : Option FieldShape) (index : Option ℕ) (regs : List ℤ)
    → IsIndexed r o index → option_map (register_at regs) index ≡ None → width o ≡ 1
indexed_one r None index regs h e = absurd h
indexed_one r (Some shape) None regs h e = rw h refl
indexed_one r (Some shape) (Some i) regs h e = absurd (cc)

field_of_some : (o : Option StructShape) (x : ℕ)
    → option_and_then (λ (s : StructShape). slice_get s.fields x) o
    ≡ slice_get (option_map_or (λ (s : StructShape). s.fields) o []) x
field_of_some None x = refl
field_of_some (Some s) x = refl

pub field_of_is : (shapes : Shapes) (kind x : ℕ)
    → shape_field shapes kind x ≡ slice_get (fields_of shapes kind) x
field_of_is shapes kind x = field_of_some (struct_of shapes kind) x
