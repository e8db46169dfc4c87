-- A field of a well-typed tree is there, and its word is one of the pool's.
use Rattle.std.proofs.Common.{◌≡◌, ℕ, zero, suc, ◌+◌, ◌*◌, ◌-◌, ◌^◌, ◌<◌, ◌≤◌, min, ℤ, pos, negsuc}
use Rattle.std.proofs.Common.{Bool, true, false, List, [], ◌∷◌, length, map, refl, sym, ap, ◌∙◌}
use Rattle.std.proofs.Common.{arith, rules}
use Rattle.std.specs.Prelude.{Option, None, Some, Result, Ok, Err, option_map}
use Rattle.std.specs.Prelude.{slice_get, nat_lt, nat_le, if◌then◌else◌}
use Rattle.std.specs.Option.{option_map_or}
use Rattle.std.proofs.lemmas.Option.{slice_get-map, none-some, same_Some}
use Rattle.std.proofs.lemmas.List.Sums.{sum_by-cons}
use Rattle.std.proofs.lemmas.Bool.{false≢true, and_parts}
use Rattle.nvm_base.proofs.Tests.{le_from}
use Rattle.c_tree.specs.ItemTree.{FieldTree, LengthTree}
use Rattle.c_types.specs.Tables.{Tables, StructTree, index_of, field_names, field_named, is_length}
use Rattle.c_types.specs.Tables.{length_words, field_words, field_words_before, field_start}
use Rattle.c_types.specs.Declarations.{fields_broken}
use Rattle.c_types.specs.Shapes.{field_shape}
use Rattle.nvm_base.specs.Naturals.{natural_of}
use Rattle.pool_map.specs.PoolFits.{words_of_field, words_of}
use Rattle.pool_map.specs.declared.shapes.FieldShape.{FieldShape}
use Rattle.pool_map.specs.declared.trap.TrapKind.{TrapKind}
use Rattle.pool_map.specs.declared.trap.TrapKind.TheVariants as trap
use Rattle.pool_map.specs.Checks.{then_on, element_in}
use Rattle.pool_map.specs.declared.limits.TheConstants.{ARRAY_LENGTH, ROOT_WORDS}
use Rattle.c_meaning.specs.Access.{first_word, field_elements, word_in_struct}
use Rattle.lower.proofs.Sane.{IsSane}
use Rattle.lower.proofs.Sane as sane
use Rattle.code_meaning.specs.Code.{words_before}
use Rattle.lower_law.proofs.names.Typed.{before_same, before_small, field_same, field_length}
use Rattle.lower_law.proofs.names.Typed.{FieldThere, field_there}
use Rattle.rules_law.specs.typed.Programs.{IsStruct}
use Rattle.sound_law.specs.Places.{IndexFits, HasMember}

-- a number of a word, if there is one, is less than n
abbrev pub Below : ℕ → Result ℕ TrapKind → Type 0
Below n (Ok i) = i < n
Below n (Err k) = Unit {0}

-- the words of a field end before those of the struct do
shape_within : (fs : List FieldShape) (n : ℕ) (f : FieldShape) → slice_get fs n ≡ Some f
    → words_before n fs + words_of_field f ≤ words_of fs
shape_within [] n f is = absurd (none-some f is)
shape_within (x ∷ fs) zero f is =
    let same : words_of_field x ≡ words_of_field f = ap words_of_field (same_Some x f is) in
    let sum : words_of (x ∷ fs) ≡ words_of_field x + words_of fs =
    sum_by-cons words_of_field x fs in
    omega (arith, same, sum)
shape_within (x ∷ fs) (suc n) f is =
    let rest : words_before n fs + words_of_field f ≤ words_of fs = shape_within fs n f is in
    let sum : words_of (x ∷ fs) ≡ words_of_field x + words_of fs =
    sum_by-cons words_of_field x fs in
    omega (arith, rest, sum)

-- a field, its place and its words
pub record Placed (s : StructTree) (name : List ℕ) (f : FieldTree) : Type 0 where
  pub place : ℕ
  pub found : index_of name (field_names s) ≡ Some place
  pub stands : slice_get s.fields place ≡ Some f
  pub low : field_words_before place 0 s.fields ≤ 2 ^ 32
  pub within : field_words_before place 0 s.fields + field_words f
      ≤ words_of (map field_shape s.fields)

zero_plus : (n : ℕ) → 0 + n ≡ n
zero_plus n = omega arith

pub placed : (t : Tables) (i : ℕ) (s : StructTree) (name : List ℕ) (f : FieldTree) → IsSane t
    → slice_get t.structs i ≡ Some s → field_named s name ≡ Some f → Placed s name f
placed t i s name f h is named =
    let at : FieldThere s name f = field_there s name f named in
    let kept : (length s.fields ≤ ROOT_WORDS) × (fields_broken t (field_names s) 0 s.fields ≡ []) =
    h.fields i s is in
    let small : field_words_before at.place 0 s.fields ≤ ARRAY_LENGTH * length s.fields =
    before_small t (field_names s) at.place 0 s.fields kept.1 in
    let before : field_words_before at.place 0 s.fields ≡ words_before at.place
    (map field_shape s.fields) =
    ap (λ n. field_words_before n 0 s.fields) (sym (zero_plus at.place))
    ∙ before_same t (field_names s) 0 at.place s.fields kept.1 in
    let own = sane.field_at_place t (field_names s) 0 s.fields at.place f kept.1 at.stands in
    let words : field_words f ≡ words_of_field (field_shape f) =
    field_same f.len (field_length t (field_names s) (0 + at.place) f own) in
    let shape : slice_get (map field_shape s.fields) at.place ≡ Some (field_shape f) =
    slice_get-map field_shape s.fields at.place ∙ ap (option_map field_shape) at.stands in
    let within : words_before at.place (map field_shape s.fields) + words_of_field (field_shape f)
    ≤ words_of (map field_shape s.fields) =
    shape_within (map field_shape s.fields) at.place (field_shape f) shape in
    record {
      place = at.place;
      found = at.found;
      stands = at.stands;
      low = let few : length s.fields ≤ ROOT_WORDS = kept.0 in omega (arith, few, small);
      within = rw (before, words) within;
    }

-- an array has as many words as elements, no more than its limit
array_words : (n : ℤ) → is_length n ≡ true
    → (length_words n ≡ natural_of n) × (natural_of n ≤ ARRAY_LENGTH)
array_words (pos n) e = (
  rw e refl,
  le_from n ARRAY_LENGTH
      (and_parts (nat_le 1 n) (nat_le n ARRAY_LENGTH) e).1,
)
array_words (negsuc n) e = absurd (false≢true e)

-- the words of a field are few
few_words : (o : Option LengthTree) (index : Option ℤ) → IndexFits o index
    → (option_map_or (λ (l : LengthTree). length_words l.value) o 1) ≤ ARRAY_LENGTH
few_words None None h = omega arith
few_words None (Some j) h = absurd h
few_words (Some l) None h = absurd h
few_words (Some l) (Some j) h =
    let w = array_words l.value h in omega (arith, w.0, w.1)

pub member : (t : Tables) (at : Option ℕ) (i : ℕ) (s : StructTree) (name : List ℕ) (f : FieldTree)
    (index : Option ℤ) → at ≡ Some i → slice_get t.structs i ≡ Some s → IsStruct t i s
    → Placed s name f → IndexFits f.len index → HasMember t at name index
member t at i s name f index known is whole h indexed = record {
  number = i;
  known = known;
  owner = s;
  there = is;
  whole = whole;
  place = h.place;
  found = h.found;
  field = f;
  stands = h.stands;
  indexed = indexed;
  counted = let low = h.low in
      let few : field_words f ≤ ARRAY_LENGTH = few_words f.len index indexed in
      omega (arith, low, few);
}

-- an element's number is less than the number of elements
element_below : (n a w : ℕ) (j : ℤ) → a + n ≤ w
    → Below w (then_on (element_in n j) (λ i. Ok (min (a + i) (2 ^ 64 - 1))))
element_below n a w (negsuc j) le = tt
element_below n a w (pos j) le = by_test (nat_lt j n) refl
  where
    less : nat_lt j n ≡ true → j < n
    less e = search (rules)

    by_test : (b : Bool) → nat_lt j n ≡ b → Below w (then_on (if b then Ok j else Err trap.Index)
        (λ i. Ok (min (a + i) (2 ^ 64 - 1))))
    by_test true e = let lt : j < n = less e in omega (arith, lt, le)
    by_test false e = tt

pub word_below : (s : StructTree) (name : List ℕ) (f : FieldTree) (index : Option ℤ)
    → Placed s name f → field_named s name ≡ Some f → IndexFits f.len index
    → Below (words_of (map field_shape s.fields)) (word_in_struct s name index)
word_below s name f index h named indexed =
    by_index f.len refl index indexed
  where
    before : ℕ
    before = field_words_before h.place 0 s.fields

    first : first_word s name ≡ min before (2 ^ 64 - 1)
    first = ap (λ (o : Option ℕ). option_map_or (field_start s) o 0) h.found

    by_index : (o : Option LengthTree) → f.len ≡ o → (j : Option ℤ) → IndexFits o j
        → Below (words_of (map field_shape s.fields)) (word_in_struct s name j)
    by_index None long None ok =
        let one : field_words f ≡ 1 =
        ap (λ (o : Option LengthTree). option_map_or (λ (l : LengthTree). length_words l.value) o 1)
        long in
        let within : before + field_words f ≤ words_of (map field_shape s.fields) = h.within in
        rw first (omega (arith, one, within))
    by_index None long (Some j) ok = absurd ok
    by_index (Some l) long None ok = absurd ok
    by_index (Some l) long (Some j) ok =
        let words = array_words l.value ok in
        let own : field_words f ≡ length_words l.value =
        ap (λ (o : Option LengthTree). option_map_or (λ (l : LengthTree). length_words l.value) o 1)
        long in
        let many : field_elements s name ≡ natural_of l.value =
        ap (λ (o : Option FieldTree). option_map_or (λ (x : FieldTree).
        option_map_or (λ (l : LengthTree). natural_of l.value) x.len 0) o 0) named
        ∙ ap (λ (o : Option LengthTree).
        option_map_or (λ (l : LengthTree). natural_of l.value) o 0)
        long in
        let within : before + field_words f ≤ words_of (map field_shape s.fields) = h.within in
        rw (first, many)
        (element_below (natural_of l.value) (min before (2 ^ 64 - 1))
        (words_of (map field_shape s.fields)) j (omega (arith, within, own, words.0)))
