-- In a tree that breaks no rule, fields, new objects and freed ones mean the same in the tree and
-- in the code.
use Rattle.std.proofs.Common.{◌≡◌, ℕ, suc, ◌+◌, ◌*◌, ◌-◌, ◌^◌, ◌<◌, ◌≤◌, min, ℤ, pos, negsuc, Bool}
use Rattle.std.proofs.Common.{true, false, List, [], ◌∷◌, length, map, refl, sym, ap, ◌∙◌, subst}
use Rattle.std.proofs.Common.{arith, rules}
use Rattle.std.specs.Prelude.{Option, None, Some, Result, Ok, Err, option_map, option_and_then}
use Rattle.std.specs.Prelude.{slice_get, nat_lt, nat_le, if◌then◌else◌, ◌&&◌}
use Rattle.std.specs.Option.{option_map_or}
use Rattle.std.specs.Int.{w64, cast_unsigned}
use Rattle.std.proofs.lemmas.Option.{slice_get-map, slice_get_within}
use Rattle.std.proofs.lemmas.List.Sums.{sum_by-cons}
use Rattle.std.proofs.lemmas.Bool.{false≢true, and_parts}
use Rattle.nvm_base.proofs.Tests.{le_from}
use Rattle.c_tree.specs.ExprTree.{Ident}
use Rattle.c_tree.specs.ItemTree.{FieldTree, LengthTree}
use Rattle.c_types.specs.declared.value_type.ValueType.{ValueType}
use Rattle.c_types.specs.declared.value_type.ValueType.TheVariants.{Int, Pointer, Null, Any}
use Rattle.c_types.specs.declared.broken.Rule.TheVariants.{Twice, Mismatch}
use Rattle.c_types.specs.Broken.{broken_at, unless}
use Rattle.c_types.specs.Fits.{is_pointer}
use Rattle.c_types.specs.Tables.{Tables, StructTree, index_of, field_names, field_named, is_length}
use Rattle.c_types.specs.Tables.{is_first, field_words, words_from, words_of_struct, words_at}
use Rattle.c_types.specs.Tables.{field_start, field_words_before, number_at, numbered_up_to}
use Rattle.c_types.specs.Tables.{root_struct, pointed_struct, pointed_limit}
use Rattle.c_types.specs.Statements.{type_broken}
use Rattle.c_types.specs.Shapes.{field_shape, root_fields, shapes_in}
use Rattle.c_types.specs.Declarations.{length_broken, field_broken, fields_broken}
use Rattle.c_types.specs.Expressions.{member_broken, root_broken, arrow_broken, pointer_broken}
use Rattle.c_types.proofs.Unbroken.{none_left, none_right, holds}
use Rattle.pool_map.specs.PoolMap.{PoolMap, least_free}
use Rattle.pool_map.specs.PoolFits as pool
use Rattle.pool_map.specs.PoolFits.{words_of_field}
use Rattle.pool_map.specs.declared.shapes.StructShape.{StructShape}
use Rattle.pool_map.specs.declared.shapes.FieldShape.{FieldShape}
use Rattle.pool_map.specs.declared.trap.TrapKind.{TrapKind}
use Rattle.pool_map.specs.declared.trap.TrapKind.TheVariants as trap
use Rattle.pool_map.specs.declared.word.PoolWord.TheVariants.{Root, Field}
use Rattle.pool_map.specs.Checks.{then_on, element_in, new_at}
use Rattle.pool_map.specs.declared.limits.TheConstants.{ARRAY_LENGTH, OBJECT_WORDS, ROOT_WORDS}
use Rattle.c_meaning.specs.Access as access
use Rattle.nvm_base.specs.Naturals.{natural_of}
use Rattle.lower.specs.Names.{found_number, struct_kind_at, kind_named, field_number, nowhere}
use Rattle.lower.specs.Names.{root_target, field_target}
use Rattle.lower.proofs.Sane.{IsSane, is_pointed, pointed_words, kind_of_struct}
use Rattle.lower.proofs.GoodTypes.{IsGood, member_there, pointer_good}
use Rattle.code_meaning.specs.Code as code
use Rattle.code_meaning.specs.Code.{spot_of, fields_of, new_in}
use Rattle.lower_law.proofs.names.Fits.{NewFits}
use Rattle.lower_law.proofs.names.Typed.{slot_same, field_same, field_length, before_same}
use Rattle.lower_law.proofs.names.Typed.{before_small}
use Rattle.lower_law.proofs.names.Typed.{FieldThere, field_there}

zero_plus : (n : ℕ) → 0 + n ≡ n
zero_plus n = omega arith

-- an array has as many elements as its shape says
elements_same : (l : Option LengthTree) → option_map_or length_broken l [] ≡ []
    → option_map_or (λ (x : LengthTree). natural_of x.value) l 0 ≡ option_map_or (λ n. n)
    (option_map (λ (x : LengthTree). cast_unsigned w64 x.value) l) 0
elements_same None e = refl
elements_same (Some l) e = same l.value (holds (is_length l.value) l.place _ e)
  where
    same : (n : ℤ) → is_length n ≡ true → natural_of n ≡ cast_unsigned w64 n
    same (pos n) e = refl
    same (negsuc n) e = absurd (false≢true e)

elements_few : (l : Option LengthTree) → option_map_or length_broken l [] ≡ []
    → option_map_or (λ (x : LengthTree). natural_of x.value) l 0 ≤ ARRAY_LENGTH
elements_few None e = omega arith
elements_few (Some l) e = few l.value (holds (is_length l.value) l.place _ e)
  where
    few : (n : ℤ) → is_length n ≡ true → natural_of n ≤ ARRAY_LENGTH
    few (pos n) e = let both : (nat_le 1 n && nat_le n ARRAY_LENGTH) ≡ true = e in
        le_from n ARRAY_LENGTH (and_parts (nat_le 1 n) (nat_le n ARRAY_LENGTH) both).1
    few (negsuc n) e = omega arith

-- the word of an element isn't cut at 64 bits
index_same : (n a : ℕ) (x : ℤ) → n ≤ ARRAY_LENGTH → a ≤ 2 ^ 32
    → then_on (element_in n x) (λ i. Ok (min (a + i) (2 ^ 64 - 1)))
    ≡ then_on (element_in n x) (λ i. Ok (a + i))
index_same n a (negsuc i) few low = refl
index_same n a (pos i) few low = by_test (nat_lt i n) refl
  where
    less : nat_lt i n ≡ true → i < n
    less e = search (rules)

    by_test : (b : Bool) → nat_lt i n ≡ b → then_on (if b then Ok i else Err trap.Index)
        (λ i. Ok (min (a + i) (2 ^ 64 - 1))) ≡ then_on (if b then Ok i else Err trap.Index)
        (λ i. Ok (a + i))
    by_test true e = let lt : i < n = less e in let same : min (a + i) (2 ^ 64 - 1) ≡ a + i =
        omega (arith, lt, few, low) in ap Ok same
    by_test false e = refl

-- a field of an existing struct: its place, and its number in the code
record Named (t : Tables) (i : ℕ) (s : StructTree) (name : Ident) : Type 0 where
  pub field : FieldTree
  pub named : field_named s name.text ≡ Some field
  pub place : ℕ
  pub found : index_of name.text (field_names s) ≡ Some place
  pub stands : slice_get s.fields place ≡ Some field
  pub number : field_number t name.text (Some i) ≡ place
  pub long : option_map_or length_broken field.len [] ≡ []

named_field : (t : Tables) (i : ℕ) (s : StructTree) (name : Ident) → IsSane t
    → slice_get t.structs i ≡ Some s → member_broken t i name ≡ [] → Named t i s name
named_field t i s name h is e =
    let there = member_there t i s name h is e in
    let f : FieldTree = there.0 in
    let named : field_named s name.text ≡ Some f =
    sym (ap (option_and_then (λ (x : StructTree). field_named x name.text)) is) ∙ there.1 in
    let at_place : FieldThere s name.text f = field_there s name.text f named in
    let few : length s.fields ≤ ROOT_WORDS = (h.fields i s is).0 in
    let within : at_place.place < length s.fields =
    slice_get_within s.fields at_place.place f at_place.stands in
    record {
      field = f;
      named = named;
      place = at_place.place;
      found = at_place.found;
      stands = at_place.stands;
      number = ap (λ (o : Option StructTree).
          option_map_or (λ (x : StructTree). found_number (index_of name.text (field_names x))) o
          nowhere) is ∙ ap found_number at_place.found
          ∙ small_number at_place.place (omega (arith, few, within));
      long = field_length t (field_names s) (0 + there.2.place) f there.2.holds;
    }
  where
    small_number : (n : ℕ) → n < ROOT_WORDS → found_number (Some n) ≡ n
    small_number n lt = omega (arith, lt)

-- the word of a field or an element is the same in the tree and in the code
word_same : (t : Tables) (i : ℕ) (s : StructTree) (name : Ident) (j : Option ℤ) → IsSane t
    → slice_get t.structs i ≡ Some s → member_broken t i name ≡ []
    → access.word_in_struct s name.text j ≡ code.word_in_shape (map field_shape s.fields)
    (field_number t name.text (Some i)) j
word_same t i s name j h is e =
    by_index j ∙ sym (ap (λ (n : ℕ). code.word_in_shape (map field_shape s.fields) n j) f.number)
  where
    f : Named t i s name
    f = named_field t i s name h is e

    kept_fields : (length s.fields ≤ ROOT_WORDS) × (fields_broken t (field_names s) 0 s.fields ≡ [])
    kept_fields = h.fields i s is

    low : field_words_before f.place 0 s.fields ≤ 2 ^ 32
    low = let few : length s.fields ≤ ROOT_WORDS = kept_fields.0 in
        let small : field_words_before f.place 0 s.fields ≤ ARRAY_LENGTH * length s.fields =
        before_small t (field_names s) f.place 0 s.fields kept_fields.1 in omega (arith, few, small)

    counted_same : field_words_before f.place 0 s.fields ≡ code.words_before f.place
        (map field_shape s.fields)
    counted_same = ap (λ n. field_words_before n 0 s.fields) (sym (zero_plus f.place))
        ∙ before_same t (field_names s) 0 f.place s.fields kept_fields.1

    first : access.first_word s name.text ≡ field_words_before f.place 0 s.fields
    first = ap (λ (o : Option ℕ). option_map_or (field_start s) o 0) f.found
        ∙ uncut (field_words_before f.place 0 s.fields) low
      where
        uncut : (n : ℕ) → n ≤ 2 ^ 32 → min n (2 ^ 64 - 1) ≡ n
        uncut n le = omega (arith, le)

    long : access.field_elements s name.text
        ≡ code.elements (slice_get (map field_shape s.fields) f.place)
    long = ap (λ (o : Option FieldTree).
        option_map_or (λ (x : FieldTree).
        option_map_or (λ (l : LengthTree). natural_of l.value) x.len 0) o 0) f.named
        ∙ elements_same f.field.len f.long
        ∙ sym (ap code.elements (slice_get-map field_shape s.fields f.place
        ∙ ap (option_map field_shape) f.stands))

    few : access.field_elements s name.text ≤ ARRAY_LENGTH
    few = subst (λ n. n ≤ ARRAY_LENGTH) (sym
        (ap (λ (o : Option FieldTree).
        option_map_or (λ (x : FieldTree).
        option_map_or (λ (l : LengthTree). natural_of l.value) x.len 0) o 0) f.named))
        (elements_few f.field.len f.long)

    by_index : (k : Option ℤ) → access.word_in_struct s name.text k ≡ code.word_in_shape
        (map field_shape s.fields) f.place k
    by_index None = ap Ok (first ∙ counted_same)
    by_index (Some x) =
        ap (λ (a : ℕ). then_on (element_in (access.field_elements s name.text) x)
        (λ i. Ok (min (a + i) (2 ^ 64 - 1)))) first
        ∙ index_same (access.field_elements s name.text) (field_words_before f.place 0 s.fields) x
        few low
        ∙ ap (λ (n : ℕ). then_on (element_in n x)
        (λ i. Ok (field_words_before f.place 0 s.fields + i))) long
        ∙ ap (λ (a : ℕ). then_on (element_in
        (code.elements (slice_get (map field_shape s.fields) f.place)) x) (λ i. Ok (a + i)))
        counted_same

-- a field of the root
pub root_word : (t : Tables) (name : Ident) (w : PoolMap) (b : ℤ) (j : Option ℤ) → IsSane t
    → root_broken t name ≡ [] → access.of_root t name.text j ≡ spot_of (shapes_in t) w
    (root_target t name.text) b j
root_word t name w b j h e =
    let i : ℕ = h.root.0 in
    let s : StructTree = h.root.1 in
    let e2 : member_broken t i name ≡ [] = rw h.root.2 at e in
    let fields : root_fields t ≡ s.fields = rw (h.root.2, h.root.3) refl in
    let word : access.struct_word_at t (root_struct t) name.text j ≡ access.word_in_struct s
    name.text j =
    ap (λ (o : Option ℕ). access.struct_word_at t o name.text j) h.root.2
    ∙ ap (λ (o : Option StructTree).
    option_map_or (λ (x : StructTree). access.word_in_struct x name.text j) o (Ok 0)) h.root.3 in
    let same : access.word_in_struct s name.text j ≡ code.word_in_shape
    (map field_shape (root_fields t)) (field_number t name.text (root_struct t)) j =
    word_same t i s name j h h.root.3 e2
    ∙ ap (λ (fs : List FieldTree).
    code.word_in_shape (map field_shape fs) (field_number t name.text (Some i)) j) (sym fields)
    ∙ ap (λ (o : Option ℕ). code.word_in_shape (map field_shape (root_fields t))
    (field_number t name.text o) j) (sym h.root.2) in
    ap (λ (o : Result ℕ TrapKind). then_on o (λ i. Ok (Root i))) (word ∙ same)

-- the number of a struct is its kind in the code
pub numbered_few : (root : Option ℕ) (n i : ℕ) (ss : List StructTree)
    → numbered_up_to root n i ss ≤ length ss
numbered_few root n i [] = omega arith
numbered_few root n i (s ∷ ss) =
    by_test (nat_le i n && nat_le (words_of_struct s) (pointed_limit root i))
    (numbered_up_to root n (i + 1) ss) (numbered_few root n (i + 1) ss)
  where
    by_test : (b : Bool) (m : ℕ) → m ≤ length ss → (if b then 1 else 0) + m ≤ suc (length ss)
    by_test true m le = omega (arith, le)
    by_test false m le = omega (arith, le)

kind_same : (t : Tables) (i : ℕ) → IsSane t → struct_kind_at t (Some i) ≡ number_at t i
kind_same t i h =
    small (number_at t i) (length t.structs) (numbered_few (root_struct t) i 0 t.structs) h.structs
  where
    small : (n m : ℕ) → n ≤ m → m ≤ 255 → found_number (Some n) ≡ n
    small n m le few = omega (arith, le, few)

-- the fields of the objects of a kind
kind_fields : (t : Tables) (i : ℕ) (s : StructTree) → IsSane t → slice_get t.structs i ≡ Some s
    → is_pointed t i s ≡ true → fields_of (shapes_in t) (struct_kind_at t (Some i))
    ≡ map field_shape s.fields
kind_fields t i s h is small =
    ap (λ (o : Option StructShape). option_map_or (λ (x : StructShape). x.fields) o [])
    (kind_of_struct t i s h.structs is small).shape

-- a field of the object that a pointer names
pub arrow_word : (t : Tables) (ty : ValueType) (place : ℕ) (name : Ident) (reg : ℕ) (w : PoolMap)
    (b : ℤ) (j : Option ℤ) → IsSane t → IsGood t ty → arrow_broken t ty place name ≡ []
    → access.pointed_word t w (pointed_struct ty) b name.text j
    ≡ spot_of (shapes_in t) w (field_target t ty reg name.text) b j
arrow_word t (Pointer i) place name reg w b j h g e =
    let s : StructTree = g.0 in
    let kind : ℕ = struct_kind_at t (Some i) in
    let slot : access.struct_slot w (Some (number_at t i)) b ≡ code.slot_of w kind b =
    slot_same w (number_at t i) b ∙ ap (λ n. code.slot_of w n b) (sym (kind_same t i h)) in
    let word : access.struct_word_at t (Some i) name.text j ≡ code.word_in_shape
    (fields_of (shapes_in t) kind) (field_number t name.text (Some i)) j =
    ap (λ (o : Option StructTree).
    option_map_or (λ (x : StructTree). access.word_in_struct x name.text j) o (Ok 0)) g.1
    ∙ word_same t i s name j h g.1 e
    ∙ ap (λ (fs : List FieldShape). code.word_in_shape fs (field_number t name.text (Some i)) j)
    (sym (kind_fields t i s h g.1 g.2)) in
    ap (λ (o : Result ℕ TrapKind).
    then_on o (λ s. then_on (access.struct_word_at t (Some i) name.text j)
    (λ i. Ok (Field s i)))) slot
    ∙ ap (λ (o : Result ℕ TrapKind).
    then_on (code.slot_of w kind b) (λ s. then_on o (λ i. Ok (Field s i)))) word
arrow_word t (Int n) place name reg w b j h g e = absurd (some_none e)
  where
    some_none : broken_at place Mismatch ≡ [] → ⊥
    some_none e = cc
arrow_word t Null place name reg w b j h g e = absurd (some_none e)
  where
    some_none : broken_at place Mismatch ≡ [] → ⊥
    some_none e = cc
arrow_word t Any place name reg w b j h g e = absurd g

-- the words of a struct are those of its shape
words_same : (t : Tables) (names : List (List ℕ)) (i : ℕ) (fs : List FieldTree)
    → fields_broken t names i fs ≡ [] → words_from names i fs ≡ pool.words_of (map field_shape fs)
words_same t names i [] e = refl
words_same t names i (f ∷ fs) e =
    let own : field_broken t names i f ≡ [] =
    none_left (field_broken t names i f) (fields_broken t names (i + 1) fs) e in
    let rest : fields_broken t names (i + 1) fs ≡ [] =
    none_right (field_broken t names i f) (fields_broken t names (i + 1) fs) e in
    let first : is_first (index_of f.name.text names) i ≡ true =
    holds (is_first (index_of f.name.text names) i) f.name.place Twice
    (none_left (unless (is_first (index_of f.name.text names) i) f.name.place Twice) _
    (none_right (type_broken t f.ty) _ own)) in
    let here : field_words f ≡ words_of_field (field_shape f) =
    field_same f.len (field_length t names i f own) in
    let later : words_from names (i + 1) fs ≡ pool.words_of (map field_shape fs) =
    words_same t names (i + 1) fs rest in
    let sum : pool.words_of (map field_shape (f ∷ fs)) ≡ words_of_field (field_shape f)
    + pool.words_of (map field_shape fs) =
    sum_by-cons words_of_field (field_shape f) (map field_shape fs) in
    rw (sum, first, here, later) refl

-- a struct of which objects are made
pub new_parts : (t : Tables) (name : Ident) → IsSane t → pointer_broken t name ≡ []
    → NewFits t (shapes_in t) name.text
new_parts t name h e =
    let g = pointer_good t name e in
    let i : ℕ = g.0 in
    let s : StructTree = g.1 in
    let kept_fields : (length s.fields ≤ ROOT_WORDS) × (fields_broken t (field_names s) 0 s.fields ≡
    []) =
    h.fields i s g.3 in
    let kind : kind_named t name.text ≡ number_at t i =
    ap (struct_kind_at t) g.2 ∙ kind_same t i h in
    let few : words_of_struct s ≤ OBJECT_WORDS = pointed_words t i s g.4 in
    let counted : words_from (field_names s) 0 s.fields ≡ pool.words_of (map field_shape s.fields) =
    words_same t (field_names s) 0 s.fields kept_fields.1 in
    let words : words_at t i ≡ pool.words_of (fields_of (shapes_in t) (kind_named t name.text)) =
    ap (λ (o : Option StructTree). option_map_or words_of_struct o 0) g.3
    ∙ uncut (words_from (field_names s) 0 s.fields) few ∙ counted
    ∙ ap (λ (fs : List FieldShape). pool.words_of fs) (sym (kind_fields t i s h g.3 g.4))
    ∙ ap (λ (o : Option ℕ). pool.words_of (fields_of (shapes_in t) (struct_kind_at t o)))
    (sym g.2) in
    record { place = i; named = g.2; kind = sym kind; words = words }
  where
    uncut : (n : ℕ) → min n (2 ^ 64 - 1) ≤ OBJECT_WORDS → min n (2 ^ 64 - 1) ≡ n
    uncut n le = omega (arith, le)

-- a new object
pub new_word : (t : Tables) (name : Ident) (w : PoolMap) → IsSane t → pointer_broken t name ≡ []
    → access.new_object t w name.text ≡ new_in (shapes_in t) w (kind_named t name.text)
new_word t name w h e =
    let fits : NewFits t (shapes_in t) name.text = new_parts t name h e in
    ap (λ (o : Option ℕ). option_map_or
    (λ i. new_at w (number_at t i) (words_at t i) (least_free w)) o (pos 0, w)) fits.named
    ∙ ap (λ (n : ℕ). new_at w n (words_at t fits.place) (least_free w)) fits.kind
    ∙ ap (λ (n : ℕ). new_at w (kind_named t name.text) n (least_free w)) fits.words

-- the slot of a freed object
pub freed_slot : (t : Tables) (ty : ValueType) (w : PoolMap) (b : ℤ) → IsSane t → IsGood t ty
    → is_pointer ty ≡ true → access.struct_slot w (option_map (number_at t) (pointed_struct ty)) b
    ≡ code.slot_of w (struct_kind_at t (pointed_struct ty)) b
freed_slot t (Pointer i) w b h g e =
    slot_same w (number_at t i) b ∙ ap (λ n. code.slot_of w n b) (sym (kind_same t i h))
freed_slot t (Int n) w b h g e = absurd (false≢true e)
freed_slot t Null w b h g e = absurd (false≢true e)
freed_slot t Any w b h g e = absurd g
