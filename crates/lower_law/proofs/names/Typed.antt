-- Facts on a tree that breaks no rule: the functions that are called, the checks, and the words of
-- fields.
use Rattle.std.proofs.Common.{◌≡◌, ℕ, zero, suc, ◌+◌, ◌*◌, ◌<◌, ◌≤◌, ℤ, pos, negsuc, Bool, true}
use Rattle.std.proofs.Common.{false, List, [], ◌∷◌, length, map, refl, ap, ◌∙◌, arith, rules}
use Rattle.std.specs.Prelude.{Option, None, Some, option_map, option_and_then, slice_get, nat_lt}
use Rattle.std.specs.Prelude.{nat_le, if◌then◌else◌, unwrap_or, ◌&&◌}
use Rattle.std.specs.Option.{option_map_or}
use Rattle.std.specs.Int.{w64, cast_unsigned}
use Rattle.std.proofs.lemmas.Option.{slice_get_within, none-some}
use Rattle.std.proofs.lemmas.Bool.{false≢true, and_parts}
use Rattle.nvm_base.proofs.Tests.{le_from}
use Rattle.c_tree.specs.ExprTree.{Ident}
use Rattle.c_tree.specs.ItemTree.{FieldTree, LengthTree}
use Rattle.c_types.specs.declared.broken.Rule.TheVariants.{Twice}
use Rattle.c_types.specs.Broken.{unless}
use Rattle.c_types.specs.Tables.{Tables, StructTree, function_named, function_names, index_of}
use Rattle.c_types.specs.Tables.{field_names, field_named, is_length, is_first, length_words}
use Rattle.c_types.specs.Tables.{field_words, field_words_before}
use Rattle.c_types.specs.Statements.{type_broken}
use Rattle.c_types.specs.Shapes.{field_shape}
use Rattle.c_types.specs.Declarations.{length_broken, field_broken, fields_broken}
use Rattle.c_types.specs.Expressions.{call_broken}
use Rattle.c_types.proofs.Unbroken.{none_left, none_right, holds}
use Rattle.pool_map.specs.PoolMap.{PoolMap, object_at}
use Rattle.pool_map.specs.PoolFits.{words_of_field}
use Rattle.pool_map.specs.declared.object.Object.{Object}
use Rattle.pool_map.specs.declared.limits.TheConstants.{ARRAY_LENGTH}
use Rattle.c_meaning.specs.Access as access
use Rattle.lower.specs.Names.{function_number, found_number}
use Rattle.lower.proofs.Sane.{IsSane}
use Rattle.lower.proofs.GoodTypes.{callee, function_there}
use Rattle.code_meaning.specs.Code as code
use Rattle.lower_law.proofs.names.Fits.{CallFits}

-- a function that is called exists at its number
pub call_fits : (t : Tables) (wanted : Bool) (name : Ident) (n : ℕ) → IsSane t
    → call_broken wanted (function_named t name.text) n name.place ≡ [] → CallFits t name
call_fits t wanted name n h e =
    let c = callee wanted (function_named t name.text) n name.place e in
    let there : (i : ℕ) × (index_of name.text (function_names t) ≡ Some i)
    × (slice_get t.functions i ≡ Some c.0) = function_there t name.text c.0 c.1 in
    let number : function_number t name.text ≡ there.0 =
    ap found_number there.1 ∙ small_number there.0
    (slice_get_within t.functions there.0 c.0 there.2) h.functions in
    record { fn = c.0; named = c.1; stands = ap (slice_get t.functions) number ∙ there.2 }
  where
    small_number : (n : ℕ) → n < length t.functions → length t.functions ≤ 1024
        → found_number (Some n) ≡ n
    small_number n lt le = omega (arith, lt, le)

-- the checks are the same
pub kind_same : (o : Option Object) (kind : ℕ) → access.is_struct_kind o (Some kind)
    ≡ code.is_kind o kind
kind_same None kind = refl
kind_same (Some object) kind = refl

pub slot_same : (w : PoolMap) (kind : ℕ) (b : ℤ) → access.struct_slot w (Some kind) b
    ≡ code.slot_of w kind b
slot_same w kind (pos zero) = refl
slot_same w kind (pos (suc n)) = rw (kind_same (object_at w (suc n)) kind) refl
slot_same w kind (negsuc n) = refl

-- the words of a field
length_same : (l : ℤ) → is_length l ≡ true → length_words l ≡ cast_unsigned w64 l
length_same (pos n) e = rw e refl
length_same (negsuc n) e = absurd (false≢true e)

pub field_same : (l : Option LengthTree) → option_map_or length_broken l [] ≡ []
    → option_map_or (λ (x : LengthTree). length_words x.value) l 1
    ≡ unwrap_or (option_map (λ (x : LengthTree). cast_unsigned w64 x.value) l) 1
field_same None e = refl
field_same (Some l) e = length_same l.value (holds (is_length l.value) l.place _ e)

pub field_length : (t : Tables) (names : List (List ℕ)) (i : ℕ) (f : FieldTree)
    → field_broken t names i f ≡ [] → option_map_or length_broken f.len [] ≡ []
field_length t names i f e = none_right
    (unless (is_first (index_of f.name.text names) i) f.name.place Twice)
    (option_map_or length_broken f.len []) (none_right (type_broken t f.ty) _ e)

-- the words before a field are counted in the same way
none_before : (n i : ℕ) (fs : List FieldTree) → n ≤ i → field_words_before n i fs ≡ 0
none_before n i [] le = refl
none_before n i (f ∷ fs) le =
    let past : nat_lt i n ≡ false = not_less i n le in
    let rest : field_words_before n (i + 1) fs ≡ 0 = none_before n (i + 1) fs (omega (arith, le)) in
    rw (past, rest) refl
  where
    not_less : (i n : ℕ) → n ≤ i → nat_lt i n ≡ false
    not_less i n le = search (rules)

pub before_same : (t : Tables) (names : List (List ℕ)) (i n : ℕ) (fs : List FieldTree)
    → fields_broken t names i fs ≡ [] → field_words_before (i + n) i fs ≡ code.words_before n
    (map field_shape fs)
before_same t names i n [] e = refl
before_same t names i zero (f ∷ fs) e = none_before (i + 0) i (f ∷ fs) (omega arith)
before_same t names i (suc n) (f ∷ fs) e =
    let own : field_broken t names i f ≡ [] =
    none_left (field_broken t names i f) (fields_broken t names (i + 1) fs) e in
    let rest : fields_broken t names (i + 1) fs ≡ [] =
    none_right (field_broken t names i f) (fields_broken t names (i + 1) fs) e in
    let here : nat_lt i (i + suc n) ≡ true = less i (i + suc n) (omega arith) in
    let first : field_words f ≡ words_of_field (field_shape f) =
    field_same f.len (field_length t names i f own) in
    let later : field_words_before (i + suc n) (i + 1) fs ≡ code.words_before n
    (map field_shape fs) = ap (λ j. field_words_before j (i + 1) fs) (next i n)
    ∙ before_same t names (i + 1) n fs rest in
    rw (here, first, later) refl
  where
    less : (a b : ℕ) → a < b → nat_lt a b ≡ true
    less a b lt = search (rules)

    next : (i n : ℕ) → i + suc n ≡ (i + 1) + n
    next i n = omega arith

-- a count of words stays small
length_small : (l : ℤ) → is_length l ≡ true → length_words l ≤ ARRAY_LENGTH
length_small (pos n) e =
    let both : (nat_le 1 n && nat_le n ARRAY_LENGTH) ≡ true = e in
    let le : n ≤ ARRAY_LENGTH = le_from n ARRAY_LENGTH (and_parts (nat_le 1 n)
    (nat_le n ARRAY_LENGTH) both).1 in
    rw e le
length_small (negsuc n) e = omega arith

field_small : (l : Option LengthTree) → option_map_or length_broken l [] ≡ []
    → option_map_or (λ (x : LengthTree). length_words x.value) l 1 ≤ ARRAY_LENGTH
field_small None e = omega arith
field_small (Some l) e = length_small l.value (holds (is_length l.value) l.place _ e)

pub before_small : (t : Tables) (names : List (List ℕ)) (n i : ℕ) (fs : List FieldTree)
    → fields_broken t names i fs ≡ [] → field_words_before n i fs ≤ ARRAY_LENGTH * length fs
before_small t names n i [] e = omega arith
before_small t names n i (f ∷ fs) e =
    let own : field_broken t names i f ≡ [] =
    none_left (field_broken t names i f) (fields_broken t names (i + 1) fs) e in
    let rest : fields_broken t names (i + 1) fs ≡ [] =
    none_right (field_broken t names i f) (fields_broken t names (i + 1) fs) e in
    by_test (nat_lt i n) (field_words f) (field_words_before n (i + 1) fs)
    (field_small f.len (field_length t names i f own)) (before_small t names n (i + 1) fs rest)
  where
    by_test : (b : Bool) (a c : ℕ) → a ≤ ARRAY_LENGTH → c ≤ ARRAY_LENGTH * length fs
        → (if b then a else 0) + c ≤ ARRAY_LENGTH * suc (length fs)
    by_test true a c le less = omega (arith, le, less)
    by_test false a c le less = omega (arith, less)

-- a field that the tree finds by its name, and its place
pub record FieldThere (s : StructTree) (name : List ℕ) (f : FieldTree) : Type 0 where
  pub place : ℕ
  pub found : index_of name (field_names s) ≡ Some place
  pub stands : slice_get s.fields place ≡ Some f

pub field_there : (s : StructTree) (name : List ℕ) (f : FieldTree) → field_named s name ≡ Some f
    → FieldThere s name f
field_there s name f named = by_index (index_of name (field_names s)) refl named
  where
    by_index : (o : Option ℕ) → index_of name (field_names s) ≡ o
        → option_and_then (slice_get s.fields) o ≡ Some f → FieldThere s name f
    by_index None at e = absurd (none-some f e)
    by_index (Some j) at e = record { place = j; found = at; stands = e }
