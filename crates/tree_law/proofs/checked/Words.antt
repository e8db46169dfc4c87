-- The words of a program's shapes are those that the typing rules count, if the program breaks
-- none.
use Rattle.std.proofs.Common.{◌≡◌, ℕ, zero, suc, ◌+◌, ◌-◌, ◌^◌, ◌≤◌, ℤ, pos, negsuc, min, Bool}
use Rattle.std.proofs.Common.{true, false, List, [], ◌∷◌, ◌++◌, length, map, refl, ap, ◌∙◌, subst}
use Rattle.std.proofs.Common.{arith, rules}
use Rattle.std.specs.Prelude.{nat_le, nat_eq, ◌||◌, not, if◌then◌else◌, slice_get, Option, None}
use Rattle.std.specs.Prelude.{Some, option_map, unwrap_or}
use Rattle.std.specs.Option.{option_map_or}
use Rattle.std.specs.Int.{w64, cast_unsigned}
use Rattle.std.proofs.lemmas.List.Sums.{sum_by-cons}
use Rattle.std.proofs.lemmas.Bool.{false≢true, and_parts}
use Rattle.std.proofs.lemmas.Option.{none-some, same_Some}
use Rattle.nvm_base.proofs.Tests.{le_from, le_true}
use Rattle.c_lexer.specs.declared.token.Placed.{Placed}
use Rattle.c_tree.specs.ItemTree.{ItemTree, FieldTree, LengthTree}
use Rattle.c_tree.specs.Kinds.{ident_at}
use Rattle.c_tree.specs.declared.item.Marked.{Marked}
use Rattle.c_tree.specs.ItemSpelling.{SpellsFunction, SpellsItem, SpellsItems, items_end}
use Rattle.c_tree.specs.ItemSpelling.{items_more, struct_def, root_decl, transaction}
use Rattle.c_tree.specs.ItemSpelling.{plain_function, function}
use Rattle.c_types.specs.declared.broken.Rule.TheVariants.{Twice, TooBig}
use Rattle.c_types.specs.declared.fault.LimitKind.TheVariants as limit
use Rattle.c_types.specs.Broken.{unless}
use Rattle.c_types.specs.Tables.{Tables, StructTree, structs_of, index_of, field_names}
use Rattle.c_types.specs.Tables.{struct_named, root_struct, is_first, is_length, length_words}
use Rattle.c_types.specs.Tables.{field_words, words_from, pointed_limit}
use Rattle.c_types.specs.Tables as counted
use Rattle.c_types.specs.Statements.{type_broken}
use Rattle.c_types.specs.Shapes.{field_shape, numbered}
use Rattle.c_types.specs.Declarations.{length_broken, field_broken, fields_broken, struct_broken}
use Rattle.c_types.specs.Declarations.{whole_struct_broken}
use Rattle.c_types.proofs.Unbroken.{none_left, none_right, holds}
use Rattle.pool_map.specs.PoolFits.{words_of_field, words_of}
use Rattle.pool_map.specs.declared.limits.TheConstants.{ARRAY_LENGTH, OBJECT_WORDS, ROOT_WORDS}
use Rattle.lower.proofs.Sane.{limit_small}

-- a field has as many words as its shape, and at least one
abbrev pub IsCountedField : FieldTree → Type 0
IsCountedField f = (words_of_field (field_shape f) ≡ field_words f) × (1 ≤ field_words f)

array_words : (n : ℤ) → is_length n ≡ true → (cast_unsigned w64 n ≡ length_words n)
    × (1 ≤ length_words n)
array_words (pos n) e =
    let one : 1 ≤ n = le_from 1 n (and_parts (nat_le 1 n) (nat_le n ARRAY_LENGTH) e).0 in
    let most : n ≤ ARRAY_LENGTH = le_from n ARRAY_LENGTH
    (and_parts (nat_le 1 n) (nat_le n ARRAY_LENGTH) e).1 in
    rw e (small n most, one)
  where
    small : (n : ℕ) → n ≤ ARRAY_LENGTH → cast_unsigned w64 (pos n) ≡ n
    small n le = refl
array_words (negsuc n) e = absurd (false≢true e)

field_counted : (f : FieldTree) → option_map_or length_broken f.len [] ≡ [] → IsCountedField f
field_counted f e = by_length f.len e
  where
    by_length : (l : Option LengthTree) → option_map_or length_broken l [] ≡ []
        → (unwrap_or (option_map (λ (l : LengthTree). cast_unsigned w64 l.value) l) 1
        ≡ option_map_or (λ (l : LengthTree). length_words l.value) l 1)
        × (1 ≤ option_map_or (λ (l : LengthTree). length_words l.value) l 1)
    by_length None e = (refl, omega arith)
    by_length (Some l) e = array_words l.value
        (holds (is_length l.value) l.place (TooBig limit.Array (cast_unsigned w64 l.value)) e)

-- the fields from place i on
pub fields_counted : (t : Tables) (names : List (List ℕ)) (i : ℕ) (fs : List FieldTree)
    → fields_broken t names i fs ≡ [] → (words_of (map field_shape fs) ≡ words_from names i fs)
    × (length fs ≤ words_from names i fs)
fields_counted t names i [] e = (refl, omega arith)
fields_counted t names i (f ∷ fs) e =
    let own : field_broken t names i f ≡ [] =
    none_left (field_broken t names i f) (fields_broken t names (i + 1) fs) e in
    let later : unless (is_first (index_of f.name.text names) i) f.name.place Twice
    ++ option_map_or length_broken f.len [] ≡ [] = none_right (type_broken t f.ty) _ own in
    let first : is_first (index_of f.name.text names) i ≡ true =
    holds (is_first (index_of f.name.text names) i) f.name.place Twice
    (none_left (unless (is_first (index_of f.name.text names) i) f.name.place Twice) _ later) in
    let here : IsCountedField f = field_counted f
    (none_right (unless (is_first (index_of f.name.text names) i) f.name.place Twice)
    (option_map_or length_broken f.len []) later) in
    let rest = fields_counted t names (i + 1) fs
    (none_right (field_broken t names i f) (fields_broken t names (i + 1) fs) e) in
    let sum : words_of (map field_shape (f ∷ fs)) ≡ words_of_field (field_shape f)
    + words_of (map field_shape fs) =
    sum_by-cons words_of_field (field_shape f) (map field_shape fs) in
    rw first (
      added (words_of (map field_shape (f ∷ fs))) (words_of_field (field_shape f))
          (words_of (map field_shape fs)) (field_words f) (words_from names (i + 1) fs) sum here.0
          rest.0,
      omega (arith, here.1, rest.1),
    )
  where
    added : (w a b c d : ℕ) → w ≡ a + b → a ≡ c → b ≡ d → w ≡ c + d
    added w a b c d e one two = omega (arith, e, one, two)

-- a struct whose counted words are few has no more words
counted_words : (w n m : ℕ) → nat_le (min w (2 ^ 64 - 1)) n ≡ true → n ≤ ROOT_WORDS → w ≤ n
counted_words w n m e le = let small : min w (2 ^ 64 - 1) ≤ n = le_from (min w (2 ^ 64 - 1)) n e in
    omega (arith, small, le)

pub struct_words : (t : Tables) (s : StructTree) (n : ℕ)
    → fields_broken t (field_names s) 0 s.fields ≡ [] → nat_le (counted.words_of_struct s) n ≡ true
    → n ≤ ROOT_WORDS → words_of (map field_shape s.fields) ≤ n
struct_words t s n e small le =
    let same = fields_counted t (field_names s) 0 s.fields e in
    let few : words_from (field_names s) 0 s.fields ≤ n =
    counted_words (words_from (field_names s) 0 s.fields) n 0 small le in
    omega (arith, same.0, few)

-- a numbered struct is one of the structs, and its counted words are few
few_words : (n : ℕ) (root : Option ℕ) (i : ℕ) → nat_le n (pointed_limit root i) ≡ true
    → nat_le n OBJECT_WORDS ≡ true
few_words n root i e = by_limit (pointed_limit root i) (limit_small root i)
    (le_from n (pointed_limit root i) e)
  where
    by_limit : (m : ℕ) → m ≤ OBJECT_WORDS → n ≤ m → nat_le n OBJECT_WORDS ≡ true
    by_limit m few le = le_true n OBJECT_WORDS (omega (arith, few, le))

pub numbered_one : (root : Option ℕ) (i : ℕ) (ss : List StructTree) (k : ℕ) (s : StructTree)
    → slice_get (numbered root i ss) k ≡ Some s → (j : ℕ) × (slice_get ss j ≡ Some s)
    × (nat_le (counted.words_of_struct s) OBJECT_WORDS ≡ true)
numbered_one root i [] k s is = absurd (none-some s is)
numbered_one root i (x ∷ ss) k s is =
    by_test (nat_le (counted.words_of_struct x) (pointed_limit root i)) refl
    (λ j at. later (numbered_one root (i + 1) ss j s at)) k is
  where
    later : (j : ℕ) × (slice_get ss j ≡ Some s)
        × (nat_le (counted.words_of_struct s) OBJECT_WORDS ≡ true)
        → (j : ℕ) × (slice_get (x ∷ ss) j ≡ Some s)
        × (nat_le (counted.words_of_struct s) OBJECT_WORDS ≡ true)
    later h = (suc h.0, h.1, h.2)

    by_test : (b : Bool) → nat_le (counted.words_of_struct x) (pointed_limit root i) ≡ b
        → ((j : ℕ) → slice_get (numbered root (i + 1) ss) j ≡ Some s
        → (j : ℕ) × (slice_get (x ∷ ss) j ≡ Some s)
        × (nat_le (counted.words_of_struct s) OBJECT_WORDS ≡ true))
        → (k : ℕ) → slice_get (if b then x ∷ numbered root (i + 1) ss
        else numbered root (i + 1) ss) k ≡ Some s → (j : ℕ) × (slice_get (x ∷ ss) j ≡ Some s)
        × (nat_le (counted.words_of_struct s) OBJECT_WORDS ≡ true)
    by_test true at rest zero is =
        let same : x ≡ s = same_Some x s is in (
          0,
          is,
          subst (λ (y : StructTree). nat_le (counted.words_of_struct y) OBJECT_WORDS ≡ true)
              same (few_words (counted.words_of_struct x) root i at),
        )
    by_test true at rest (suc k) is = rest k is
    by_test false at rest k is = rest k is

pub numbered_few : (root : Option ℕ) (i : ℕ) (ss : List StructTree)
    → length (numbered root i ss) ≤ length ss
numbered_few root i [] = omega arith
numbered_few root i (x ∷ ss) =
    by_test (nat_le (counted.words_of_struct x) (pointed_limit root i))
    (numbered_few root (i + 1) ss)
  where
    by_test : (b : Bool) → length (numbered root (i + 1) ss) ≤ length ss
        → length (if b then x ∷ numbered root (i + 1) ss else numbered root (i + 1) ss)
        ≤ suc (length ss)
    by_test true rest = omega (arith, rest)
    by_test false rest = omega (arith, rest)

-- the root's struct is counted as having few enough words
pub root_counted : (t : Tables) (i : ℕ) (s : StructTree) → root_struct t ≡ Some i
    → whole_struct_broken t i s ≡ [] → nat_le (counted.words_of_struct s) ROOT_WORDS ≡ true
root_counted t i s is e =
    let root : Bool = is_first (root_struct t) i in
    let own : struct_broken t i s ≡ [] =
    none_left (struct_broken t i s) (fields_broken t (field_names s) 0 s.fields) e in
    let third : unless (root || nat_le (counted.words_of_struct s) OBJECT_WORDS) s.name.place
    (TooBig limit.Struct (counted.words_of_struct s))
    ++ unless (not root || nat_le (counted.words_of_struct s) ROOT_WORDS) s.name.place
    (TooBig limit.Root (counted.words_of_struct s)) ≡ [] =
    none_right (unless (not (nat_eq i 255)) s.name.place (TooBig limit.Structs 256)) _
    (none_right (unless (is_first (struct_named t s.name.text) i) s.name.place Twice) _ own) in
    let last : (not root || nat_le (counted.words_of_struct s) ROOT_WORDS) ≡ true =
    holds (not root || nat_le (counted.words_of_struct s) ROOT_WORDS) s.name.place
    (TooBig limit.Root (counted.words_of_struct s))
    (none_right (unless (root || nat_le (counted.words_of_struct s) OBJECT_WORDS) s.name.place
    (TooBig limit.Struct (counted.words_of_struct s))) _ third) in
    where_root root (nat_le (counted.words_of_struct s) ROOT_WORDS) (ap (λ o. is_first o i) is
    ∙ same i) last
  where
    same : (i : ℕ) → nat_eq i i ≡ true
    same i = search (rules)

    where_root : (root b : Bool) → root ≡ true → (not root || b) ≡ true → b ≡ true
    where_root true b r e = e
    where_root false b r e = absurd (false≢true r)

-- a struct that tokens spell has a field
abbrev pub HaveFields : List StructTree → Type 0
HaveFields ss = (j : ℕ) (s : StructTree) → slice_get ss j ≡ Some s → 1 ≤ length s.fields

more_have : (x : StructTree) (ss : List StructTree) → 1 ≤ length x.fields → HaveFields ss
    → HaveFields (x ∷ ss)
more_have x ss one rest zero s is = let same : x ≡ s = same_Some x s is in
    subst (λ (y : StructTree). 1 ≤ length y.fields) same one
more_have x ss one rest (suc j) s is = rest j s is

function_none : {ts : List Placed} {tx : Bool} {b : Marked} {i j : ℕ} {x : ItemTree}
    (xs : List ItemTree) → SpellsFunction ts tx b i j x → HaveFields (structs_of xs)
    → HaveFields (structs_of (x ∷ xs))
function_none xs (function result name opens signature brace body closes) rest = rest

item_has : {ts : List Placed} {i j : ℕ} {x : ItemTree} (xs : List ItemTree) → SpellsItem ts i j x
    → HaveFields (structs_of xs) → HaveFields (structs_of (x ∷ xs))
item_has {ts} {i} xs (struct_def {f = f} {fs = fs} is name opens field fields closes ends) rest =
    more_have (record { name = ident_at ts (i + 1); fields = f ∷ fs }) (structs_of xs)
    (omega arith) rest
item_has xs (root_decl is word name root ends) rest = rest
item_has xs (transaction mark h) rest = function_none xs h rest
item_has xs (plain_function h) rest = function_none xs h rest

pub spelled_have : {ts : List Placed} {i j : ℕ} {xs : List ItemTree} → SpellsItems ts i j xs
    → HaveFields (structs_of xs)
spelled_have items_end = none_have
  where
    none_have : HaveFields []
    none_have j s is = absurd (none-some s is)
spelled_have (items_more {xs = xs} h others) = item_has xs h (spelled_have others)
