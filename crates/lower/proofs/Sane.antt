-- Facts on the tables of a program that breaks no rule: what names mean exists.
use Rattle.std.proofs.Common.{◌≡◌, ℕ, zero, suc, ◌+◌, ◌-◌, ◌^◌, ◌≤◌, ◌<◌, min, pos, negsuc, Bool}
use Rattle.std.proofs.Common.{true, false, List, [], ◌∷◌, ◌++◌, length, map, refl, ap, ◌∙◌, arith}
use Rattle.std.proofs.Common.{rules, subst}
use Rattle.std.specs.Prelude.{nat_le, nat_eq, ◌&&◌, ◌||◌, not, if◌then◌else◌, is_some, slice_get}
use Rattle.std.specs.Prelude.{Option, None, Some, option_map, option_and_then, bytes_eq}
use Rattle.std.specs.Option.{option_map_or}
use Rattle.std.proofs.lemmas.Option.{slice_get-map, slice_get_within, none-some, same_Some}
use Rattle.std.proofs.lemmas.Bool.{false≢true, and_parts}
use Rattle.nvm_base.proofs.Tests.{le_from, le_true, some_of}
use Rattle.pool_map.specs.declared.limits.TheConstants.{ARRAY_LENGTH, OBJECT_WORDS, ROOT_WORDS}
use Rattle.pool_map.specs.declared.limits.TheConstants.{POINTED_ROOT}
use Rattle.c_tree.specs.ItemTree.{FunctionTree, FieldTree, LengthTree}
use Rattle.c_tree.specs.Program.{Program, tree_of}
use Rattle.c_types.specs.declared.broken.Rule.TheVariants.{UnknownName, Twice, TooBig, NoRoot}
use Rattle.c_types.specs.declared.broken.Rule.TheVariants.{BadTx}
use Rattle.c_types.specs.declared.fault.LimitKind.TheVariants as limit
use Rattle.c_types.specs.Broken.{unless}
use Rattle.c_types.specs.Tables.{Tables, StructTree, RootTree, tables_of, index_of, function_names}
use Rattle.c_types.specs.Tables.{field_names, struct_named, field_named, is_first, is_length}
use Rattle.c_types.specs.Tables.{length_words, field_words, words_from, words_of_struct}
use Rattle.c_types.specs.Tables.{root_struct, number_at, numbered_up_to, pointed_limit}
use Rattle.c_types.specs.Statements.{type_broken}
use Rattle.c_types.specs.Fault.{breaks}
use Rattle.c_types.specs.Shapes.{struct_shape, numbered, shapes_in, numbered_in}
use Rattle.c_types.specs.Declarations.{length_broken, field_broken, fields_broken, struct_broken}
use Rattle.c_types.specs.Declarations.{whole_struct_broken, structs_broken, root_item_broken}
use Rattle.c_types.specs.Declarations.{roots_broken, function_broken, body_broken}
use Rattle.c_types.specs.Declarations.{whole_function_broken, functions_broken}
use Rattle.c_types.proofs.Unbroken.{none_left, none_right, holds}
use Rattle.ir.specs.WellFormed.{struct_of, IsKind}
use Rattle.lower.specs.Names.{found_number, struct_kind_at, field_number}
use Rattle.lower.proofs.Few.{not_at}

-- what holds of the tables of a program that breaks no rule
pub record IsSane (t : Tables) : Type 0 where
  pub structs : length t.structs ≤ 255
  pub functions : length t.functions ≤ 1024
  pub fields : (i : ℕ) (s : StructTree) → slice_get t.structs i ≡ Some s →
      (length s.fields ≤ ROOT_WORDS)
      × (fields_broken t (field_names s) 0 s.fields ≡ [])
  pub results : (i : ℕ) (f : FunctionTree) → slice_get t.functions i ≡ Some f
      → option_map_or (type_broken t) f.result_type [] ≡ []
  pub root : (i : ℕ) × (s : StructTree) × (root_struct t ≡ Some i)
      × (slice_get t.structs i ≡ Some s)

-- a name that is found is the name of an element
pub index_of_in : {A : Type 0} (name_of : A → List ℕ) (name : List ℕ) (xs : List A) (i : ℕ)
    → index_of name (map name_of xs) ≡ Some i → (x : A) × (slice_get xs i ≡ Some x)
index_of_in {A} name_of name [] i e = absurd (none-some i e)
index_of_in {A} name_of name (x ∷ xs) i e =
    by_test (bytes_eq name (name_of x)) (index_of name (map name_of xs))
    (λ j is. index_of_in name_of name xs j is) e
  where
    later_same : (j : ℕ) → Some (suc j) ≡ Some i → suc j ≡ i
    later_same j e = cc

    by_test : (b : Bool) (o : Option ℕ)
        → ((j : ℕ) → o ≡ Some j → (y : A) × (slice_get xs j ≡ Some y))
        → (if b then Some 0 else option_map suc o) ≡ Some i
        → (y : A) × (slice_get (x ∷ xs) i ≡ Some y)
    by_test true o rest e = let at : 0 ≡ i = same_Some 0 i e in (x, rw (← at) refl)
    by_test false None rest e = absurd (none-some i e)
    by_test false (Some j) rest e =
        let here : (y : A) × (slice_get xs j ≡ Some y) = rest j refl in
        let at : suc j ≡ i = later_same j e in
        (here.0, rw (← at) here.1)

-- if no rule is broken in a list, none is broken by an element
pub struct_at_place : (t : Tables) (i : ℕ) (ss : List StructTree) (j : ℕ) (s : StructTree)
    → structs_broken t i ss ≡ [] → slice_get ss j ≡ Some s → whole_struct_broken t (i + j) s ≡ []
struct_at_place t i [] j s e is = absurd (none-some s is)
struct_at_place t i (x ∷ ss) zero s e is =
    rw (← same_Some x s is, plus_zero i)
    (none_left (whole_struct_broken t i x) (structs_broken t (i + 1) ss) e)
  where
    plus_zero : (i : ℕ) → i + 0 ≡ i
    plus_zero i = omega arith
struct_at_place t i (x ∷ ss) (suc j) s e is =
    rw (next i j) (struct_at_place t (i + 1) ss j s
    (none_right (whole_struct_broken t i x) (structs_broken t (i + 1) ss) e) is)
  where
    next : (i j : ℕ) → i + suc j ≡ (i + 1) + j
    next i j = omega arith

pub field_at_place : (t : Tables) (names : List (List ℕ)) (i : ℕ) (fs : List FieldTree) (j : ℕ)
    (f : FieldTree) → fields_broken t names i fs ≡ [] → slice_get fs j ≡ Some f
    → field_broken t names (i + j) f ≡ []
field_at_place t names i [] j f e is = absurd (none-some f is)
field_at_place t names i (x ∷ fs) zero f e is =
    rw (← same_Some x f is, plus_zero i)
    (none_left (field_broken t names i x) (fields_broken t names (i + 1) fs) e)
  where
    plus_zero : (i : ℕ) → i + 0 ≡ i
    plus_zero i = omega arith
field_at_place t names i (x ∷ fs) (suc j) f e is =
    rw (next i j) (field_at_place t names (i + 1) fs j f
    (none_right (field_broken t names i x) (fields_broken t names (i + 1) fs) e) is)
  where
    next : (i j : ℕ) → i + suc j ≡ (i + 1) + j
    next i j = omega arith

pub function_at_place : (t : Tables) (i : ℕ) (fs : List FunctionTree) (j : ℕ) (f : FunctionTree)
    → functions_broken t i fs ≡ [] → slice_get fs j ≡ Some f
    → whole_function_broken t (i + j) f ≡ []
function_at_place t i [] j f e is = absurd (none-some f is)
function_at_place t i (x ∷ fs) zero f e is =
    rw (← same_Some x f is, plus_zero i)
    (none_left (whole_function_broken t i x) (functions_broken t (i + 1) fs) e)
  where
    plus_zero : (i : ℕ) → i + 0 ≡ i
    plus_zero i = omega arith
function_at_place t i (x ∷ fs) (suc j) f e is =
    rw (next i j) (function_at_place t (i + 1) fs j f
    (none_right (whole_function_broken t i x) (functions_broken t (i + 1) fs) e) is)
  where
    next : (i j : ℕ) → i + suc j ≡ (i + 1) + j
    next i j = omega arith

-- how many there are
structs_few : (t : Tables) (i : ℕ) (ss : List StructTree) → i ≤ 255 → structs_broken t i ss ≡ []
    → i + length ss ≤ 255
structs_few t i [] le e = omega (arith, le)
structs_few t i (s ∷ ss) le e =
    let whole : whole_struct_broken t i s ≡ [] =
    none_left (whole_struct_broken t i s) (structs_broken t (i + 1) ss) e in
    let own : struct_broken t i s ≡ [] = none_left (struct_broken t i s) _ whole in
    let room : i + 1 ≤ 255 = not_at 255 i le
    (holds (not (nat_eq i 255)) s.name.place (TooBig limit.Structs 256)
    (none_left (unless (not (nat_eq i 255)) s.name.place (TooBig limit.Structs 256)) _
    (none_right (unless (is_first (struct_named t s.name.text) i) s.name.place Twice) _ own))) in
    let less : (i + 1) + length ss ≤ 255 =
    structs_few t (i + 1) ss room (none_right (whole_struct_broken t i s)
    (structs_broken t (i + 1) ss) e) in
    omega (arith, less)

functions_few : (t : Tables) (i : ℕ) (fs : List FunctionTree) → i ≤ 1024
    → functions_broken t i fs ≡ [] → i + length fs ≤ 1024
functions_few t i [] le e = omega (arith, le)
functions_few t i (f ∷ fs) le e =
    let whole : whole_function_broken t i f ≡ [] =
    none_left (whole_function_broken t i f) (functions_broken t (i + 1) fs) e in
    let own : function_broken t i f ≡ [] =
    none_left (function_broken t i f) (body_broken t f) whole in
    let later : unless (is_first (index_of f.name.text (function_names t)) i) f.name.place Twice
    ++ (unless (not (nat_eq i 1024)) f.name.place (TooBig limit.Functions 1025)
    ++ unless (not f.tx || _) f.name.place BadTx) ≡ [] =
    none_right (option_map_or (type_broken t) f.result_type []) _ own in
    let room : i + 1 ≤ 1024 = not_at 1024 i le
    (holds (not (nat_eq i 1024)) f.name.place (TooBig limit.Functions 1025)
    (none_left (unless (not (nat_eq i 1024)) f.name.place (TooBig limit.Functions 1025)) _
    (none_right (unless (is_first (index_of f.name.text (function_names t)) i) f.name.place Twice)
    _ later))) in
    let less : (i + 1) + length fs ≤ 1024 =
    functions_few t (i + 1) fs room
    (none_right (whole_function_broken t i f) (functions_broken t (i + 1) fs) e) in
    omega (arith, less)

-- each field has at least one word
length_some : (n : _) → is_length n ≡ true → 1 ≤ length_words n
length_some (pos n) e =
    let one : 1 ≤ n = le_from 1 n (and_parts (nat_le 1 n) (nat_le n ARRAY_LENGTH) e).0 in
    rw e one
length_some (negsuc n) e = absurd (false≢true e)

words_some : (l : Option LengthTree) → option_map_or length_broken l [] ≡ []
    → 1 ≤ option_map_or (λ l. length_words l.value) l 1
words_some None e = omega arith
words_some (Some l) e = length_some l.value (holds (is_length l.value) l.place _ e)

fields_few : (t : Tables) (names : List (List ℕ)) (i : ℕ) (fs : List FieldTree)
    → fields_broken t names i fs ≡ [] → length fs ≤ words_from names i fs
fields_few t names i [] e = omega arith
fields_few t names i (f ∷ fs) e =
    let own : field_broken t names i f ≡ [] =
    none_left (field_broken t names i f) (fields_broken t names (i + 1) fs) e in
    let later : unless (is_first (index_of f.name.text names) i) f.name.place Twice
    ++ option_map_or length_broken f.len [] ≡ [] = none_right (type_broken t f.ty) _ own in
    let first : is_first (index_of f.name.text names) i ≡ true =
    holds (is_first (index_of f.name.text names) i) f.name.place Twice
    (none_left (unless (is_first (index_of f.name.text names) i) f.name.place Twice) _ later) in
    let one : 1 ≤ field_words f = words_some f.len
    (none_right (unless (is_first (index_of f.name.text names) i) f.name.place Twice)
    (option_map_or length_broken f.len []) later) in
    let less : length fs ≤ words_from names (i + 1) fs =
    fields_few t names (i + 1) fs (none_right (field_broken t names i f)
    (fields_broken t names (i + 1) fs) e) in
    rw first (omega (arith, one, less))

words_small : (root : Bool) (w : ℕ) → (root || nat_le w OBJECT_WORDS) ≡ true
    → (not root || nat_le w ROOT_WORDS) ≡ true → w ≤ ROOT_WORDS
words_small true w a b = le_from w ROOT_WORDS b
words_small false w a b = let small : w ≤ OBJECT_WORDS = le_from w OBJECT_WORDS a in
    omega (arith, small)

struct_fields : (t : Tables) (i : ℕ) (s : StructTree) → whole_struct_broken t i s ≡ []
    → (length s.fields ≤ ROOT_WORDS) × (fields_broken t (field_names s) 0 s.fields ≡ [])
struct_fields t i s e =
    let root : Bool = is_first (root_struct t) i in
    let own : struct_broken t i s ≡ [] =
    none_left (struct_broken t i s) (fields_broken t (field_names s) 0 s.fields) e in
    let fields : fields_broken t (field_names s) 0 s.fields ≡ [] =
    none_right (struct_broken t i s) (fields_broken t (field_names s) 0 s.fields) e in
    let third : unless (root || nat_le (words_of_struct s) OBJECT_WORDS) s.name.place
    (TooBig limit.Struct (words_of_struct s))
    ++ unless (not root || nat_le (words_of_struct s) ROOT_WORDS) s.name.place
    (TooBig limit.Root (words_of_struct s)) ≡ [] =
    none_right (unless (not (nat_eq i 255)) s.name.place (TooBig limit.Structs 256)) _
    (none_right (unless (is_first (struct_named t s.name.text) i) s.name.place Twice) _ own) in
    let a : (root || nat_le (words_of_struct s) OBJECT_WORDS) ≡ true =
    holds (root || nat_le (words_of_struct s) OBJECT_WORDS) s.name.place
    (TooBig limit.Struct (words_of_struct s))
    (none_left (unless (root || nat_le (words_of_struct s) OBJECT_WORDS) s.name.place
    (TooBig limit.Struct (words_of_struct s))) _ third) in
    let b : (not root || nat_le (words_of_struct s) ROOT_WORDS) ≡ true =
    holds (not root || nat_le (words_of_struct s) ROOT_WORDS) s.name.place
    (TooBig limit.Root (words_of_struct s))
    (none_right (unless (root || nat_le (words_of_struct s) OBJECT_WORDS) s.name.place
    (TooBig limit.Struct (words_of_struct s))) _ third) in
    let small : min (words_from (field_names s) 0 s.fields) (2 ^ 64 - 1) ≤ ROOT_WORDS =
    words_small root (words_of_struct s) a b in
    let less : length s.fields ≤ words_from (field_names s) 0 s.fields =
    fields_few t (field_names s) 0 s.fields fields in
    (omega (arith, small, less), fields)

-- the root's struct
root_there : (t : Tables) (rs : List RootTree) → is_some (slice_get rs 0) ≡ true
    → roots_broken t 0 rs ≡ []
    → (i : ℕ) × (s : StructTree) × (option_and_then (λ (r : RootTree). struct_named t r.name.text)
    (slice_get rs 0) ≡ Some i) × (slice_get t.structs i ≡ Some s)
root_there t [] e b = absurd (false≢true e)
root_there t (r ∷ rs) e b =
    let i : (i : ℕ) × (struct_named t r.name.text ≡ Some i) =
    some_of (struct_named t r.name.text) (holds (is_some (struct_named t r.name.text)) r.name.place
    UnknownName
    (none_left (unless (is_some (struct_named t r.name.text)) r.name.place UnknownName) _
    (none_left (root_item_broken t 0 r) (roots_broken t (0 + 1) rs) b))) in
    let s : (s : StructTree) × (slice_get t.structs i.0 ≡ Some s) =
    index_of_in (λ (s : StructTree). s.name.text) r.name.text t.structs i.0 i.1 in
    (i.0, s.0, i.1, s.1)

pub broken_functions : (tree : Program) → breaks tree ≡ []
    → functions_broken (tables_of (tree_of tree)) 0 (tables_of (tree_of tree)).functions ≡ []
broken_functions tree e =
    let t : Tables = tables_of (tree_of tree) in
    none_left (functions_broken t 0 t.functions) _
    (none_right (unless (is_some (slice_get t.roots 0)) (length tree.lines) NoRoot) _
    (none_right (roots_broken t 0 t.roots) _ (none_right (structs_broken t 0 t.structs) _ e)))

pub sane : (tree : Program) → breaks tree ≡ [] → IsSane (tables_of (tree_of tree))
sane tree e =
    let t : Tables = tables_of (tree_of tree) in
    let e1 : structs_broken t 0 t.structs ≡ [] = none_left (structs_broken t 0 t.structs) _ e in
    let l1 = none_right (structs_broken t 0 t.structs) _ e in
    let e2 : roots_broken t 0 t.roots ≡ [] = none_left (roots_broken t 0 t.roots) _ l1 in
    let l2 = none_right (roots_broken t 0 t.roots) _ l1 in
    let e3 : is_some (slice_get t.roots 0) ≡ true =
    holds (is_some (slice_get t.roots 0)) (length tree.lines) NoRoot
    (none_left (unless (is_some (slice_get t.roots 0)) (length tree.lines) NoRoot) _ l2) in
    let e4 : functions_broken t 0 t.functions ≡ [] = broken_functions tree e in
    record {
      structs = omega (arith, structs_few t 0 t.structs (omega arith) e1);
      functions = omega (arith, functions_few t 0 t.functions (omega arith) e4);
      fields = λ i s is. struct_fields t (0 + i) s (struct_at_place t 0 t.structs i s e1 is);
      results = λ i f is. none_left (option_map_or (type_broken t) f.result_type []) _
          (none_left (function_broken t (0 + i) f) (body_broken t f)
          (function_at_place t 0 t.functions i f e4 is));
      root = root_there t t.roots e3 e2;
    }

-- whether pointers may lead to the struct at place i
abbrev pub is_pointed : Tables → ℕ → StructTree → Bool
is_pointed t i s = nat_le (words_of_struct s) (pointed_limit (root_struct t) i)

pub limit_small : (root : Option ℕ) (i : ℕ) → pointed_limit root i ≤ OBJECT_WORDS
limit_small root i = by_test (is_first root i)
  where
    by_test : (b : Bool) → (if b then POINTED_ROOT else OBJECT_WORDS) ≤ OBJECT_WORDS
    by_test true = omega arith
    by_test false = omega arith

pub pointed_words : (t : Tables) (i : ℕ) (s : StructTree) → is_pointed t i s ≡ true
    → words_of_struct s ≤ OBJECT_WORDS
pointed_words t i s e = both (words_of_struct s) (pointed_limit (root_struct t) i)
    (le_from (words_of_struct s) (pointed_limit (root_struct t) i) e)
    (limit_small (root_struct t) i)
  where
    both : (n m : ℕ) → n ≤ m → m ≤ OBJECT_WORDS → n ≤ OBJECT_WORDS
    both n m le few = omega (arith, le, few)

-- structs that pointers may lead to have numbers from 1
none_later : (root : Option ℕ) (n i : ℕ) (ss : List StructTree) → n < i
    → numbered_up_to root n i ss ≡ 0
none_later root n i [] lt = refl
none_later root n i (s ∷ ss) lt =
    let past : nat_le i n ≡ false = le_false i n lt in
    let rest : numbered_up_to root n (i + 1) ss ≡ 0 =
    none_later root n (i + 1) ss (omega (arith, lt)) in
    rw (past, rest) refl
  where
    le_false : (i n : ℕ) → n < i → nat_le i n ≡ false
    le_false i n lt = search (rules)

numbered_at : (root : Option ℕ) (i j : ℕ) (ss : List StructTree) (s : StructTree)
    → slice_get ss j ≡ Some s → nat_le (words_of_struct s) (pointed_limit root (i + j)) ≡ true
    → (m : ℕ) × (numbered_up_to root (i + j) i ss ≡ suc m)
    × (slice_get (numbered root i ss) m ≡ Some s) × (m < length ss)
numbered_at root i j [] s is ok = absurd (none-some s is)
numbered_at root i zero (x ∷ ss) s is ok =
    let same : x ≡ s = same_Some x s is in
    let okx : nat_le (words_of_struct x) (pointed_limit root i) ≡ true =
    subst (λ k. nat_le (words_of_struct x) (pointed_limit root k) ≡ true) (plus_zero i)
    (rw same ok) in
    let here : nat_le i (i + 0) ≡ true = le_true i (i + 0) (omega arith) in
    let rest : numbered_up_to root (i + 0) (i + 1) ss ≡ 0 =
    none_later root (i + 0) (i + 1) ss (omega arith) in
    (0, rw (here, okx, rest) refl, rw okx (ap Some same), omega arith)
  where
    plus_zero : (i : ℕ) → i + 0 ≡ i
    plus_zero i = omega arith
numbered_at root i (suc j) (x ∷ ss) s is ok =
    let h : (m : ℕ) × (numbered_up_to root ((i + 1) + j) (i + 1) ss ≡ suc m)
    × (slice_get (numbered root (i + 1) ss) m ≡ Some s) × (m < length ss) =
    numbered_at root (i + 1) j ss s is
    (subst (λ k. nat_le (words_of_struct s) (pointed_limit root k) ≡ true) (next i j) ok) in
    let here : nat_le i (i + suc j) ≡ true = le_true i (i + suc j) (omega arith) in
    let up : numbered_up_to root (i + suc j) (i + 1) ss ≡ suc h.0 =
    ap (λ n. numbered_up_to root n (i + 1) ss) (next i j) ∙ h.1 in
    rw (here, up) (by_test (nat_le (words_of_struct x) (pointed_limit root i)) h.0 h.2 h.3)
  where
    next : (i j : ℕ) → i + suc j ≡ (i + 1) + j
    next i j = omega arith

    one_more : (m : ℕ) → 1 + suc m ≡ suc (suc m)
    one_more m = omega arith

    none_more : (m : ℕ) → 0 + suc m ≡ suc m
    none_more m = omega arith

    by_test : (b : Bool) (m : ℕ) → slice_get (numbered root (i + 1) ss) m ≡ Some s
        → m < length ss → (k : ℕ) × ((if true && b then 1 else 0) + suc m ≡ suc k)
        × (slice_get (if b then x ∷ numbered root (i + 1) ss else numbered root (i + 1) ss) k
        ≡ Some s) × (k < suc (length ss))
    by_test true m is lt = (suc m, one_more m, is, omega (arith, lt))
    by_test false m is lt = (m, none_more m, is, omega (arith, lt))

-- the kind of the objects of a struct, and the struct of that kind
pub record IsKindOf (t : Tables) (i : ℕ) (s : StructTree) : Type 0 where
  pub kind : IsKind (shapes_in t) (struct_kind_at t (Some i))
  pub shape : struct_of (shapes_in t) (struct_kind_at t (Some i)) ≡ Some (struct_shape s)

pub kind_of_struct : (t : Tables) (i : ℕ) (s : StructTree) → length t.structs ≤ 255
    → slice_get t.structs i ≡ Some s → is_pointed t i s ≡ true → IsKindOf t i s
kind_of_struct t i s few is ok =
    let root : Option ℕ = root_struct t in
    let h : (m : ℕ) × (numbered_up_to root (0 + i) 0 t.structs ≡ suc m)
    × (slice_get (numbered_in t) m ≡ Some s) × (m < length t.structs) =
    numbered_at root 0 i t.structs s is (subst (λ k. is_pointed t k s ≡ true) (zero_plus i) ok) in
    let counted : numbered_up_to root i 0 t.structs ≡ suc h.0 =
    ap (λ n. numbered_up_to root n 0 t.structs) (zero_plus i) ∙ h.1 in
    let number : struct_kind_at t (Some i) ≡ suc h.0 =
    small_number (number_at t i) h.0 counted (omega (arith, few, h.3)) in
    let get : slice_get (map struct_shape (numbered_in t)) h.0 ≡ Some (struct_shape s) =
    slice_get-map struct_shape (numbered_in t) h.0 ∙ ap (option_map struct_shape) h.2 in
    let within : h.0 < length (map struct_shape (numbered_in t)) =
    slice_get_within (map struct_shape (numbered_in t)) h.0 (struct_shape s) get in
    record {
      kind = rw number (omega (arith, within), omega (arith, within));
      shape = rw number get;
    }
  where
    zero_plus : (i : ℕ) → i ≡ 0 + i
    zero_plus i = omega arith

    small_number : (n m : ℕ) → n ≡ suc m → m < 255 → found_number (Some n) ≡ suc m
    small_number n m e lt = omega (arith, e, lt)

-- a field of a struct that has the name
pub record IsFieldOf (t : Tables) (i : ℕ) (s : StructTree) (name : List ℕ) (f : FieldTree) :
    Type 0 where
  pub place : ℕ
  pub found : slice_get s.fields place ≡ Some f
  pub number : field_number t name (Some i) ≡ place
  pub holds : field_broken t (field_names s) (0 + place) f ≡ []

pub field_of_struct : (t : Tables) (i : ℕ) (s : StructTree) (name : List ℕ) (f : FieldTree)
    → IsSane t → slice_get t.structs i ≡ Some s → field_named s name ≡ Some f
    → IsFieldOf t i s name f
field_of_struct t i s name f h is named = by_index (index_of name (field_names s)) refl named
  where
    small_number : (n : ℕ) → n < ROOT_WORDS → found_number (Some n) ≡ n
    small_number n lt = omega (arith, lt)

    by_index : (o : Option ℕ) → index_of name (field_names s) ≡ o
        → option_and_then (slice_get s.fields) o ≡ Some f → IsFieldOf t i s name f
    by_index None at e = absurd (none-some f e)
    by_index (Some j) at e =
        let fields : (length s.fields ≤ ROOT_WORDS) × (fields_broken t (field_names s) 0 s.fields ≡
        []) =
        h.fields i s is in
        let within : j < length s.fields = slice_get_within s.fields j f e in
        record {
          place = j;
          found = e;
          number = rw (is, at) (small_number j (omega (arith, within, fields.0)));
          holds = field_at_place t (field_names s) 0 s.fields j f fields.1 e;
        }
