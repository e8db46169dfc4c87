-- The structs, root declarations and functions of a program, each in the order of the text, and the
-- meaning of a name: its first declaration.
use Rattle.std.specs.Prelude.{ℕ, ℤ, pos, negsuc, suc, ◌+◌, ◌-◌, ◌^◌, min, List, [], ◌∷◌, map, Bool}
use Rattle.std.specs.Prelude.{false, ◌&&◌, nat_le, nat_lt, nat_eq, if◌then◌else◌, Option, None}
use Rattle.std.specs.Prelude.{Some, option_map, option_and_then, bytes_eq, slice_get}
use Rattle.std.specs.Option.{option_map_or}
use Rattle.c_tree.specs.ExprTree.{Ident}
use Rattle.c_tree.specs.StmtTree.{TypeTree}
use Rattle.c_tree.specs.StmtTree as stmt
use Rattle.c_tree.specs.ItemTree.{ItemTree, Struct, Root, Function, FunctionTree, FieldTree}
use Rattle.c_types.specs.declared.value_type.ValueType.{ValueType}
use Rattle.c_types.specs.declared.value_type.ValueType.TheVariants.{Int, Pointer, Null, Any}
use Rattle.pool_map.specs.declared.limits.TheConstants.{ARRAY_LENGTH, OBJECT_WORDS, POINTED_ROOT}

pub record StructTree : Type 0 where
  pub name : Ident
  pub fields : List FieldTree

pub record RootTree : Type 0 where
  pub name : Ident
  pub place : ℕ

pub record Tables : Type 0 where
  pub structs : List StructTree
  pub roots : List RootTree
  pub functions : List FunctionTree

abbrev pub structs_of : List ItemTree → List StructTree
structs_of [] = []
structs_of (Struct name fields ∷ items) = record { name = name; fields = fields } ∷ structs_of items
structs_of (Root name place ∷ items) = structs_of items
structs_of (Function f ∷ items) = structs_of items

abbrev pub roots_of : List ItemTree → List RootTree
roots_of [] = []
roots_of (Struct name fields ∷ items) = roots_of items
roots_of (Root name place ∷ items) = record { name = name; place = place } ∷ roots_of items
roots_of (Function f ∷ items) = roots_of items

abbrev pub function_trees : List ItemTree → List FunctionTree
function_trees [] = []
function_trees (Struct name fields ∷ items) = function_trees items
function_trees (Root name place ∷ items) = function_trees items
function_trees (Function f ∷ items) = f ∷ function_trees items

abbrev pub tables_of : List ItemTree → Tables
tables_of items = record {
  structs = structs_of items;
  roots = roots_of items;
  functions = function_trees items;
}

-- the place of the first of these names that equals this one
abbrev pub index_of : List ℕ → List (List ℕ) → Option ℕ
index_of name [] = None
index_of name (n ∷ ns) = if bytes_eq name n then Some 0 else option_map suc (index_of name ns)

abbrev pub struct_names : Tables → List (List ℕ)
struct_names t = map (λ s. s.name.text) t.structs

abbrev pub function_names : Tables → List (List ℕ)
function_names t = map (λ f. f.name.text) t.functions

abbrev pub field_names : StructTree → List (List ℕ)
field_names s = map (λ f. f.name.text) s.fields

-- the place of the struct that a name means
abbrev pub struct_named : Tables → List ℕ → Option ℕ
struct_named t name = index_of name (struct_names t)

abbrev pub function_named : Tables → List ℕ → Option FunctionTree
function_named t name = option_and_then (slice_get t.functions) (index_of name (function_names t))

abbrev pub field_named : StructTree → List ℕ → Option FieldTree
field_named s name = option_and_then (slice_get s.fields) (index_of name (field_names s))

-- the declaration at place i is the first of its name
abbrev pub is_first : Option ℕ → ℕ → Bool
is_first found i = option_map_or (nat_eq i) found false

-- the place of the root's struct
abbrev pub root_struct : Tables → Option ℕ
root_struct t = option_and_then (λ r. struct_named t r.name.text) (slice_get t.roots 0)

-- an array has an element at least
abbrev pub is_length : ℤ → Bool
is_length (pos n) = nat_le 1 n && nat_le n ARRAY_LENGTH
is_length (negsuc n) = false

-- the words of a field; an array of a refused length counts as one
abbrev pub length_words : ℤ → ℕ
length_words (pos n) = if is_length (pos n) then n else 1
length_words (negsuc n) = 1

abbrev pub field_words : FieldTree → ℕ
field_words f = option_map_or (λ l. length_words l.value) f.len 1

-- the words of the field at place i of a struct with these names; a field that is declared again
-- counts for nothing
abbrev pub words_counted : List (List ℕ) → ℕ → FieldTree → ℕ
words_counted names i f = if is_first (index_of f.name.text names) i then field_words f else 0

-- the words of the fields from place i on
abbrev pub words_from : List (List ℕ) → ℕ → List FieldTree → ℕ
words_from names i [] = 0
words_from names i (f ∷ fs) = words_counted names i f + words_from names (i + 1) fs

-- the words of a struct, counted in 64 bits: a longer count stays at the greatest number
abbrev pub words_of_struct : StructTree → ℕ
words_of_struct s = min (words_from (field_names s) 0 s.fields) (2 ^ 64 - 1)

-- the words of the struct at place i
abbrev pub words_at : Tables → ℕ → ℕ
words_at t i = option_map_or words_of_struct (slice_get t.structs i) 0

-- the most words of the struct at place i if something points to it, by the place of the root's
abbrev pub pointed_limit : (root : Option ℕ) → (i : ℕ) → ℕ
pointed_limit root i = if is_first root i then POINTED_ROOT else OBJECT_WORDS

-- a pointer leads to a struct that isn't too large
abbrev pub pointer_type : Tables → List ℕ → ValueType
pointer_type t name = option_map_or (λ i. if nat_le (words_at t i) (pointed_limit (root_struct t) i)
    then Pointer i else Any)
    (struct_named t name) Any

-- the type of what is declared with a type, which is any if the type is refused
abbrev pub declared_type : Tables → TypeTree → ValueType
declared_type t (stmt.Int n) = Int n
declared_type t (stmt.Pointer name) = pointer_type t name.text

-- the place of the struct that a value of this type points to
abbrev pub pointed_struct : ValueType → Option ℕ
pointed_struct (Pointer i) = Some i
pointed_struct (Int n) = None
pointed_struct Null = None
pointed_struct Any = None

-- the words of the fields from place i on that come before the field at place n
abbrev pub field_words_before : ℕ → ℕ → List FieldTree → ℕ
field_words_before n i [] = 0
field_words_before n i (f ∷ fs) =
    (if nat_lt i n then field_words f else 0) + field_words_before n (i + 1) fs

-- the word at which the field at place n of a struct begins, counted in the same way
abbrev pub field_start : StructTree → ℕ → ℕ
field_start s n = min (field_words_before n 0 s.fields) (2 ^ 64 - 1)

-- how many structs, from place i up to and including place n, aren't too large for pointers
abbrev pub numbered_up_to : (root : Option ℕ) → (n i : ℕ) → List StructTree → ℕ
numbered_up_to root n i [] = 0
numbered_up_to root n i (s ∷ ss) =
    (if nat_le i n && nat_le (words_of_struct s) (pointed_limit root i) then 1 else 0)
    + numbered_up_to root n (i + 1) ss

-- the number of the struct at place n, which mustn't be too large
abbrev pub number_at : Tables → ℕ → ℕ
number_at t n = numbered_up_to (root_struct t) n 0 t.structs
