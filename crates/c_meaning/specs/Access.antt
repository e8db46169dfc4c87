-- How expressions reach the pool. A pointer is a slot's number, and 0 leads nowhere. The checks are
-- null, stale and index, in this order; a field of the root has only the last.
use Rattle.std.specs.Prelude.{ℕ, zero, suc, ℤ, pos, negsuc, ◌+◌, ◌^◌, min, ◌-◌, List, Bool}
use Rattle.std.specs.Prelude.{false, Option, None, Some, Result, Ok, Err, option_map}
use Rattle.std.specs.Prelude.{option_and_then, slice_get, nat_eq, if◌then◌else◌}
use Rattle.std.specs.Option.{option_map_or}
use Rattle.c_tree.specs.ExprTree.{ExprTree}
use Rattle.c_tree.specs.ExprTree as expr
use Rattle.c_types.specs.Expressions.{type_of}
use Rattle.c_types.specs.Tables.{Tables, StructTree, index_of, field_names, field_named}
use Rattle.c_types.specs.Tables.{root_struct, struct_named, field_start, words_at, number_at}
use Rattle.c_types.specs.Tables.{pointed_struct}
use Rattle.nvm_base.specs.Naturals.{natural_of}
use Rattle.pool_map.specs.declared.object.Object.{Object}
use Rattle.pool_map.specs.declared.trap.TrapKind.{TrapKind}
use Rattle.pool_map.specs.declared.trap.TrapKind.TheVariants as trap
use Rattle.pool_map.specs.PoolMap.{PoolMap, object_at, least_free, free}
use Rattle.pool_map.specs.declared.word.PoolWord.{PoolWord}
use Rattle.pool_map.specs.declared.word.PoolWord.TheVariants.{Root, Field}
use Rattle.c_meaning.specs.Locals.{Local, scopes_of}
use Rattle.pool_map.specs.Checks.{then_on, element_in, new_at}

-- the place of the struct that an expression points to
abbrev pub struct_pointed_by : Tables → List Local → ExprTree → Option ℕ
struct_pointed_by t ls e = pointed_struct (type_of t (scopes_of ls) e)

-- slot s has an object of this kind
abbrev pub is_struct_kind : Option Object → Option ℕ → Bool
is_struct_kind None kind = false
is_struct_kind (Some object) None = false
is_struct_kind (Some object) (Some kind) = nat_eq object.kind kind

-- the checks null and stale
abbrev pub struct_slot : PoolMap → Option ℕ → ℤ → Result ℕ TrapKind
struct_slot p kind (pos zero) = Err trap.Null
struct_slot p kind (pos (suc n)) = if is_struct_kind (object_at p (suc n)) kind then Ok (suc n)
    else Err trap.Stale
struct_slot p kind (negsuc n) = Err trap.Stale

-- the number of elements of a field; 0 for a field that is no array or doesn't exist
abbrev pub field_elements : StructTree → List ℕ → ℕ
field_elements s name = option_map_or (λ f. option_map_or (λ l. natural_of l.value) f.len 0)
    (field_named s name) 0

abbrev pub first_word : StructTree → List ℕ → ℕ
first_word s name = option_map_or (field_start s) (index_of name (field_names s)) 0

-- the word of a field of a struct, or of one of its elements, counted in 64 bits
abbrev pub word_in_struct : StructTree → List ℕ → Option ℤ → Result ℕ TrapKind
word_in_struct s name None = Ok (first_word s name)
word_in_struct s name (Some index) =
    then_on (element_in (field_elements s name) index)
    (λ i. Ok (min (first_word s name + i) (2 ^ 64 - 1)))

abbrev pub struct_word_at : Tables → Option ℕ → List ℕ → Option ℤ → Result ℕ TrapKind
struct_word_at t at name index =
    option_map_or (λ s. word_in_struct s name index) (option_and_then (slice_get t.structs) at)
    (Ok 0)

-- a field of the object that a pointer leads to, whose struct is the one at a place
abbrev pub pointed_word
    : Tables → PoolMap → Option ℕ → ℤ → List ℕ → Option ℤ → Result PoolWord TrapKind
pointed_word t p at pointer name index =
    then_on (struct_slot p (option_map (number_at t) at) pointer)
    (λ s. then_on (struct_word_at t at name index) (λ i. Ok (Field s i)))

-- a field of the root
abbrev pub of_root : Tables → List ℕ → Option ℤ → Result PoolWord TrapKind
of_root t name index = then_on (struct_word_at t (root_struct t) name index) (λ i. Ok (Root i))

-- The word that a field names, or one of its elements if there is an index: a field of the root, or
-- a field of the object named by the pointer that the expression `base` gave. Any other expression
-- names no word and leads nowhere.
abbrev pub word_named : Tables → List Local → PoolMap → ExprTree → (pointer : ℤ) → Option ℤ
    → Result PoolWord TrapKind
word_named t ls p (expr.Root name) pointer index = of_root t name.text index
word_named t ls p (expr.Arrow base place name) pointer index =
    pointed_word t p (struct_pointed_by t ls base) pointer name.text index
word_named t ls p (expr.Number n) pointer index = Err trap.Stale
word_named t ls p expr.Null pointer index = Err trap.Stale
word_named t ls p (expr.Variable name) pointer index = Err trap.Stale
word_named t ls p (expr.Call name all) pointer index = Err trap.Stale
word_named t ls p (expr.New place name) pointer index = Err trap.Stale
word_named t ls p (expr.Index a place i) pointer index = Err trap.Stale
word_named t ls p (expr.Unary op place a) pointer index = Err trap.Stale
word_named t ls p (expr.Binary op place a b) pointer index = Err trap.Stale
word_named t ls p (expr.Conditional c place a b) pointer index = Err trap.Stale

-- the field of a target, which may be one of its elements
abbrev pub target_field : ExprTree → ExprTree
target_field (expr.Index a place i) = a
target_field (expr.Root name) = expr.Root name
target_field (expr.Arrow base place name) = expr.Arrow base place name
target_field (expr.Number n) = expr.Number n
target_field expr.Null = expr.Null
target_field (expr.Variable name) = expr.Variable name
target_field (expr.Call name all) = expr.Call name all
target_field (expr.New place name) = expr.New place name
target_field (expr.Unary op place a) = expr.Unary op place a
target_field (expr.Binary op place a b) = expr.Binary op place a b
target_field (expr.Conditional c place a b) = expr.Conditional c place a b

abbrev pub new_object : Tables → PoolMap → List ℕ → ℤ × PoolMap
new_object t p name = option_map_or (λ i. new_at p (number_at t i) (words_at t i) (least_free p))
    (struct_named t name) (pos 0, p)

-- `pm_free`: the checks, and then the slot becomes free
abbrev pub free_object : Tables → List Local → PoolMap → ExprTree → ℤ → Result PoolMap TrapKind
free_object t ls p e pointer =
    then_on (struct_slot p (option_map (number_at t) (struct_pointed_by t ls e)) pointer)
    (λ s. Ok (free p s))
