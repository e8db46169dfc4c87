-- The rules that structs, root declarations and functions break, and all rules that a program
-- breaks.
use Rattle.std.specs.Prelude.{ℕ, ◌+◌, List, [], ◌∷◌, ◌++◌, Bool, true, false, not, ◌&&◌, ◌||◌}
use Rattle.std.specs.Prelude.{nat_eq, nat_le, Option, is_some, option_map, slice_get}
use Rattle.std.specs.Option.{option_map_or}
use Rattle.std.specs.Int.{w64, cast_unsigned}
use Rattle.c_tree.specs.ItemTree.{ItemTree, FunctionTree, FieldTree, LengthTree, ParameterTree}
use Rattle.c_tree.specs.StmtTree.{TypeTree}
use Rattle.c_types.specs.declared.fault.LimitKind.TheVariants as limit
use Rattle.c_types.specs.declared.broken.Rule.TheVariants.{UnknownName, Twice, TooBig, NoRoot}
use Rattle.c_types.specs.declared.broken.Rule.TheVariants.{BadTx}
use Rattle.c_types.specs.declared.broken.Broken.{Broken}
use Rattle.c_types.specs.declared.value_type.ValueType.{ValueType}
use Rattle.c_types.specs.Broken.{unless}
use Rattle.c_types.specs.Fits.{is_int}
use Rattle.c_types.specs.Tables.{Tables, StructTree, RootTree, tables_of, index_of, is_first}
use Rattle.c_types.specs.Tables.{function_names, field_names, struct_named, root_struct}
use Rattle.c_types.specs.Tables.{words_of_struct, is_length, declared_type}
use Rattle.c_types.specs.Expressions.{Scope}
use Rattle.c_types.specs.Statements.{inner_scopes, scope_declared, is_declared, type_broken}
use Rattle.c_types.specs.Statements.{statements_broken}
use Rattle.c_types.specs.Looking.{storing, looks_broken}
use Rattle.pool_map.specs.declared.limits.TheConstants.{OBJECT_WORDS, ROOT_WORDS}

abbrev pub length_broken : LengthTree → List Broken
length_broken l = unless (is_length l.value) l.place
    (TooBig limit.Array (cast_unsigned w64 l.value))

-- the field at place i of a struct with these names
abbrev pub field_broken : Tables → List (List ℕ) → ℕ → FieldTree → List Broken
field_broken t names i f = type_broken t f.ty
    ++ (unless (is_first (index_of f.name.text names) i) f.name.place Twice
    ++ option_map_or length_broken f.len [])

-- the fields from place i on
abbrev pub fields_broken : Tables → List (List ℕ) → ℕ → List FieldTree → List Broken
fields_broken t names i [] = []
fields_broken t names i (f ∷ fs) = field_broken t names i f ++ fields_broken t names (i + 1) fs

-- the struct at place i: its name, the number of structs, and its words
abbrev pub struct_broken : Tables → ℕ → StructTree → List Broken
struct_broken t i s = let root = is_first (root_struct t) i in
    unless (is_first (struct_named t s.name.text) i) s.name.place Twice
    ++ (unless (not (nat_eq i 255)) s.name.place (TooBig limit.Structs 256)
    ++ (unless (root || nat_le (words_of_struct s) OBJECT_WORDS) s.name.place
    (TooBig limit.Struct (words_of_struct s))
    ++ unless (not root || nat_le (words_of_struct s) ROOT_WORDS) s.name.place
    (TooBig limit.Root (words_of_struct s))))

abbrev pub whole_struct_broken : Tables → ℕ → StructTree → List Broken
whole_struct_broken t i s = struct_broken t i s ++ fields_broken t (field_names s) 0 s.fields

-- the structs from place i on
abbrev pub structs_broken : Tables → ℕ → List StructTree → List Broken
structs_broken t i [] = []
structs_broken t i (s ∷ ss) = whole_struct_broken t i s ++ structs_broken t (i + 1) ss

-- the root declaration at place i
abbrev pub root_item_broken : Tables → ℕ → RootTree → List Broken
root_item_broken t i r = unless (is_some (struct_named t r.name.text)) r.name.place UnknownName
    ++ unless (nat_eq i 0) r.place Twice

-- the root declarations from place i on
abbrev pub roots_broken : Tables → ℕ → List RootTree → List Broken
roots_broken t i [] = []
roots_broken t i (r ∷ rs) = root_item_broken t i r ++ roots_broken t (i + 1) rs

-- the parameter at place i, in the scope of those before
abbrev pub parameter_broken : Tables → List Scope → ℕ → ParameterTree → List Broken
parameter_broken t s i p = type_broken t p.ty
    ++ (unless (not (nat_eq i 22)) p.name.place (TooBig limit.Parameters 23)
    ++ unless (not (is_declared p.name.text s)) p.name.place Twice)

abbrev pub scopes_after_parameter : Tables → List Scope → ParameterTree → List Scope
scopes_after_parameter t s p = scope_declared p.name.text (declared_type t p.ty) s

-- the parameters from place i on
abbrev pub parameters_broken : Tables → List Scope → ℕ → List ParameterTree → List Broken
parameters_broken t s i [] = []
parameters_broken t s i (p ∷ ps) =
    parameter_broken t s i p ++ parameters_broken t (scopes_after_parameter t s p) (i + 1) ps

-- the scopes after the parameters
abbrev pub scopes_after_parameters : Tables → List Scope → List ParameterTree → List Scope
scopes_after_parameters t s [] = s
scopes_after_parameters t s (p ∷ ps) = scopes_after_parameters t (scopes_after_parameter t s p) ps

-- the type of a function's result, if it gives a value
abbrev pub type_given : Tables → Option TypeTree → Option ValueType
type_given t ty = option_map (declared_type t) ty

abbrev pub all_ints : Tables → List ParameterTree → Bool
all_ints t [] = true
all_ints t (p ∷ ps) = is_int (declared_type t p.ty) && all_ints t ps

-- a transaction gives an int, and all its parameters are ints
abbrev pub is_transaction : Tables → FunctionTree → Bool
is_transaction t f = option_map_or (λ ty. is_int (declared_type t ty)) f.result_type false
    && all_ints t f.parameters

-- the function at place i: its result, its name and the number of functions
abbrev pub function_broken : Tables → ℕ → FunctionTree → List Broken
function_broken t i f = option_map_or (type_broken t) f.result_type []
    ++ (unless (is_first (index_of f.name.text (function_names t)) i) f.name.place Twice
    ++ (unless (not (nat_eq i 1024)) f.name.place (TooBig limit.Functions 1025)
    ++ unless (not f.tx || is_transaction t f) f.name.place BadTx))

-- the parameters and the outermost block of a function share one scope
abbrev pub body_broken : Tables → FunctionTree → List Broken
body_broken t f = parameters_broken t (inner_scopes []) 0 f.parameters
    ++ statements_broken t (type_given t f.result_type)
    (scopes_after_parameters t (inner_scopes []) f.parameters) f.body

abbrev pub whole_function_broken : Tables → ℕ → FunctionTree → List Broken
whole_function_broken t i f = function_broken t i f ++ body_broken t f

-- the functions from place i on
abbrev pub functions_broken : Tables → ℕ → List FunctionTree → List Broken
functions_broken t i [] = []
functions_broken t i (f ∷ fs) = whole_function_broken t i f ++ functions_broken t (i + 1) fs

-- all rules that a program breaks: in its structs, its root (exactly one) and its functions
abbrev pub broken_of : ℕ → Tables → List Broken
broken_of end t = structs_broken t 0 t.structs ++ (roots_broken t 0 t.roots
    ++ (unless (is_some (slice_get t.roots 0)) end NoRoot ++ (functions_broken t 0 t.functions
    ++ looks_broken t (storing t) t.functions)))

abbrev pub broken : ℕ → List ItemTree → List Broken
broken end items = broken_of end (tables_of items)
