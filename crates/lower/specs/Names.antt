-- The variables that are visible at a place of a function, and what names mean in the code.
use Rattle.std.specs.Prelude.{ℕ, ◌-◌, ◌^◌, min, List, [], ◌∷◌, ◌++◌, bytes_eq, if◌then◌else◌}
use Rattle.std.specs.Prelude.{Option, None, Some, slice_get, unwrap_or}
use Rattle.std.specs.Option.{option_map_or}
use Rattle.c_tree.specs.ExprTree.{ExprTree, Ident}
use Rattle.c_tree.specs.ExprTree as expr
use Rattle.c_types.specs.declared.value_type.ValueType.{ValueType}
use Rattle.c_types.specs.Tables.{Tables, index_of, field_names, struct_named, root_struct}
use Rattle.c_types.specs.Tables.{number_at, function_names, pointed_struct}
use Rattle.c_types.specs.Expressions.{Scope}
use Rattle.c_types.specs.Statements as scopes
use Rattle.ir.specs.declared.instruction.Target.{Target}
use Rattle.ir.specs.declared.instruction.Target.TheVariants.{Root, Field}

-- a variable and its register
pub record LocalRegister : Type 0 where
  pub name : List ℕ
  pub register : ℕ

-- the open scopes, from the innermost out
pub record Variables : Type 0 where
  pub scopes : List Scope
  pub locals : List (List LocalRegister)

-- the number for what doesn't exist
abbrev pub nowhere : ℕ
nowhere = 2 ^ 32 - 1

abbrev pub with_local : List ℕ → ℕ → List LocalRegister → List LocalRegister
with_local name register ls = ls ++ record { name = name; register = register } ∷ []

-- a new scope inside the others
abbrev pub inner_variables : Variables → Variables
inner_variables v = record { scopes = scopes.inner_scopes v.scopes; locals = [] ∷ v.locals }

abbrev pub with_name : List ℕ → ℕ → List (List LocalRegister) → List (List LocalRegister)
with_name name register [] = []
with_name name register (l ∷ ls) = with_local name register l ∷ ls

-- the innermost scope with a name declared with that type, in that register
abbrev pub variable_declared : List ℕ → ValueType → ℕ → Variables → Variables
variable_declared name ty register v = record {
  scopes = scopes.scope_declared name ty v.scopes;
  locals = with_name name register v.locals;
}

-- if a scope declares a name twice, the first declaration counts
abbrev pub register_in : List ℕ → List LocalRegister → Option ℕ
register_in name [] = None
register_in name (l ∷ ls) = if bytes_eq name l.name then Some l.register else register_in name ls

abbrev pub register_or_else : Option ℕ → Option ℕ → Option ℕ
register_or_else None other = other
register_or_else (Some r) other = Some r

abbrev pub variable_register : List ℕ → List (List LocalRegister) → Option ℕ
variable_register name [] = None
variable_register name (l ∷ ls) = register_or_else (register_in name l) (variable_register name ls)

-- the register of the innermost variable of that name
abbrev pub register_of : List ℕ → Variables → ℕ
register_of name v = unwrap_or (variable_register name v.locals) nowhere

-- the number of what was found at a place
abbrev pub found_number : Option ℕ → ℕ
found_number found = option_map_or (λ n. min n nowhere) found nowhere

-- the number of a function
abbrev pub function_number : Tables → List ℕ → ℕ
function_number t name = found_number (index_of name (function_names t))

-- the kind of the objects of a struct
abbrev pub struct_kind_at : Tables → Option ℕ → ℕ
struct_kind_at t found = option_map_or (λ i. found_number (Some (number_at t i))) found nowhere

abbrev pub kind_named : Tables → List ℕ → ℕ
kind_named t name = struct_kind_at t (struct_named t name)

-- the number of a field of the struct at a place
abbrev pub field_number : Tables → List ℕ → Option ℕ → ℕ
field_number t name found = option_map_or
    (λ i. option_map_or (λ s. found_number (index_of name (field_names s))) (slice_get t.structs i)
    nowhere) found nowhere

-- a field of the root
abbrev pub root_target : Tables → List ℕ → Target
root_target t name = Root (field_number t name (root_struct t)) None

-- a field of the object that a pointer of that type leads to
abbrev pub field_target : Tables → ValueType → ℕ → List ℕ → Target
field_target t ty base name = Field base (struct_kind_at t (pointed_struct ty))
    (field_number t name (pointed_struct ty)) None

-- the element of an array field at the index in a register
abbrev pub element_target : Target → ℕ → Target
element_target (Root field index) r = Root field (Some r)
element_target (Field base kind field index) r = Field base kind field (Some r)

-- the target for what doesn't exist
abbrev pub no_target : Target
no_target = Root nowhere None

-- the name, if the expression is just a variable
abbrev pub variable_of : ExprTree → Option Ident
variable_of (expr.Variable name) = Some name
variable_of (expr.Number n) = None
variable_of expr.Null = None
variable_of (expr.Call name all) = None
variable_of (expr.Root name) = None
variable_of (expr.New place name) = None
variable_of (expr.Arrow base place name) = None
variable_of (expr.Index base place index) = None
variable_of (expr.Unary op place a) = None
variable_of (expr.Binary op place a b) = None
variable_of (expr.Conditional c place a b) = None
