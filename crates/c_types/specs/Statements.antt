-- The rules that statements break, as functions of the tree and the scopes, and the scopes after a
-- statement: only a declaration changes them.
use Rattle.std.specs.Prelude.{ℕ, List, [], ◌∷◌, ◌++◌, Bool, true, false, not, Option, None, Some}
use Rattle.std.specs.Prelude.{is_some}
use Rattle.std.specs.Option.{option_map_or}
use Rattle.c_tree.specs.ExprTree.{ExprTree}
use Rattle.c_tree.specs.ExprTree as expr
use Rattle.c_tree.specs.StmtTree as stmt
use Rattle.c_tree.specs.StmtTree.{StmtTree, Statements, SimpleTree, FirstTree, TypeTree}
use Rattle.c_tree.specs.StmtTree.{InitialTree, DeclarationTree}
use Rattle.c_types.specs.declared.value_type.ValueType.{ValueType}
use Rattle.c_types.specs.declared.broken.Rule.TheVariants.{Twice, Mismatch, NotAssignable}
use Rattle.c_types.specs.declared.broken.Broken.{Broken}
use Rattle.c_types.specs.Broken.{unless}
use Rattle.c_types.specs.Fits.{is_int, is_pointer, type_takes, assigns}
use Rattle.c_types.specs.Tables.{Tables, declared_type, index_of}
use Rattle.c_types.specs.Expressions.{Scope, type_of, value_broken, pointer_broken, call_rules}

-- a new scope inside the others
abbrev pub inner_scopes : List Scope → List Scope
inner_scopes s = record { names = []; types = [] } ∷ s

-- the scopes around the innermost one
abbrev pub outer_scopes : List Scope → List Scope
outer_scopes [] = []
outer_scopes (s ∷ ss) = ss

-- a scope with one more name
abbrev pub scope_with : List ℕ → ValueType → Scope → Scope
scope_with name ty s = record { names = s.names ++ name ∷ []; types = s.types ++ ty ∷ [] }

-- the innermost scope with a name declared with that type
abbrev pub scope_declared : List ℕ → ValueType → List Scope → List Scope
scope_declared name ty [] = []
scope_declared name ty (s ∷ ss) = scope_with name ty s ∷ ss

-- the innermost scope has the name
abbrev pub is_declared : List ℕ → List Scope → Bool
is_declared name [] = false
is_declared name (s ∷ ss) = is_some (index_of name s.names)

-- a type as it is written
abbrev pub type_broken : Tables → TypeTree → List Broken
type_broken t (stmt.Int n) = []
type_broken t (stmt.Pointer name) = pointer_broken t name

-- a field of the root, or one reached by `->`
abbrev pub is_field : ExprTree → Bool
is_field (expr.Root name) = true
is_field (expr.Arrow base place name) = true
is_field (expr.Variable name) = false
is_field (expr.Index base place index) = false
is_field (expr.Number n) = false
is_field expr.Null = false
is_field (expr.Call name all) = false
is_field (expr.New place name) = false
is_field (expr.Unary op place a) = false
is_field (expr.Binary op place a b) = false
is_field (expr.Conditional c place a b) = false

-- a variable, a field, and an element of a field can be assigned to; that the field is an array is
-- the rule of `[`
abbrev pub is_target : ExprTree → Bool
is_target (expr.Variable name) = true
is_target (expr.Root name) = true
is_target (expr.Arrow base place name) = true
is_target (expr.Index base place index) = is_field base
is_target (expr.Number n) = false
is_target expr.Null = false
is_target (expr.Call name all) = false
is_target (expr.New place name) = false
is_target (expr.Unary op place a) = false
is_target (expr.Binary op place a b) = false
is_target (expr.Conditional c place a b) = false

abbrev pub simple_broken : Tables → List Scope → SimpleTree → List Broken
simple_broken t s (stmt.Assign target op place value) =
    value_broken t s target ++ (value_broken t s value
    ++ (unless (assigns op (type_of t s target) (type_of t s value)) place Mismatch
    ++ unless (is_target target) place NotAssignable))
simple_broken t s (stmt.Step target op place) = value_broken t s target
    ++ (unless (is_int (type_of t s target)) place Mismatch ++ unless (is_target target) place
    NotAssignable)
simple_broken t s (stmt.Call name all) = call_rules t s false name all
simple_broken t s (stmt.Free place pointer) =
    value_broken t s pointer ++ unless (is_pointer (type_of t s pointer)) place Mismatch
simple_broken t s (stmt.Abort place) = []

-- an initial value doesn't see the name that it is for
abbrev pub initial_broken : Tables → List Scope → ValueType → InitialTree → List Broken
initial_broken t s ty i = value_broken t s i.value ++ unless (type_takes ty (type_of t s i.value))
    i.place Mismatch

abbrev pub declaration_broken : Tables → List Scope → DeclarationTree → List Broken
declaration_broken t s d = type_broken t d.ty
    ++ (option_map_or (initial_broken t s (declared_type t d.ty)) d.initial []
    ++ unless (not (is_declared d.name.text s)) d.name.place Twice)

abbrev pub scopes_after_declaration : Tables → DeclarationTree → List Scope → List Scope
scopes_after_declaration t d s = scope_declared d.name.text (declared_type t d.ty) s

abbrev pub first_broken : Tables → List Scope → FirstTree → List Broken
first_broken t s (stmt.Declare d) = declaration_broken t s d
first_broken t s (stmt.Simply x) = simple_broken t s x

abbrev pub scopes_after_first : Tables → FirstTree → List Scope → List Scope
scopes_after_first t (stmt.Declare d) s = scopes_after_declaration t d s
scopes_after_first t (stmt.Simply x) s = s

-- `return` has a value exactly in a function that gives one, and the result's type takes the value
abbrev pub return_broken : Tables → Option ValueType → List Scope → ℕ → Option ExprTree
    → List Broken
return_broken t gives s place None = unless (not (is_some gives)) place Mismatch
return_broken t gives s place (Some e) =
    value_broken t s e ++ unless (option_map_or (λ ty. type_takes ty (type_of t s e)) gives false)
    place Mismatch

-- the scopes after a statement
abbrev pub scopes_after : Tables → StmtTree → List Scope → List Scope
scopes_after t (stmt.Declares d) s = scopes_after_declaration t d s
scopes_after t stmt.Empty s = s
scopes_after t (stmt.Simple x) s = s
scopes_after t (stmt.Block all) s = s
scopes_after t (stmt.If c a) s = s
scopes_after t (stmt.IfElse c a b) s = s
scopes_after t (stmt.While place c a) s = s
scopes_after t (stmt.Do place a c) s = s
scopes_after t (stmt.For place first c third a) s = s
scopes_after t stmt.Break s = s
scopes_after t stmt.Continue s = s
scopes_after t (stmt.Return place value) s = s

abbrev mutual
  -- the rules that a statement breaks, in a function whose result has that type, or none
  pub statement_broken : Tables → Option ValueType → List Scope → StmtTree → List Broken
  statement_broken t gives s stmt.Empty = []
  statement_broken t gives s (stmt.Declares d) = declaration_broken t s d
  statement_broken t gives s (stmt.Simple x) = simple_broken t s x
  statement_broken t gives s (stmt.Block all) = statements_broken t gives (inner_scopes s) all
  statement_broken t gives s (stmt.If c a) =
      value_broken t s c ++ statement_broken t gives (inner_scopes s) a
  statement_broken t gives s (stmt.IfElse c a b) =
      value_broken t s c ++ (statement_broken t gives (inner_scopes s) a ++ statement_broken t gives
      (inner_scopes s) b)
  statement_broken t gives s (stmt.While place c a) =
      value_broken t s c ++ statement_broken t gives (inner_scopes s) a
  -- the condition of a `do` stands outside of its body's scope
  statement_broken t gives s (stmt.Do place a c) =
      statement_broken t gives (inner_scopes s) a ++ value_broken t s c
  -- a `for` is a scope around its parts
  statement_broken t gives s (stmt.For place first c third a) = let inner =
      option_map_or (λ f. scopes_after_first t f (inner_scopes s)) first (inner_scopes s) in
      option_map_or (first_broken t (inner_scopes s)) first []
      ++ (option_map_or (value_broken t inner) c []
      ++ (option_map_or (simple_broken t inner) third [] ++ statement_broken t gives inner a))
  statement_broken t gives s stmt.Break = []
  statement_broken t gives s stmt.Continue = []
  statement_broken t gives s (stmt.Return place value) = return_broken t gives s place value

  pub statements_broken : Tables → Option ValueType → List Scope → Statements → List Broken
  statements_broken t gives s stmt.Nothing = []
  statements_broken t gives s (stmt.Then x xs) =
      statement_broken t gives s x ++ statements_broken t gives (scopes_after t x s) xs
