-- Statements that are well typed, as rules, in a function whose result is written so or is void.
-- The scopes after a statement are those of c_types: a declaration adds its name to the innermost.
use Rattle.std.specs.Prelude.{ℕ, ◌≡◌, List, Option, None, Some, false}
use Rattle.std.specs.Option.{option_map_or}
use Rattle.c_tree.specs.declared.expr.IntType.{IntType}
use Rattle.c_tree.specs.ExprTree.{ExprTree}
use Rattle.c_tree.specs.ExprTree as expr
use Rattle.c_tree.specs.StmtTree.{StmtTree, Statements, SimpleTree, FirstTree, TypeTree}
use Rattle.c_tree.specs.StmtTree.{InitialTree, DeclarationTree}
use Rattle.c_tree.specs.StmtTree as stmt
use Rattle.c_tree.specs.declared.stmt.AssignOp.{AssignOp}
use Rattle.c_tree.specs.declared.stmt.AssignOp.TheVariants as assign
use Rattle.c_types.specs.Tables.{Tables}
use Rattle.c_types.specs.Expressions.{Scope}
use Rattle.c_types.specs.Statements.{inner_scopes, is_declared, scopes_after, scopes_after_first}
use Rattle.rules_law.specs.typed.Types.{StaticType, Number, PointerTo, IsWritten, AcceptsType}
use Rattle.rules_law.specs.typed.Types.{AreNumbers}
use Rattle.rules_law.specs.typed.Expressions.{HasType, IsTyped, IsTypedCall}

-- a variable, a field, or an element: an index that has a type stands on an array field
abbrev pub IsAssignable : ExprTree → Type 0
IsAssignable (expr.Variable name) = Unit {0}
IsAssignable (expr.Root name) = Unit {0}
IsAssignable (expr.Arrow base place name) = Unit {0}
IsAssignable (expr.Index base place index) = Unit {0}
IsAssignable (expr.Number n) = ⊥
IsAssignable expr.Null = ⊥
IsAssignable (expr.Call name all) = ⊥
IsAssignable (expr.New place name) = ⊥
IsAssignable (expr.Unary op place a) = ⊥
IsAssignable (expr.Binary op place a b) = ⊥
IsAssignable (expr.Conditional c place a b) = ⊥

-- `=` gives what the target takes; the operators that update join two numbers
abbrev pub IsAssigned : AssignOp → StaticType → StaticType → Type 0
IsAssigned assign.Set x y = AcceptsType x y
IsAssigned (assign.Update op) x y = AreNumbers x y

abbrev pub IsSimple : Tables → List Scope → SimpleTree → Type 0
IsSimple t s (stmt.Assign target op place e) = IsAssignable target
    × (x : StaticType) × (y : StaticType) × HasType t s target x × HasType t s e y
    × IsAssigned op x y
IsSimple t s (stmt.Step target op place) = IsAssignable target
    × (n : IntType) × HasType t s target (Number n)
IsSimple t s (stmt.Call name all) = IsTypedCall t s name all
IsSimple t s (stmt.Free place e) = (i : ℕ) × HasType t s e (PointerTo i)
IsSimple t s (stmt.Abort place) = Unit {0}

-- an initial value, for a variable of that type
abbrev pub IsInitial : Tables → List Scope → StaticType → Option InitialTree → Type 0
IsInitial t s x None = Unit {0}
IsInitial t s x (Some i) = (y : StaticType) × HasType t s i.value y × AcceptsType x y

-- a new name of its scope, which its own initial value doesn't know
abbrev pub IsDeclared : Tables → List Scope → DeclarationTree → Type 0
IsDeclared t s d = (is_declared d.name.text s ≡ false)
    × (x : StaticType) × IsWritten t d.ty x × IsInitial t s x d.initial

abbrev pub IsFirst : Tables → List Scope → Option FirstTree → Type 0
IsFirst t s None = Unit {0}
IsFirst t s (Some (stmt.Declare d)) = IsDeclared t s d
IsFirst t s (Some (stmt.Simply x)) = IsSimple t s x

abbrev pub IsCondition : Tables → List Scope → Option ExprTree → Type 0
IsCondition t s None = Unit {0}
IsCondition t s (Some e) = IsTyped t s e

abbrev pub IsThird : Tables → List Scope → Option SimpleTree → Type 0
IsThird t s None = Unit {0}
IsThird t s (Some x) = IsSimple t s x

-- a value is given back exactly where the function isn't void
abbrev pub IsReturned : Tables → List Scope → Option TypeTree → Option ExprTree → Type 0
IsReturned t s None None = Unit {0}
IsReturned t s None (Some e) = ⊥
IsReturned t s (Some ty) None = ⊥
IsReturned t s (Some ty) (Some e) = (x : StaticType) × (y : StaticType)
    × IsWritten t ty x × HasType t s e y × AcceptsType x y

abbrev mutual
  pub IsStatement : Tables → Option TypeTree → List Scope → StmtTree → Type 0
  IsStatement t result s stmt.Empty = Unit {0}
  IsStatement t result s (stmt.Declares d) = IsDeclared t s d
  IsStatement t result s (stmt.Simple x) = IsSimple t s x
  IsStatement t result s (stmt.Block all) = AreStatements t result (inner_scopes s) all
  IsStatement t result s (stmt.If c a) = IsTyped t s c × IsStatement t result (inner_scopes s) a
  IsStatement t result s (stmt.IfElse c a b) =
      IsTyped t s c × IsStatement t result (inner_scopes s) a
      × IsStatement t result (inner_scopes s) b
  IsStatement t result s (stmt.While place c a) =
      IsTyped t s c × IsStatement t result (inner_scopes s) a
  -- the condition of a `do` stands outside of its body's scope
  IsStatement t result s (stmt.Do place a c) =
      IsStatement t result (inner_scopes s) a × IsTyped t s c
  -- a `for` is a scope round its parts and its body
  IsStatement t result s (stmt.For place first c third a) = let inner =
      option_map_or (λ f. scopes_after_first t f (inner_scopes s)) first (inner_scopes s) in
      IsFirst t (inner_scopes s) first × IsCondition t inner c × IsThird t inner third
      × IsStatement t result inner a
  IsStatement t result s stmt.Break = Unit {0}
  IsStatement t result s stmt.Continue = Unit {0}
  IsStatement t result s (stmt.Return place value) = IsReturned t s result value

  pub AreStatements : Tables → Option TypeTree → List Scope → Statements → Type 0
  AreStatements t result s stmt.Nothing = Unit {0}
  AreStatements t result s (stmt.Then x xs) = IsStatement t result s x
      × AreStatements t result (scopes_after t x s) xs
