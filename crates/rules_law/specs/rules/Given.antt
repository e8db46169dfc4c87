-- The types that expressions have in a program that may break rules, as rules. An expression that
-- has none is *any*: it breaks a rule itself, or a part of it has none, or it is an array field.
-- These are the rules of specs/typed but for one: an argument for a parameter of a refused type may
-- have any type.
use Rattle.std.specs.Prelude.{ℕ, ◌≡◌, ◌⊎◌, List, [], ◌∷◌, Some, false}
use Rattle.c_tree.specs.declared.expr.IntType.{IntType}
use Rattle.c_tree.specs.ExprTree.{ExprTree, Arguments}
use Rattle.c_tree.specs.ExprTree as expr
use Rattle.c_tree.specs.StmtTree.{TypeTree}
use Rattle.c_tree.specs.ItemTree.{FunctionTree, ParameterTree}
use Rattle.c_types.specs.Tables.{Tables, function_named, root_struct}
use Rattle.c_types.specs.Expressions.{Scope, variable_type, number_type}
use Rattle.rules_law.specs.typed.Types.{StaticType, Number, PointerTo, NullPointer, value_type}
use Rattle.rules_law.specs.typed.Types.{IsPointer, IsWritten, HasValueField, HasArray, Applies}
use Rattle.rules_law.specs.typed.Types.{Joins, AcceptsType, Unites, GivesUnary, GivesBinary}

-- Something whose type F says may have the type x: it has, or it has none, since it was refused. So
-- a rule that no type keeps is broken, and one that some type would keep isn't.
abbrev pub MayBe : (F : StaticType → Type 0) → StaticType → Type 0
MayBe F x = F x ⊎ ((y : StaticType) → F y → ⊥)

abbrev mutual
  pub Types : Tables → List Scope → ExprTree → StaticType → Type 0
  Types t s (expr.Number n) x = x ≡ Number (number_type n)
  Types t s expr.Null x = x ≡ NullPointer
  -- a name that is declared with a type that isn't refused
  Types t s (expr.Variable name) x = variable_type name.text s ≡ Some (value_type x)
  Types t s (expr.Root name) x =
      (i : ℕ) × (root_struct t ≡ Some i) × HasValueField t i name.text x
  Types t s (expr.New place name) x = IsPointer t name.text x
  Types t s (expr.Arrow base place name) x =
      (i : ℕ) × Types t s base (PointerTo i) × HasValueField t i name.text x
  Types t s (expr.Index base place index) x = GivesArray t s base x
      × (n : IntType) × Types t s index (Number n)
  Types t s (expr.Unary op place a) x =
      (y : StaticType) × Types t s a y × Applies op y × GivesUnary op y x
  Types t s (expr.Binary op place a b) x =
      (y : StaticType) × (z : StaticType) × Types t s a y × Types t s b z × Joins op y z
      × GivesBinary op y z x
  Types t s (expr.Conditional c place a b) x = (u : StaticType) × Types t s c u
      × (y : StaticType) × (z : StaticType) × Types t s a y × Types t s b z × Unites y z x
  Types t s (expr.Call name all) x = (f : FunctionTree) × (ty : TypeTree)
      × (f.result_type ≡ Some ty)
      × IsWritten t ty x × (function_named t name.text ≡ Some f) × (f.tx ≡ false)
      × AreTaken t s f.parameters all

  -- an array field of the root or reached by `->`, with elements of that type
  pub GivesArray : Tables → List Scope → ExprTree → StaticType → Type 0
  GivesArray t s (expr.Root name) x = (i : ℕ) × (root_struct t ≡ Some i) × HasArray t i name.text x
  GivesArray t s (expr.Arrow base place name) x =
      (i : ℕ) × Types t s base (PointerTo i) × HasArray t i name.text x
  GivesArray t s (expr.Number n) x = ⊥
  GivesArray t s expr.Null x = ⊥
  GivesArray t s (expr.Variable name) x = ⊥
  GivesArray t s (expr.Call name all) x = ⊥
  GivesArray t s (expr.New place name) x = ⊥
  GivesArray t s (expr.Index base place index) x = ⊥
  GivesArray t s (expr.Unary op place a) x = ⊥
  GivesArray t s (expr.Binary op place a b) x = ⊥
  GivesArray t s (expr.Conditional c place a b) x = ⊥

  -- as many arguments as parameters, each of a type that its parameter may take
  pub AreTaken : Tables → List Scope → List ParameterTree → Arguments → Type 0
  AreTaken t s [] expr.None = Unit {0}
  AreTaken t s [] (expr.More first e rest) = ⊥
  AreTaken t s (q ∷ qs) expr.None = ⊥
  AreTaken t s (q ∷ qs) (expr.More first e rest) = AreTaken t s qs rest
      × (x : StaticType) × (y : StaticType) × MayBe (IsWritten t q.ty) x × Types t s e y
      × AcceptsType x y

-- the name of the field that an expression ends with stands at that place
abbrev pub EndsAt : ExprTree → ℕ → Type 0
EndsAt (expr.Root name) n = n ≡ name.place
EndsAt (expr.Arrow base place name) n = n ≡ name.place
EndsAt (expr.Number m) n = ⊥
EndsAt expr.Null n = ⊥
EndsAt (expr.Variable name) n = ⊥
EndsAt (expr.Call name all) n = ⊥
EndsAt (expr.New place name) n = ⊥
EndsAt (expr.Index base place index) n = ⊥
EndsAt (expr.Unary op place a) n = ⊥
EndsAt (expr.Binary op place a b) n = ⊥
EndsAt (expr.Conditional c place a b) n = ⊥
