-- The types that expressions have, as rules: an expression has a type where its parts have types
-- that fit. One that breaks a typing rule has none.
use Rattle.std.specs.Prelude.{ℕ, ◌≡◌, List, [], ◌∷◌, Some, false}
use Rattle.c_tree.specs.declared.expr.IntType.{IntType}
use Rattle.c_tree.specs.ExprTree.{ExprTree, Arguments, Ident}
use Rattle.c_tree.specs.ExprTree as expr
use Rattle.c_tree.specs.StmtTree.{TypeTree}
use Rattle.c_tree.specs.ItemTree.{FunctionTree, ParameterTree}
use Rattle.c_types.specs.Tables.{Tables, function_named, root_struct}
use Rattle.c_types.specs.Expressions.{Scope, variable_type, number_type}
use Rattle.rules_law.specs.typed.Types.{StaticType, Number, PointerTo, NullPointer, value_type}
use Rattle.rules_law.specs.typed.Types.{IsPointer, IsWritten, HasValueField, HasArray, Applies}
use Rattle.rules_law.specs.typed.Types.{Joins, AcceptsType, Unites, GivesUnary, GivesBinary}

abbrev mutual
  pub HasType : Tables → List Scope → ExprTree → StaticType → Type 0
  HasType t s (expr.Number n) x = x ≡ Number (number_type n)
  HasType t s expr.Null x = x ≡ NullPointer
  HasType t s (expr.Variable name) x = variable_type name.text s ≡ Some (value_type x)
  HasType t s (expr.Root name) x =
      (i : ℕ) × (root_struct t ≡ Some i) × HasValueField t i name.text x
  HasType t s (expr.New place name) x = IsPointer t name.text x
  -- what stands before `->` is a pointer to a struct that has the field
  HasType t s (expr.Arrow base place name) x =
      (i : ℕ) × HasType t s base (PointerTo i) × HasValueField t i name.text x
  -- what stands before `[` is an array, and the index a number
  HasType t s (expr.Index base place index) x = IsArray t s base x
      × (n : IntType) × HasType t s index (Number n)
  HasType t s (expr.Unary op place a) x =
      (y : StaticType) × HasType t s a y × Applies op y × GivesUnary op y x
  HasType t s (expr.Binary op place a b) x =
      (y : StaticType) × (z : StaticType) × HasType t s a y × HasType t s b z × Joins op y z
      × GivesBinary op y z x
  -- the condition may have any type
  HasType t s (expr.Conditional c place a b) x = (u : StaticType) × HasType t s c u
      × (y : StaticType) × (z : StaticType) × HasType t s a y × HasType t s b z × Unites y z x
  -- a call that is used gives a value
  HasType t s (expr.Call name all) x = (f : FunctionTree) × (ty : TypeTree)
      × (f.result_type ≡ Some ty)
      × IsWritten t ty x × (function_named t name.text ≡ Some f) × (f.tx ≡ false)
      × ArePassed t s f.parameters all

  -- an array field of the root or reached by `->`, with elements of that type
  pub IsArray : Tables → List Scope → ExprTree → StaticType → Type 0
  IsArray t s (expr.Root name) x = (i : ℕ) × (root_struct t ≡ Some i) × HasArray t i name.text x
  IsArray t s (expr.Arrow base place name) x =
      (i : ℕ) × HasType t s base (PointerTo i) × HasArray t i name.text x
  IsArray t s (expr.Number n) x = ⊥
  IsArray t s expr.Null x = ⊥
  IsArray t s (expr.Variable name) x = ⊥
  IsArray t s (expr.Call name all) x = ⊥
  IsArray t s (expr.New place name) x = ⊥
  IsArray t s (expr.Index base place index) x = ⊥
  IsArray t s (expr.Unary op place a) x = ⊥
  IsArray t s (expr.Binary op place a b) x = ⊥
  IsArray t s (expr.Conditional c place a b) x = ⊥

  -- as many arguments as parameters, each of a type that its parameter takes
  pub ArePassed : Tables → List Scope → List ParameterTree → Arguments → Type 0
  ArePassed t s [] expr.None = Unit {0}
  ArePassed t s [] (expr.More first e rest) = ⊥
  ArePassed t s (p ∷ ps) expr.None = ⊥
  ArePassed t s (p ∷ ps) (expr.More first e rest) = ArePassed t s ps rest
      × (x : StaticType) × (y : StaticType) × IsWritten t p.ty x × HasType t s e y × AcceptsType x y

-- a value of some type
abbrev pub IsTyped : Tables → List Scope → ExprTree → Type 0
IsTyped t s e = (x : StaticType) × HasType t s e x

-- a call, whether its result is used or not
abbrev pub IsTypedCall : Tables → List Scope → Ident → Arguments → Type 0
IsTypedCall t s name all = (f : FunctionTree) × (function_named t name.text ≡ Some f)
    × (f.tx ≡ false) × ArePassed t s f.parameters all
