-- The parts of a program that a typing rule can be about, each with what surrounds it.
use Rattle.std.specs.Prelude.{ℕ, List, Bool, Option}
use Rattle.c_tree.specs.ExprTree.{ExprTree, Arguments, Ident}
use Rattle.c_tree.specs.StmtTree.{SimpleTree, TypeTree, DeclarationTree}
use Rattle.c_tree.specs.ItemTree.{FieldTree, FunctionTree, ParameterTree}
use Rattle.c_types.specs.Tables.{StructTree, RootTree}
use Rattle.c_types.specs.Expressions.{Scope}

pub data Part : Type 0 where
  -- the program, whose tokens end at that place
  Whole : (end : ℕ) → Part
  -- the struct, the root declaration and the function at place i among those of its kind
  Struct : (i : ℕ) → StructTree → Part
  Root : (i : ℕ) → RootTree → Part
  Function : (i : ℕ) → FunctionTree → Part
  -- the field at place j of a struct
  Field : StructTree → (j : ℕ) → FieldTree → Part
  -- the parameter at place i, in the scope of those before it
  Parameter : List Scope → (i : ℕ) → ParameterTree → Part
  -- the name in `struct NAME *` and in `pm_new(struct NAME)`
  PointerTo : Ident → Part
  -- a declaration of a local, and a simple statement, in these scopes
  Local : List Scope → DeclarationTree → Part
  Simple : List Scope → SimpleTree → Part
  -- a `return` at that place, in a function with that result
  Returned : (result : Option TypeTree) → List Scope → (place : ℕ) → Option ExprTree → Part
  -- an expression; and one that is used as a value, as all are that don't stand before `[`
  Expression : List Scope → ExprTree → Part
  Value : List Scope → ExprTree → Part
  -- a call of a function by its name; its result is used, or it is a statement
  Called : (used : Bool) → (name : Ident) → Arguments → Part
  -- the argument at place i of a call, and the place of its first token
  Argument : List Scope → (callee : Ident) → (i first : ℕ) → ExprTree → Part
