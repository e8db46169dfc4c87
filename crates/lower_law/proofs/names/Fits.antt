-- The conditions on the names of a tree under which its code does what it means: variables,
-- functions, structs and fields exist, and mean the same in the tree and in the code. A tree that
-- breaks no rule meets them.
use Rattle.std.proofs.Common.{◌≡◌, ℕ, ℤ, List}
use Rattle.std.specs.Prelude.{Option, Some, slice_get}
use Rattle.c_tree.specs.ExprTree as expr
use Rattle.c_tree.specs.ExprTree.{ExprTree, Arguments, Ident}
use Rattle.c_tree.specs.ItemTree.{FunctionTree}
use Rattle.c_types.specs.Tables.{Tables, function_named, struct_named, number_at, words_at}
use Rattle.pool_map.specs.PoolMap.{PoolMap}
use Rattle.pool_map.specs.PoolFits.{words_of}
use Rattle.pool_map.specs.declared.shapes.Shapes.{Shapes}
use Rattle.c_meaning.specs.Locals.{Local, scopes_of}
use Rattle.c_meaning.specs.Access.{word_named}
use Rattle.ir.specs.declared.instruction.Target.{Target}
use Rattle.ir.specs.declared.function.Ir.{Ir}
use Rattle.lower.specs.Names.{Variables, function_number, kind_named}
use Rattle.lower.specs.Lowers.{Context, target_of}
use Rattle.code_meaning.specs.Code.{spot_of, fields_of}
use Rattle.lower_law.proofs.locals.Locals.{Entry, entry_register, scopes_in}

-- a field names the same word in the tree and in the code
abbrev pub WordFits : Tables → Shapes → List Entry → ExprTree → Target → Type 0
WordFits t shapes es e x = (ls : List Local) → scopes_of ls ≡ scopes_in es
    → (w : PoolMap) (b : ℤ) (j : Option ℤ) → word_named t ls w e b j
    ≡ spot_of shapes w x b j

-- a struct of which an object is made has its kind and its words in the code
pub record NewFits (t : Tables) (shapes : Shapes) (name : List ℕ) : Type 0 where
  pub place : ℕ
  pub named : struct_named t name ≡ Some place
  pub kind : number_at t place ≡ kind_named t name
  pub words : words_at t place ≡ words_of (fields_of shapes (kind_named t name))

-- a function that is called exists, at its number
pub record CallFits (t : Tables) (name : Ident) : Type 0 where
  pub fn : FunctionTree
  pub named : function_named t name.text ≡ Some fn
  pub stands : slice_get t.functions (function_number t name.text) ≡ Some fn

module _ (k : Context) (ir : Ir) (v : Variables) (es : List Entry) where
  abbrev pub FieldFits : ExprTree → Type 0
  FieldFits e = (p : ℕ) → WordFits k.tables ir.shapes es e (target_of k v e p)

  abbrev mutual
    pub ExpFits : ExprTree → Type 0
    ExpFits (expr.Number n) = Unit {0}
    ExpFits expr.Null = Unit {0}
    ExpFits (expr.Variable name) = (r : ℕ) × (entry_register name.text es ≡ Some r)
    ExpFits (expr.Call name all) = CallFits k.tables name × ArgumentsFit all
    ExpFits (expr.Root name) = FieldFits (expr.Root name)
    ExpFits (expr.New place name) = NewFits k.tables ir.shapes name.text
    ExpFits (expr.Arrow base place name) = ExpFits base × FieldFits (expr.Arrow base place name)
    ExpFits (expr.Index a place i) = PointerFits a × ExpFits i
    ExpFits (expr.Unary o place a) = ExpFits a
    ExpFits (expr.Binary o place a b) = ExpFits a × ExpFits b
    ExpFits (expr.Conditional c place a b) = ExpFits c × ExpFits a × ExpFits b

    -- the field of an element
    pub PointerFits : ExprTree → Type 0
    PointerFits (expr.Root name) = FieldFits (expr.Root name)
    PointerFits (expr.Arrow base place name) = ExpFits base × FieldFits (expr.Arrow base place name)
    PointerFits (expr.Number n) = ⊥
    PointerFits expr.Null = ⊥
    PointerFits (expr.Variable name) = ⊥
    PointerFits (expr.Call name all) = ⊥
    PointerFits (expr.New place name) = ⊥
    PointerFits (expr.Index a place i) = ⊥
    PointerFits (expr.Unary o place a) = ⊥
    PointerFits (expr.Binary o place a b) = ⊥
    PointerFits (expr.Conditional c place a b) = ⊥

    pub ArgumentsFit : Arguments → Type 0
    ArgumentsFit expr.None = Unit {0}
    ArgumentsFit (expr.More first e rest) = ExpFits e × ArgumentsFit rest
