-- Which functions store: a part of their body does, or they call a function that stores. It makes
-- no difference where the part stands, nor whether a run could come to it.
use Rattle.std.specs.Prelude.{ℕ, ◌≡◌, List, [], Bool, false, Some}
use Rattle.c_tree.specs.ExprTree.{ExprTree, Arguments, Ident}
use Rattle.c_tree.specs.ExprTree as expr
use Rattle.c_tree.specs.StmtTree as stmt
use Rattle.c_tree.specs.ItemTree.{FunctionTree}
use Rattle.c_tree.specs.declared.stmt.AssignOp.{AssignOp}
use Rattle.c_tree.specs.declared.stmt.StepOp.{StepOp}
use Rattle.c_types.specs.Tables.{Tables, function_named}
use Rattle.c_types.specs.Expressions.{Scope}
use Rattle.c_types.specs.Statements.{inner_scopes}
use Rattle.c_types.specs.Declarations.{scopes_after_parameters}
use Rattle.c_types.specs.Looking.{is_variable}
use Rattle.rules_law.specs.rules.Part.{Part}
use Rattle.rules_law.specs.rules.Part as part
use Rattle.rules_law.specs.rules.Stands.{InStatements}

-- an assignment, `++` or `--` whose target isn't a variable, `pm_new` and `pm_free`
pub data IsStore : Part → Type 0 where
  assigned : {s : List Scope} {target e : ExprTree} {op : AssignOp} {place : ℕ}
      → is_variable target ≡ false → IsStore (part.Simple s (stmt.Assign target op place e))
  stepped : {s : List Scope} {target : ExprTree} {op : StepOp} {place : ℕ}
      → is_variable target ≡ false → IsStore (part.Simple s (stmt.Step target op place))
  made : {s : List Scope} {place : ℕ} {name : Ident}
      → IsStore (part.Expression s (expr.New place name))
  freed : {s : List Scope} {place : ℕ} {e : ExprTree}
      → IsStore (part.Simple s (stmt.Free place e))

abbrev pub InBody : Tables → FunctionTree → Part → Type 0
InBody t f p = InStatements t f.result_type
    (scopes_after_parameters t (inner_scopes []) f.parameters) f.body p

-- by itself, or by a function that it calls
pub data Stores (t : Tables) : FunctionTree → Type 0 where
  itself : {f : FunctionTree} {p : Part} → InBody t f p → IsStore p → Stores t f
  called : {f g : FunctionTree} {used : Bool} {name : Ident} {all : Arguments}
      → InBody t f (part.Called used name all) → function_named t name.text ≡ Some g → Stores t g
      → Stores t f
