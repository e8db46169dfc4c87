-- The items of a run's work list, over trees without pointers. `Work` says what each does.
use Rattle.std.specs.Prelude.{ℕ, List}
use Rattle.c_tree.specs.ExprTree as expr
use Rattle.c_tree.specs.ExprTree.{ExprTree, expr_of, arguments_in}
use Rattle.c_tree.specs.StmtTree.{StmtTree, Statements, SimpleTree, DeclarationTree, stmt_of}
use Rattle.c_tree.specs.StmtTree.{statements_in, simple_of, declaration_of}
use Rattle.c_tree.specs.ItemTree.{FunctionTree, function_tree}
use Rattle.interpreter.specs.declared.work.ExprTask.{ExprTask}
use Rattle.interpreter.specs.declared.work.StmtTask.{StmtTask}
use Rattle.interpreter.specs.declared.work.WordTask.{WordTask}
use Rattle.interpreter.specs.declared.work.Work.{Work}
use Rattle.interpreter.specs.declared.work.Work.TheVariants as work

pub data Todo : Type 0 where
  Expr : ExprTask → ExprTree → Todo
  Stmt : StmtTask → StmtTree → Todo
  Sides : (left right : ExprTree) → Todo
  Arguments : expr.Arguments → Todo
  Rest : Statements → Todo
  Simple : SimpleTree → Todo
  Declare : DeclarationTree → Todo
  Assign : (name : List ℕ) → Todo
  Call : (place : ℕ) → FunctionTree → (count : ℕ) → Todo
  Leave : Todo
  Close : (count : ℕ) → Todo
  Word : WordTask → Todo
  Give : Todo

abbrev pub todo_of : Work → Todo
todo_of (work.Expr task e) = Expr task (expr_of e.now)
todo_of (work.Stmt task s) = Stmt task (stmt_of s.now)
todo_of (work.Sides a b) = Sides (expr_of a.now) (expr_of b.now)
todo_of (work.Arguments all) = Arguments (arguments_in all.now)
todo_of (work.Rest all) = Rest (statements_in all.now)
todo_of (work.Simple s) = Simple (simple_of s.now)
todo_of (work.Declare d) = Declare (declaration_of d.now)
todo_of (work.Assign name) = Assign name.now.text
todo_of (work.Call place f count) = Call place (function_tree f.now) count
todo_of work.Leave = Leave
todo_of (work.Close count) = Close count
todo_of (work.Word task) = Word task
todo_of work.Give = Give
