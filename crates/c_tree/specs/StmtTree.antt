-- A statement as a tree without pointers, in the same way as an expression.
use Rattle.std.specs.Prelude.{ℕ, List, [], ◌∷◌, Option, option_map}
use Rattle.c_tree.specs.declared.expr.IntType.{IntType}
use Rattle.c_tree.specs.declared.stmt.TypeName.{TypeName}
use Rattle.c_tree.specs.declared.stmt.TypeName.TheVariants as written
use Rattle.c_tree.specs.declared.stmt.Initial.{Initial}
use Rattle.c_tree.specs.declared.stmt.Declaration.{Declaration}
use Rattle.c_tree.specs.declared.stmt.AssignOp.{AssignOp}
use Rattle.c_tree.specs.declared.stmt.StepOp.{StepOp}
use Rattle.c_tree.specs.declared.stmt.Simple as plain
use Rattle.c_tree.specs.declared.stmt.Simple.TheVariants as simple
use Rattle.c_tree.specs.declared.stmt.First.{First}
use Rattle.c_tree.specs.declared.stmt.First.TheVariants as first
use Rattle.c_tree.specs.declared.stmt.Stmt.{Stmt, Row_of-Stmt, end_of-Stmt, more_of-Stmt}
use Rattle.c_tree.specs.declared.stmt.Stmt.{Held-Stmt-If-2, None', Some'}
use Rattle.c_tree.specs.declared.stmt.Stmt.TheVariants as node
use Rattle.c_tree.specs.ExprTree.{ExprTree, Arguments, Ident, ident_of, expr_of, arguments_in}

pub data TypeTree : Type 0 where
  Int : IntType → TypeTree
  Pointer : Ident → TypeTree

-- the value after a `=`, and the place of the `=`
pub record InitialTree : Type 0 where
  pub place : ℕ
  pub value : ExprTree

pub record DeclarationTree : Type 0 where
  pub ty : TypeTree
  pub name : Ident
  pub initial : Option InitialTree

pub data SimpleTree : Type 0 where
  Assign : ExprTree → AssignOp → (place : ℕ) → ExprTree → SimpleTree
  Step : ExprTree → StepOp → (place : ℕ) → SimpleTree
  Call : Ident → Arguments → SimpleTree
  Free : (place : ℕ) → ExprTree → SimpleTree
  Abort : (place : ℕ) → SimpleTree

pub data FirstTree : Type 0 where
  Declare : DeclarationTree → FirstTree
  Simply : SimpleTree → FirstTree

mutual
  pub data StmtTree : Type 0 where
    Empty : StmtTree
    Declares : DeclarationTree → StmtTree
    Simple : SimpleTree → StmtTree
    Block : Statements → StmtTree
    If : ExprTree → StmtTree → StmtTree
    IfElse : ExprTree → StmtTree → StmtTree → StmtTree
    While : (place : ℕ) → ExprTree → StmtTree → StmtTree
    Do : (place : ℕ) → StmtTree → ExprTree → StmtTree
    For : (place : ℕ) → Option FirstTree → Option ExprTree → Option SimpleTree → StmtTree → StmtTree
    Break : StmtTree
    Continue : StmtTree
    Return : (place : ℕ) → Option ExprTree → StmtTree

  pub data Statements : Type 0 where
    Nothing : Statements
    Then : StmtTree → Statements → Statements

abbrev pub type_tree : TypeName → TypeTree
type_tree (written.Int n) = Int n
type_tree (written.Pointer n) = Pointer (ident_of n)

abbrev pub initial_of : Initial → InitialTree
initial_of x = record { place = x.place; value = expr_of x.value }

abbrev pub declaration_of : Declaration → DeclarationTree
declaration_of d = record {
  ty = type_tree d.ty;
  name = ident_of d.name;
  initial = option_map initial_of d.initial;
}

abbrev pub simple_of : plain.Simple → SimpleTree
simple_of (simple.Assign target op place value) = Assign (expr_of target) op place (expr_of value)
simple_of (simple.Step target op place) = Step (expr_of target) op place
simple_of (simple.Call n all) = Call (ident_of n) (arguments_in all.items)
simple_of (simple.Free place pointer) = Free place (expr_of pointer)
simple_of (simple.Abort place) = Abort place

abbrev pub tree_of_first : First → FirstTree
tree_of_first (first.Declare d) = Declare (declaration_of d)
tree_of_first (first.Simple s) = Simply (simple_of s)

abbrev mutual
  pub stmt_of : Stmt → StmtTree
  stmt_of node.Empty = Empty
  stmt_of (node.Declare d) = Declares (declaration_of d)
  stmt_of (node.Simple s) = Simple (simple_of s)
  stmt_of (node.Block' shape all) = Block (statements_of all)
  stmt_of (node.If' condition p body other) = with_else (expr_of condition) (stmt_of body) other
  stmt_of (node.While' place condition p body) = While place (expr_of condition) (stmt_of body)
  stmt_of (node.Do' place p body condition) = Do place (stmt_of body) (expr_of condition)
  stmt_of (node.For' place f c t p body) =
      For place (option_map tree_of_first f) (option_map expr_of c) (option_map simple_of t)
      (stmt_of body)
  stmt_of node.Break = Break
  stmt_of node.Continue = Continue
  stmt_of (node.Return place value) = Return place (option_map expr_of value)

  pub with_else : ExprTree → StmtTree → Held-Stmt-If-2 → StmtTree
  with_else c a None' = If c a
  with_else c a (Some' p b) = IfElse c a (stmt_of b)

  pub statements_of : {m : _} → Row_of-Stmt m → Statements
  statements_of end_of-Stmt = Nothing
  statements_of (more_of-Stmt x xs) = Then (stmt_of x) (statements_of xs)

abbrev pub statements_in : List Stmt → Statements
statements_in [] = Nothing
statements_in (x ∷ xs) = Then (stmt_of x) (statements_in xs)
