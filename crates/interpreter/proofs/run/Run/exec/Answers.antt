use Rattle.std.proofs.Common.{◌≡◌, ◌∙◌, ap, refl, Option, None, Some, Box, Global}
use Rattle.c_tree.specs.ExprTree.{expr_of}
use Rattle.c_tree.specs.StmtTree.{stmt_of, statements_in, Block}
use Rattle.c_tree.specs.declared.expr.Expr.{Expr}
use Rattle.c_tree.specs.declared.stmt.Stmt.{Stmt}
use Rattle.c_tree.specs.declared.stmt.Stmt.TheVariants as node
use Rattle.c_tree.proofs.Trees.{stmt_of-Block}
use Rattle.c_types.specs.Views.{tables_in}
use Rattle.interpreter.proofs.Resume.{IsIf, if-then}
use Rattle.interpreter.proofs.run.Run.exec.Goals as goal

if_is : (condition : Expr) (body : Box Stmt Global) (other : Option (Box Stmt Global))
    → IsIf (stmt_of (node.If condition body other)) (expr_of condition)
if_is condition body None = refl
if_is condition body (Some b) = refl

pub returns-in_ok-plan_block-in-Block-clause-does :
    goal.returns-in_ok-plan_block-in-Block-clause-does
returns-in_ok-plan_block-in-Block-clause-does c =
    let e : stmt_of c.args.stmt.now ≡ Block (statements_in c.in-Block.all.items) =
    ap stmt_of c.in-Block.is ∙ stmt_of-Block c.in-Block.all in
    rw (e, c.in_ok-plan_block-in-Block.ensures, c.deref.ensures.value) refl

pub returns-in_ok-plan_expr-in-If-clause-does : goal.returns-in_ok-plan_expr-in-If-clause-does
returns-in_ok-plan_expr-in-If-clause-does c =
    let chooses : IsIf (stmt_of c.args.stmt.now) (expr_of c.in-If.condition) =
    rw c.in-If.is (if_is c.in-If.condition c.in-If.body c.in-If.other) in
    rw (c.in_ok-plan_expr-in-If.ensures, c.in_ok-plan_stmt-in-If.ensures)
    (if-then (tables_in c.args.program.now) c.args.self.now (stmt_of c.args.stmt.now)
    (expr_of c.in-If.condition) chooses)

pub returns-in_ok-plan_for-in-For-clause-does : goal.returns-in_ok-plan_for-in-For-clause-does
returns-in_ok-plan_for-in-For-clause-does c =
    c.in_ok-plan_for-in-For.ensures (tables_in c.args.program.now) ∙ rw c.in-For.is refl

pub returns-in_ok-plan_body-in-Do-clause-does : goal.returns-in_ok-plan_body-in-Do-clause-does
returns-in_ok-plan_body-in-Do-clause-does c =
    c.in_ok-plan_body-in-Do.ensures (tables_in c.args.program.now)
    ∙ rw (c.in_ok-plan_stmt-in-Do.ensures, c.in-Do.is) refl
