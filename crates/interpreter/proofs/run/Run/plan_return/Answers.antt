use Rattle.c_tree.specs.ExprTree.{expr_of}
use Rattle.interpreter.proofs.Resume.{return-then}
use Rattle.interpreter.proofs.run.Run.plan_return.Goals as goal

pub returns-in_ok-plan_expr-in-Some : goal.returns-in_ok-plan_expr-in-Some
returns-in_ok-plan_expr-in-Some c =
    λ t. rw (c.in_ok-plan_expr-in-Some.ensures, c.in_ok-plan-in-Some.ensures, c.in-Some.is)
    (return-then t c.args.self.now (expr_of c.in-Some.value))
