use Rattle.c_tree.specs.ExprTree.{expr_of}
use Rattle.interpreter.proofs.Resume.{then_ok, load-then}
use Rattle.interpreter.proofs.run.Run.plan_load.Goals as goal

pub returns : goal.returns
returns c = λ t. then_ok c.plan_operands.result (c.plan_operands.ensures t)
    (λ is. rw (is, c.in_ok-plan_expr.ensures)
    (load-then t c.args.self.now (expr_of c.args.expr.now)))
