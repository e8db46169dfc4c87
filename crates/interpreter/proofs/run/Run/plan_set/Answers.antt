use Rattle.std.proofs.Common.{sym}
use Rattle.c_tree.specs.ExprTree.{expr_of}
use Rattle.c_meaning.specs.Meaning.{value_of}
use Rattle.interpreter.specs.inside.Resume.{calls}
use Rattle.interpreter.proofs.Resume.{then_ok, assign-local, assign-field}
use Rattle.interpreter.proofs.run.Run.plan_set.Goals as goal

pub returns-in_ok-plan-in-Some : goal.returns-in_ok-plan-in-Some
returns-in_ok-plan-in-Some c = λ t. let s = c.args.self.now in
    then_ok c.plan_expr.result c.plan_expr.ensures
    (λ is. rw (is, c.in_ok-plan-in-Some.ensures)
    (assign-local t s (expr_of c.args.target.now) c.in-Some.name.now.text
    (λ p k. value_of t (calls t s.below) (expr_of c.args.value.now) s.top p k)
    (sym c.in-Some.ensures)))

pub returns-in_ok-plan_expr-in-None-2 : goal.returns-in_ok-plan_expr-in-None-2
returns-in_ok-plan_expr-in-None-2 c =
    λ t. then_ok c.plan_operands.result (c.plan_operands.ensures t)
    (λ is. rw (is, c.in_ok-plan_expr-in-None-2.ensures, c.in_ok-plan_expr-in-None.ensures)
    (assign-field t c.args.self.now (expr_of c.args.target.now) (expr_of c.args.value.now)
    (sym c.in-None.ensures)))
