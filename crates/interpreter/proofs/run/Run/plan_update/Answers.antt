use Rattle.std.proofs.Common.{refl, sym, option_map}
use Rattle.c_tree.specs.ExprTree.{expr_of}
use Rattle.interpreter.specs.declared.work.ExprTask.TheVariants as expr_task
use Rattle.interpreter.specs.declared.work.Work.TheVariants as work
use Rattle.interpreter.specs.inside.Resume.{calls, right_of, right_todo}
use Rattle.interpreter.proofs.Resume.{then_ok, right-then, right-work, update-local, update-field}
use Rattle.interpreter.proofs.run.Run.plan_update.Goals as goal

pub returns-in_ok-plan_right-in-Some : goal.returns-in_ok-plan_right-in-Some
returns-in_ok-plan_right-in-Some c = λ t.
    let s = c.args.self.now in
    let right = option_map (λ e. expr_of e.now) c.args.right in
    then_ok c.plan_expr.result c.plan_expr.ensures
    (λ is. rw (
      is,
      c.in_ok-plan_right-in-Some.ensures,
      c.in_ok-plan-in-Some.ensures,
      right-work c.args.right (λ e. expr_of e.now) (λ e. work.Expr expr_task.Eval e) (λ e. refl),
    )
    (update-local t s (expr_of c.args.target.now) c.in-Some.name.now.text (right_todo right)
    c.args.op c.args.int c.args.place (λ p k. right_of t (calls t s.below) right s.top p k)
    (sym c.in-Some.ensures) (right-then t s right)))

pub returns-in_ok-plan_expr-in-None-2 : goal.returns-in_ok-plan_expr-in-None-2
returns-in_ok-plan_expr-in-None-2 c = λ t.
    let s = c.args.self.now in
    let right = option_map (λ e. expr_of e.now) c.args.right in
    then_ok c.plan_operands.result (c.plan_operands.ensures t)
    (λ is. rw (
      is,
      c.in_ok-plan_expr-in-None-2.ensures,
      c.in_ok-plan_right-in-None.ensures,
      c.in_ok-plan_expr-in-None.ensures,
      right-work c.args.right (λ e. expr_of e.now) (λ e. work.Expr expr_task.Eval e) (λ e. refl),
    )
    (update-field t s (expr_of c.args.target.now) (right_todo right) c.args.op
    c.args.int c.args.place
    (λ p k. right_of t (calls t s.below) right s.top p k)
    (sym c.in-None.ensures) (right-then t s right)))
