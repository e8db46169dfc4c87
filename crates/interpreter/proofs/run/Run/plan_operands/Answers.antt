use Rattle.c_tree.specs.ExprTree.{expr_of}
use Rattle.interpreter.proofs.Resume.{then_ok, operands-element, operands-pointer}
use Rattle.c_meaning.specs.Meaning.{value_of}
use Rattle.interpreter.specs.inside.Resume.{plan_going, calls}
use Rattle.interpreter.proofs.run.Run.plan_operands.Goals as goal

pub returns-in_ok-plan_expr-in-Index : goal.returns-in_ok-plan_expr-in-Index
returns-in_ok-plan_expr-in-Index c = λ t. then_ok c.plan_pointer.result (c.plan_pointer.ensures t)
    (λ is. rw (
      is,
      c.in_ok-plan_expr-in-Index.ensures,
      c.in-Index.is,
      c.deref.ensures,
      c.deref-in-Index.ensures,
    )
    (operands-element t c.args.self.now (expr_of c.in-Index.base.value)
    (expr_of c.in-Index.index.value)))

pub returns-in-Arrow : goal.returns-in-Arrow
returns-in-Arrow c = λ t. let s = c.args.self.now in
    then_ok c.plan_expr-in-Arrow.result c.plan_expr-in-Arrow.ensures
    (λ is. rw (is, c.in-Arrow.is, c.deref-in-Arrow.ensures)
    (operands-pointer (plan_going t s) s.values s.below s.top
    (value_of t (calls t s.below) (expr_of c.in-Arrow.base.value) s.top s.pool s.ticks)))
