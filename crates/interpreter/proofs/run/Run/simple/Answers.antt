use Rattle.c_tree.specs.ExprTree.{expr_of, ident_of, arguments_in, Call}
use Rattle.c_types.specs.Views.{tables_in}
use Rattle.c_meaning.specs.Meaning.{value_of}
use Rattle.interpreter.specs.inside.Resume.{calls}
use Rattle.interpreter.proofs.Resume.{forget-then, free-then}
use Rattle.interpreter.proofs.run.Run.simple.Goals as goal

pub returns-in_ok-plan_call-in-Call-clause-does : goal.returns-in_ok-plan_call-in-Call-clause-does
returns-in_ok-plan_call-in-Call-clause-does c = let t = tables_in c.args.program.now in
    let s = c.args.self.now in
    rw (
      c.in_ok-plan_call-in-Call.ensures,
      c.in_ok-plan-in-Call.ensures,
      c.in-Call.is,
      c.deref.ensures.value,
    )
    (forget-then t s (value_of t (calls t s.below)
    (Call (ident_of c.in-Call.name) (arguments_in c.in-Call.arguments.items)) s.top
    s.pool s.ticks))

pub returns-in_ok-plan_expr-in-Free-2-clause-does :
    goal.returns-in_ok-plan_expr-in-Free-2-clause-does
returns-in_ok-plan_expr-in-Free-2-clause-does c =
    rw (c.in_ok-plan_expr-in-Free-2.ensures, c.in_ok-plan_expr-in-Free.ensures, c.in-Free.is)
    (free-then (tables_in c.args.program.now) c.args.self.now c.in-Free.place
    (expr_of c.in-Free.pointer))
