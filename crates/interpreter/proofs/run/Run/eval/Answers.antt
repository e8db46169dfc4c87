use Rattle.std.proofs.Common.{◌≡◌, ◌∙◌, ap, refl}
use Rattle.c_tree.specs.ExprTree.{ident_of, expr_of, arguments_in, Call}
use Rattle.c_tree.proofs.Trees.{expr_of-Call}
use Rattle.c_types.specs.Views.{tables_in}
use Rattle.interpreter.proofs.Resume.{then_ok, arrow-loads, index-loads}
use Rattle.interpreter.specs.inside.Resume.{calls, resumed_with}
use Rattle.interpreter.proofs.run.Run.eval.Goals as goal

pub returns-in-Call : goal.returns-in-Call
returns-in-Call c =
    let e : expr_of c.args.expr.now ≡ Call (ident_of c.in-Call.name)
    (arguments_in c.in-Call.arguments.items) =
    ap expr_of c.in-Call.is ∙ expr_of-Call c.in-Call.name c.in-Call.arguments in
    rw (e, ← c.deref.ensures.value) c.plan_call.ensures

pub returns-in-Root : goal.returns-in-Root
returns-in-Root c = then_ok c.plan_load.result (c.plan_load.ensures (tables_in c.args.program.now))
    (λ is. is ∙ rw c.in-Root.is refl)

pub returns-in-Arrow : goal.returns-in-Arrow
returns-in-Arrow c = let t = tables_in c.args.program.now in let s = c.args.self.now in
    then_ok c.plan_load-in-Arrow.result (c.plan_load-in-Arrow.ensures t)
    (λ is. is ∙ rw c.in-Arrow.is (ap (resumed_with t s)
    (arrow-loads t (calls t s.below) (expr_of c.in-Arrow.base.value) c.in-Arrow.place
    (ident_of c.in-Arrow.field) s.top s.pool s.ticks)))

pub returns-in-Index : goal.returns-in-Index
returns-in-Index c = let t = tables_in c.args.program.now in let s = c.args.self.now in
    then_ok c.plan_load-in-Index.result (c.plan_load-in-Index.ensures t)
    (λ is. is ∙ rw c.in-Index.is (ap (resumed_with t s)
    (index-loads t (calls t s.below) (expr_of c.in-Index.base.value) c.in-Index.place
    (expr_of c.in-Index.index.value) s.top s.pool s.ticks)))

pub returns-in-Binary : goal.returns-in-Binary
returns-in-Binary c =
    let top = ap (λ s. s.top) c.self-in-Binary.view_is in
    then_ok c.plan_binary.result (c.plan_binary.ensures (tables_in c.args.program.now))
    (λ is. is ∙ rw (
      c.in-Binary.is,
      c.sides_type-int.ensures,
      c.scopes.ensures,
      top,
      c.deref-in-Binary.ensures,
      c.deref-in-Binary-2.ensures,
      c.deref-in-Binary-3.ensures,
      c.deref-in-Binary-4.ensures,
    ) refl)
