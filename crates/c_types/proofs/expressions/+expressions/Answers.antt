use Rattle.std.proofs.Common.{◌≡◌, ◌+◌, ◌∙◌, ap, refl}
use Rattle.c_tree.specs.ExprTree.{Call, expr_of, ident_of, arguments_in}
use Rattle.c_tree.proofs.Trees.{expr_of-Call}
use Rattle.c_types.proofs.Arguments.{arguments_at, and_assoc}
use Rattle.c_types.proofs.Told.{told_append}
use Rattle.c_types.proofs.expressions.+expressions.Goals as goal

pub kind-returns-in-Call-clause-kind : goal.kind-returns-in-Call-clause-kind
kind-returns-in-Call-clause-kind t c =
    let e : expr_of c.args.expr.now ≡ Call (ident_of c.in-Call.name)
    (arguments_in c.in-Call.arguments.items) =
    ap expr_of c.in-Call.is ∙ expr_of-Call c.in-Call.name c.in-Call.arguments in
    rw (e, c.call.ensures.kind, c.deref.ensures.value) refl

pub kind-returns-in-Call-clause-told : goal.kind-returns-in-Call-clause-told
kind-returns-in-Call-clause-told t c =
    let e : expr_of c.args.expr.now ≡ Call (ident_of c.in-Call.name)
    (arguments_in c.in-Call.arguments.items) =
    ap expr_of c.in-Call.is ∙ expr_of-Call c.in-Call.name c.in-Call.arguments in
    rw (e, c.call.ensures.told, c.deref.ensures.value) refl

pub pass-loop-argument-preserved : goal.pass-loop-argument-preserved
pass-loop-argument-preserved t c =
    let here = arguments_at c.args.arguments.now c.loop-argument.argument-index
    c.argument-item.result c.loop-argument-test.true c.argument-item.is in
    record {
      at_index = ap (λ n. n + 1) c.loop-argument.invariant.at_index;
      taken = rw (
        c.and_passed-passed.ensures,
        c.type_takes-taken.ensures,
        c.parameter_type-target.ensures,
        c.value-given.ensures.kind,
        and_assoc,
      )
          (rw here at c.loop-argument.invariant.taken);
      told_so = rw (
        c.expect.ensures,
        c.type_takes-taken.ensures,
        c.parameter_type-target.ensures,
        c.value-given.ensures.told,
        c.value-given.ensures.kind,
        ← told_append,
        ← told_append,
      )
          (rw here at c.loop-argument.invariant.told_so);
    }
