use Rattle.std.proofs.Common.{◌≡◌, ◌∙◌, ap, append_assoc}
use Rattle.c_tree.specs.ExprTree.{Call, ident_of, expr_of, arguments_in}
use Rattle.c_tree.proofs.Trees.{expr_of-Call}
use Rattle.c_types.proofs.Arguments.{arguments_at}
use Rattle.trap_line.proofs.expressions.+expressions.Goals as goal

pub push_expression-returns-in-Call : goal.push_expression-returns-in-Call
push_expression-returns-in-Call t c =
    let e : expr_of c.args.expr.now ≡ Call (ident_of c.in-Call.name)
    (arguments_in c.in-Call.arguments.items) =
    ap expr_of c.in-Call.is ∙ expr_of-Call c.in-Call.name c.in-Call.arguments in
    rw e (rw c.deref.ensures.value at c.push_call.ensures)

pub push_arguments-loop-argument-preserved : goal.push_arguments-loop-argument-preserved
push_arguments-loop-argument-preserved t c =
    let here = arguments_at c.args.arguments.now c.loop-argument.argument-index
    c.argument-item.result c.loop-argument-test.true c.argument-item.is in
    rw (c.in_ok-push_expression.ensures, append_assoc) (rw here at c.loop-argument.invariant)
