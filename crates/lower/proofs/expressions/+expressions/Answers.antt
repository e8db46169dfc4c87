use Rattle.std.proofs.Common.{◌∙◌, ◌+◌, ◌≡◌, ℤ, ap, drop, subst}
use Rattle.std.specs.Int.{w64}
use Rattle.std.proofs.lemmas.Int.{to_z-of_z}
use Rattle.std.proofs.lemmas.Result.{IfOk-weaker}
use Rattle.ir.specs.declared.instruction.Instruction.TheVariants.{Const}
use Rattle.c_tree.specs.ExprTree.{Arguments, Call, ident_of, expr_of, arguments_in}
use Rattle.c_tree.proofs.Trees.{expr_of-Call}
use Rattle.c_types.proofs.Arguments.{arguments_at}
use Rattle.lower.specs.Lowers.{arguments_end}
use Rattle.lower.specs.inside.Added.{Put, context_of}
use Rattle.lower.proofs.ExprAdds.{arguments_code_more, arguments_registers_more, both_added}
use Rattle.lower.proofs.ExprAdds.{either_added, left_added, other_added, constant_first}
use Rattle.lower.proofs.expressions.+expressions.Goals as goal

pub add_arguments-loop-argument-preserved : goal.add_arguments-loop-argument-preserved
add_arguments-loop-argument-preserved t c =
    let k = context_of c.args.source.now in
    let v = c.args.variables.now in
    let x = c.argument-item.result in
    let rest : Arguments = arguments_in
    (drop (c.loop-argument.argument-index + 1) c.args.arguments.now) in
    let here = arguments_at c.args.arguments.now c.loop-argument.argument-index x
    c.loop-argument-test.true c.argument-item.is in
    let h = c.in_ok-register.ensures in
    record {
      code = arguments_code_more k v (expr_of x.value) x.first rest _ _ _ h
          ∙ rw here at c.loop-argument.invariant.code;
      long = ap (arguments_end rest) h.long ∙ rw here at c.loop-argument.invariant.long;
      registers = rw c.in_ok-push.ensures.ok
          (arguments_registers_more k v (expr_of x.value) x.first rest _ _ _
          c.loop-argument.registers
          h ∙ rw here at c.loop-argument.invariant.registers);
    }

pub add_expression-returns-in-Call : goal.add_expression-returns-in-Call
add_expression-returns-in-Call t c =
    let e : expr_of c.args.expr.now ≡ Call (ident_of c.in-Call.name)
    (arguments_in c.in-Call.arguments.items) =
    ap expr_of c.in-Call.is ∙ expr_of-Call c.in-Call.name c.in-Call.arguments in
    rw e (rw c.deref.ensures.value at c.add_call.ensures)

pub add_both-returns : goal.add_both-returns
add_both-returns t c =
    both_added (context_of c.args.source.now) c.args.variables.now (expr_of c.args.right.now) _ _ _
    _ _ _ _ _ _ _
    c.end-first.ensures.place c.in_ok-push.ensures c.in_ok-right.ensures c.end-second.ensures.place
    c.register-to.ensures c.in_ok-add_outcome.ensures c.set.ensures.code

pub add_either-returns : goal.add_either-returns
add_either-returns t c =
    either_added (context_of c.args.source.now) c.args.variables.now (expr_of c.args.right.now) _ _
    _ _ _ _ _ _ _ _ _
    c.end-first.ensures.place c.in_ok-push.ensures c.in_ok-push-2.ensures c.in_ok-right.ensures
    c.end-second.ensures.place c.register-to.ensures c.in_ok-add_outcome.ensures
    c.set.ensures.code

pub add_left_side-returns : goal.add_left_side-returns
add_left_side-returns t c =
    left_added (context_of c.args.source.now) c.args.variables.now (expr_of c.args.left.now) _ _ _ _
    _ _ _ _
    c.end-first.ensures.place c.in_ok-push.ensures c.in_ok-left.ensures c.end-place.ensures.place
    c.set.ensures.code

pub add_right_side-returns : goal.add_right_side-returns
add_right_side-returns t c =
    other_added (context_of c.args.source.now) c.args.variables.now (expr_of c.args.right.now) _ _ _
    _ _ _ _ _ _ _ _ _
    c.end-second.ensures.place c.in_ok-push.ensures c.in_ok-push-2.ensures c.in_ok-from.ensures
    c.end-last.ensures.place c.register-to.ensures c.in_ok-push-3.ensures c.set.ensures.code
    c.set-2.ensures.code

pub add_constant_first-returns : goal.add_constant_first-returns
add_constant_first-returns t c =
    let k = context_of c.args.source.now in
    let z = subst (λ (n : ℤ). Put k (λ to. Const to n) c.args.code.now c.add_constant.new.code
    c.in_ok-left.left) (to_z-of_z w64 c.args.value c.ranges.value) c.in_ok-left.ensures in
    IfOk-weaker c.add_operation.result _ _
    (λ r h. constant_first k c.args.variables.now (expr_of c.args.operand.now) c.args.value
    c.args.op _ _ _ _ _ _ r z c.in_ok-right.ensures h) c.add_operation.ensures
