use Rattle.std.specs.Prelude.{option_map}
use Rattle.std.proofs.Common.{◌∙◌, ◌+◌, ap, drop}
use Rattle.c_tree.specs.ExprTree.{expr_of}
use Rattle.c_tree.specs.StmtTree.{Statements, stmt_of, simple_of, statements_in}
use Rattle.c_types.proofs.After.{statements_at}
use Rattle.lower.specs.inside.Holes.{leave}
use Rattle.lower.specs.Lowers.{statements_end}
use Rattle.lower.specs.inside.Added.{context_of}
use Rattle.lower.proofs.StmtAdds.{statements_code_more, after_all_more, if_part_added}
use Rattle.lower.proofs.StmtAdds.{else_part_added, while_added, do_added, for_added, block_added}
use Rattle.lower.proofs.statements.+statements.Goals as goal

pub add_statements-loop-stmt-preserved : goal.add_statements-loop-stmt-preserved
add_statements-loop-stmt-preserved t c =
    let k = context_of c.args.source.now in
    let x = c.stmt-item.result in
    let rest : Statements = statements_in (drop (c.loop-stmt.stmt-index + 1) c.args.all.now) in
    let here = statements_at c.args.all.now c.loop-stmt.stmt-index x c.loop-stmt-test.true
    c.stmt-item.is in
    let h = c.in_ok-add_statement.ensures in
    record {
      code = statements_code_more k _ (stmt_of x) rest leave c.args.again _ _ _ h
          ∙ rw here at c.loop-stmt.invariant.code;
      long = ap (statements_end rest) h.long ∙ rw here at c.loop-stmt.invariant.long;
      seen = after_all_more k _ (stmt_of x) rest leave c.args.again _ _ _ h
          ∙ rw here at c.loop-stmt.invariant.seen;
    }

pub add_if-returns : goal.add_if-returns
add_if-returns t c =
    if_part_added (context_of c.args.source.now) _ (expr_of c.args.condition.now)
    (stmt_of c.args.body.now) leave c.args.again c.args.afterwards _ _ _ _ _ _ _ _ _
    c.in_ok-on.ensures c.end-first.ensures.place c.in_ok-push.ensures c.in_ok-add_body.ensures
    c.end-second.ensures.place c.set.ensures.code

pub add_else-returns : goal.add_else-returns
add_else-returns t c =
    else_part_added (context_of c.args.source.now) _ (stmt_of c.args.other.now) leave c.args.again _
    _ _ _ _ _ _
    c.end-first.ensures.place c.in_ok-push.ensures c.in_ok-add_body.ensures
    c.end-place.ensures.place c.set.ensures.code

pub add_while-returns : goal.add_while-returns
add_while-returns t c =
    while_added (context_of c.args.source.now) _ (expr_of c.args.condition.now)
    (stmt_of c.args.body.now) _ _ _ _ _ _ _ _ _ _ _ _ _
    c.end-top.ensures.place c.in_ok-push.ensures c.in_ok-on.ensures c.end-first.ensures.place
    c.in_ok-push-2.ensures c.in_ok-add_body.ensures
    c.end-last.ensures.place c.end-last.ensures.small c.in_ok-push-3.ensures c.set.ensures.code
    c.fill.ensures

pub add_do-returns : goal.add_do-returns
add_do-returns t c =
    do_added (context_of c.args.source.now) _ (stmt_of c.args.body.now)
    (expr_of c.args.condition.now) _ _ _ _ _ _ _ _ _ _ _ _ _
    c.end-top.ensures.place c.in_ok-add_body.ensures c.end-again.ensures.place
    c.end-again.ensures.small c.fill.ensures c.in_ok-push.ensures c.in_ok-on.ensures
    c.end-place.ensures.place c.end-place.ensures.small c.in_ok-push-2.ensures
    c.in_ok-push-3.ensures c.fill-2.ensures

pub add_block-returns : goal.add_block-returns
add_block-returns t c =
    block_added (context_of c.args.source.now) c.args.variables.now (statements_in c.args.all.now)
    leave c.args.again _ _ _ _
    (rw c.in_ok-open.ensures at c.in_ok-add_statements.ensures) c.close.ensures

pub add_for-returns : goal.add_for-returns
add_for-returns t c =
    for_added (context_of c.args.source.now) _ (option_map expr_of c.args.condition.now)
    (option_map simple_of c.args.third.now) (stmt_of c.args.body.now) _ _ _ _ _ _ _ _ _ _
    _ _ _ _ _ _
    c.end-top.ensures.place c.in_ok-push.ensures c.in_ok-on.ensures c.end-first.ensures.place
    c.in_ok-push-2.ensures c.in_ok-add_body.ensures
    c.end-second.ensures.place c.in_ok-add_third.ensures c.end-last.ensures.place
    c.end-last.ensures.small c.in_ok-push-3.ensures c.set.ensures.code
    c.fill.ensures c.fill-2.ensures
