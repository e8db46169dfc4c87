use Rattle.std.proofs.Common.{append_assoc}
use Rattle.c_types.proofs.After.{statements_at}
use Rattle.trap_line.proofs.statements.+statements.Goals as goal

pub push_statements-loop-stmt-preserved : goal.push_statements-loop-stmt-preserved
push_statements-loop-stmt-preserved t c =
    let here = statements_at c.args.all.now c.loop-stmt.stmt-index c.stmt-item.result
    c.loop-stmt-test.true c.stmt-item.is in
    rw (c.in_ok-push_statement.ensures, append_assoc) (rw here at c.loop-stmt.invariant)
