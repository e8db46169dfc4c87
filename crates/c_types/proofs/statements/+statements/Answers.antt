use Rattle.c_types.proofs.After.{statements_at}
use Rattle.c_types.proofs.Told.{told_append}
use Rattle.c_types.proofs.statements.+statements.Goals as goal

pub statements-loop-stmt-preserved : goal.statements-loop-stmt-preserved
statements-loop-stmt-preserved t c =
    let here = statements_at c.args.all.now c.loop-stmt.stmt-index c.stmt-item.result
    c.loop-stmt-test.true c.stmt-item.is in
    record {
      after = rw c.in_ok-statement.ensures.scopes (rw here at c.loop-stmt.invariant.after);
      told_so = rw (c.in_ok-statement.ensures.told, c.in_ok-statement.ensures.scopes, ← told_append)
          (rw here at c.loop-stmt.invariant.told_so);
    }
