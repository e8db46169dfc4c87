use Rattle.clobber_pass.proofs.bits.Views.{one_more}
use Rattle.clobber_pass.proofs.rows.Rows.new.Goals as goal

pub loop-preserved : goal.loop-preserved
loop-preserved c = one_more c.loop.rows c.push_empty.new.self c.args.count c.loop.counter
    c.loop-test.true c.in_ok-push_empty.ensures c.loop.invariant
