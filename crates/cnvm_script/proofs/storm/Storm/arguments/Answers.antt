use Rattle.cnvm_script.proofs.Draws.{after_next, one_more}
use Rattle.cnvm_script.proofs.storm.Storm.arguments.Goals as goal

pub loop-preserved : goal.loop-preserved
loop-preserved c = (
  one_more c.loop.self c.args.parameters c.loop.counter c.loop.args c.push_argument.new.args _
      c.push_argument.new.self c.loop-test.true c.push_argument.ensures.state
      c.in_ok-push_argument.ensures.argument c.loop.invariant.0,
  rw (
    c.push_argument.ensures.state,
    ← after_next c.loop.self c.args.parameters c.loop.counter
        c.loop-test.true,
  ) c.loop.invariant.1,
)
