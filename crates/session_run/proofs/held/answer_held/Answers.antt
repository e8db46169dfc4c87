use Rattle.std.proofs.Common.{rules}
use Rattle.session_run.proofs.Running.{runs_more, part_more}
use Rattle.session_run.proofs.Holding.{some_more, broken_here}
use Rattle.session_run.proofs.held.answer_held.Goals as goal

pub returns-in-Err-clause-broken : goal.returns-in-Err-clause-broken
returns-in-Err-clause-broken g c = broken_here c.in-Err.why _ c.args.program.now
    c.args.commands.now c.loop-given.given-index c.given-item.result _ _ _ _ _ _ _ _ _ _ _ _ _ _
    c.loop-given.invariant.part c.loop-given.invariant.some c.loop-given-test.true
    c.given-item.is c.command-answer.ensures.does c.in-Err.ensures.broken

pub loop-given-preserved : goal.loop-given-preserved
loop-given-preserved g c = record {
  lines = search rules;
  awake = c.in_default.ensures.kept;
  count = search rules;
  all = λ d w k u rest. c.loop-given.invariant.all d w k u
      (runs_more c.args.program.now c.args.commands.now c.loop-given.given-index c.given-item.result
      _ _ _ _ d _ _ w _ _ k _ _ u _ c.loop-given-test.true c.given-item.is
      c.command-answer.ensures.does c.in_default.ensures.whole (search rules) rest);
  part = λ d w k rest. c.loop-given.invariant.part d w k
      (part_more c.args.program.now c.args.commands.now c.loop-given.given-index c.given-item.result
      _ _ _ _ d _ _ w _ _ k _ c.loop-given-test.true c.given-item.is
      c.command-answer.ensures.does c.in_default.ensures.whole rest);
  some = λ d w k rest. c.loop-given.invariant.some d w k
      (some_more c.args.program.now c.args.commands.now c.loop-given.given-index c.given-item.result
      _ _ _ _ d _ _ w _ _ k _ _ _ c.loop-given-test.true c.given-item.is
      c.command-answer.ensures.does c.in_default.ensures.whole (search rules) rest);
}
