use Rattle.std.proofs.Common.{arith, rules}
use Rattle.session_run.proofs.Running.{runs_more, part_more, part_here, runs_none}
use Rattle.session_run.proofs.commands.answer_all.Goals as goal

pub returns-clause-whole : goal.returns-clause-whole
returns-clause-whole g c =
    c.loop-given.invariant.all _ _ _ _
    (runs_none c.args.program.now c.args.commands.now c.loop-given.given-index c.loop-given.session
    _ _ _ _ (omega arith))

pub returns-in-Err-clause-part : goal.returns-in-Err-clause-part
returns-in-Err-clause-part g c =
    c.loop-given.invariant.part _ _ _
    (part_here c.args.program.now c.args.commands.now c.loop-given.given-index c.given-item.result _
    _ _ _ _ _ _ _ _ c.loop-given-test.true c.given-item.is
    c.command-answer.ensures.does c.in-Err.ensures.part)

pub loop-given-preserved : goal.loop-given-preserved
loop-given-preserved g c = record {
  lines = search rules;
  count = search rules;
  all = λ d w k u rest. c.loop-given.invariant.all d w k u
      (runs_more c.args.program.now c.args.commands.now c.loop-given.given-index c.given-item.result
      _ _ _ _ d _ _ w _ _ k _ _ u _ c.loop-given-test.true c.given-item.is
      c.command-answer.ensures.does c.in_default.ensures.whole (search rules) rest);
  part = λ d w k rest. c.loop-given.invariant.part d w k
      (part_more c.args.program.now c.args.commands.now c.loop-given.given-index c.given-item.result
      _ _ _ _ d _ _ w _ _ k _ c.loop-given-test.true c.given-item.is
      c.command-answer.ensures.does c.in_default.ensures.whole rest);
}
