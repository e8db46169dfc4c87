use Rattle.std.proofs.Common.{arith, rules}
use Rattle.workers_run.proofs.WorkersRuns.{lines_more, lines_part_more, lines_part_here, lines_none}
use Rattle.workers_run.proofs.writing.put_lines.Goals as goal

pub returns-clause-whole : goal.returns-clause-whole
returns-clause-whole g c =
    c.loop-line.invariant.all _
    (lines_none c.args.lines.now c.loop-line.line-index _ (omega arith))

pub returns-in-Err-clause-part : goal.returns-in-Err-clause-part
returns-in-Err-clause-part g c =
    c.loop-line.invariant.part _
    (lines_part_here c.args.lines.now c.loop-line.line-index c.line-item.result
    c.loop-line-test.true c.line-item.is _ _ c.in-Err.ensures.part)

pub loop-line-preserved : goal.loop-line-preserved
loop-line-preserved g c = record {
  count = search rules;
  all = λ w rest. c.loop-line.invariant.all w
      (lines_more c.args.lines.now c.loop-line.line-index c.line-item.result
      c.loop-line-test.true c.line-item.is _ _ w c.in_default.ensures.whole rest);
  part = λ w rest. c.loop-line.invariant.part w
      (lines_part_more c.args.lines.now c.loop-line.line-index c.line-item.result
      c.loop-line-test.true c.line-item.is _ _ w c.in_default.ensures.whole rest);
}
