use Rattle.std.proofs.Common.{rules}
use Rattle.cnvm_session.proofs.Plays.{flushes_at, all_next, part_next, part_first}
use Rattle.cnvm_session.proofs.opening.flush_lines.Goals as goal

pub returns-in-Err-clause-refused : goal.returns-in-Err-clause-refused
returns-in-Err-clause-refused g c =
    c.loop-line.invariant.part _ _
    (part_first _ _ _ _ _ _ (flushes_at c.args.words.now c.loop-line.line c.args.lines
    c.loop-line-test.true) c.in-Err.ensures.refused)

pub loop-line-preserved : goal.loop-line-preserved
loop-line-preserved g c = record {
  lines = search rules;
  all = λ b rest. c.loop-line.invariant.all b
      (all_next _ _ _ _ _ b (flushes_at c.args.words.now c.loop-line.line c.args.lines
      c.loop-line-test.true) c.in_default.ensures.done rest);
  part = λ why b rest. c.loop-line.invariant.part why b
      (part_next why _ _ _ _ _ b (flushes_at c.args.words.now c.loop-line.line c.args.lines
      c.loop-line-test.true) c.in_default.ensures.done rest);
}
