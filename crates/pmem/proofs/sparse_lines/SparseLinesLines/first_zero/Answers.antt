use Rattle.pmem.proofs.Zeros.{first_in_view}
use Rattle.pmem.proofs.sparse_lines.SparseLinesLines.first_zero.Goals as goal

pub returns-clause-value : goal.returns-clause-value
returns-clause-value c = first_in_view (record {
  count = c.self.inside.count;
  words = c.self.inside.words.items;
  kept = c.self.inside.kept;
}) c.args.self.now c.deref.result.now c.args.word c.args.apart c.args.count
    c.first_zero.result c.self.view_is c.self.invariant.0 c.deref.ensures.value c.requires.apart
    c.requires.inside c.first_zero.ensures.value
