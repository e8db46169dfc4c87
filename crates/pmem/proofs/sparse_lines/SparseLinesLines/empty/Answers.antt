use Rattle.std.proofs.Common.{inr, refl}
use Rattle.pmem.proofs.Cuts.{blank_sparse, blank_tidy}
use Rattle.pmem.proofs.Sparses.{listed_none}
use Rattle.pmem.proofs.sparse_lines.SparseLinesLines.empty.Goals as goal

pub invariant_of-result : goal.invariant_of-result
invariant_of-result c = (
  blank_tidy (record {
    count = 0;
    words = c.new.result.items;
    kept = c.empty.result;
  }) c.new.ensures.items c.empty.ensures,
  inr (listed_none c.new-2.result.items c.empty.result c.empty.ensures),
  c.new-3.ensures c.new.result.items,
)

pub returns : goal.returns
returns c = blank_sparse (record {
  count = 0;
  words = c.new.result.items;
  kept = c.empty.result;
}) 0 refl c.new.ensures.items c.empty.ensures
