use Rattle.pmem.specs.Sparse.{kept_at}
use Rattle.pmem.proofs.Sparses.{fenced_line}
use Rattle.pmem.proofs.sparse_lines.fence_all.Goals as goal

pub loop-line-preserved : goal.loop-line-preserved
loop-line-preserved c = fenced_line (kept_at c.args.kept.now) (kept_at c.loop-line.kept)
    (kept_at c.fence.new.self) c.loop-line.line c.loop-line.invariant c.fence.ensures
