use Rattle.std.proofs.Common.{sym, ap, ◌∙◌}
use Rattle.pmem.specs.Kept.{more_lines}
use Rattle.pmem.specs.Sparse.{Sparse, sparse_memory}
use Rattle.pmem.proofs.Counts.{count_sparse}
use Rattle.pmem.proofs.sparse_lines.SparseLines.kept.Goals as goal

pub returns : goal.returns
returns c =
    let s : Sparse = record {
      count = c.self.inside.count;
      words = c.self.inside.words.items;
      kept = c.self.inside.kept;
    } in
    c.len.ensures.len ∙ sym (count_sparse s c.self.invariant.0 c.len.ensures.apart)
    ∙ ap (λ (z : Sparse). more_lines (sparse_memory z)) c.self.view_is
