use Rattle.std.proofs.Common.{rules, FitsSigned, w64, ◌∙◌}
use Rattle.pmem.specs.Sparse.{Sparse}
use Rattle.pmem.proofs.Cuts.{round, view_sparse}
use Rattle.pmem.proofs.sparse_lines.SparseLinesLines.load.Goals as goal

pub returns : goal.returns
returns c =
    let s : Sparse = record {
      count = c.self.inside.count;
      words = c.self.inside.words.items;
      kept = c.self.inside.kept;
    } in
    let fits : FitsSigned w64 c.index.result.now = search rules in
    round c.index.result.now fits ∙ view_sparse s c.args.self.now c.args.word c.index.result.now
    c.self.view_is c.self.invariant.0 c.requires c.index.ensures
