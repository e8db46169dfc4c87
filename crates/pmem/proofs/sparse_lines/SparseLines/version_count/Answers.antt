use Rattle.std.proofs.Common.{◌∙◌, ◌<◌, arith}
use Rattle.pmem.proofs.Cuts.{count_is}
use Rattle.pmem.proofs.sparse_lines.SparseLines.version_count.Goals as goal

pub returns : goal.returns
returns c =
    let below = c.if-line-count.false in
    let is = c.count.ensures in
    let lt : c.args.line < c.args.self.now.count = omega arith in
    c.versions.ensures ∙ count_is c.args.self.now c.args.line lt
