use Rattle.std.proofs.Common.{◌<◌, refl, arith}
use Rattle.pmem.proofs.Cuts.{has_good}
use Rattle.pmem.proofs.sparse_lines.SparseLines.has.Goals as goal

pub returns : goal.returns
returns c =
    let below = c.if-pick-count.false in
    let is = c.count.ensures in
    let lt : c.args.pick.line < c.args.self.now.count = omega arith in
    has_good c.args.self.now c.args.self.now c.args.pick c.versions.result refl lt
    c.versions.ensures
