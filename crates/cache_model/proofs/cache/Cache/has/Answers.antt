use Rattle.std.proofs.Common.{◌<◌, length, arith}
use Rattle.cache_model.proofs.Lefts.{has_good}
use Rattle.cache_model.proofs.cache.Cache.has.Goals as goal

pub returns : goal.returns
returns c =
    let below = c.if-pick-lines.false in
    let is = c.lines.ensures in
    let lt : c.args.pick.line < length c.args.self.now = omega arith in
    has_good _ _ c.args.pick _ _ c.self.view_is lt c.index.ensures c.len.ensures
