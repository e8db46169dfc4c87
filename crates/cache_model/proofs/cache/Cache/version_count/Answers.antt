use Rattle.std.proofs.Common.{◌∙◌, ◌<◌, length, arith}
use Rattle.cache_model.proofs.Lefts.{count_is}
use Rattle.cache_model.proofs.cache.Cache.version_count.Goals as goal

pub returns : goal.returns
returns c =
    let below = c.if-line-lines.false in
    let is = c.lines.ensures in
    let lt : c.args.line < length c.args.self.now = omega arith in
    c.versions.ensures ∙ count_is c.args.self.now c.args.line lt
