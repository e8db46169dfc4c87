use Rattle.std.proofs.Common.{rules, ◌≡◌, length, subst, sym}
use Rattle.walk_maker.specs.inside.Buckets.{bucket_of, number_or_other, IsPast}
use Rattle.walk_maker.proofs.Chained.{past_last}
use Rattle.walk_maker.proofs.table.has_chained.Goals as goal

pub loop-init : goal.loop-init
loop-init c =
    let from : c.number_at-at.result
    ≡ number_or_other c.args.lasts.now (bucket_of (length c.args.lasts.now) c.args.entry)
    (length c.args.all.now) = search rules in
    subst (λ n. IsPast c.args.all.now c.args.entry n) (sym from)
    (past_last (length c.args.lasts.now) c.args.all.now c.args.lasts.now c.args.befores.now
    c.args.entry c.requires)
