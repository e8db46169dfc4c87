use Rattle.std.proofs.Common.{rules, ◌≡◌, ◌+◌, ◌++◌, ◌∷◌, [], length, slice_set, subst, sym, ◌∙◌}
use Rattle.std.proofs.Common.{ap}
use Rattle.walk_maker.specs.inside.Buckets.{bucket_of, number_or_other, IsNotedAt, IsChained}
use Rattle.walk_maker.proofs.Chained.{pushed, length_set}
use Rattle.walk_maker.proofs.table.put.Goals as goal

pub returns-clause-chained : goal.returns-clause-chained
returns-clause-chained c =
    let t = c.args.all.now in
    let count = length c.args.lasts.now in
    let same : c.as_slice-count.result.now ≡ t = search rules in
    let all_is : c.push.new.self ≡ t ++ c.args.entry ∷ [] = search rules in
    let h_is : c.number_at-last.result
    ≡ number_or_other c.args.lasts.now (bucket_of count c.args.entry) (length t) = search rules in
    let kept : IsNotedAt c.args.befores.now (length t) c.number_at-last.result
    c.keep_at.new.numbers =
    subst (λ xs. IsNotedAt c.args.befores.now (length xs) c.number_at-last.result
    c.keep_at.new.numbers) same c.keep_at.ensures in
    let ends_is : c.write_at.new.numbers
    ≡ slice_set c.args.lasts.now (bucket_of count c.args.entry) (length t + 1) = search rules in
    let so_many : length c.write_at.new.numbers ≡ count =
    ap length ends_is ∙ length_set c.args.lasts.now (bucket_of count c.args.entry) (length t + 1) in
    subst (λ n. IsChained n c.push.new.self c.write_at.new.numbers c.keep_at.new.numbers)
    (sym so_many) (pushed count t c.push.new.self c.args.lasts.now c.write_at.new.numbers
    c.args.befores.now c.keep_at.new.numbers c.args.entry c.number_at-last.result c.requires all_is
    h_is kept ends_is)
