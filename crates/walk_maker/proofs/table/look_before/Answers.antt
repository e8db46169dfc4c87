use Rattle.std.proofs.Common.{rules, ◌≡◌, ◌-◌, true, false, None, Some, slice_get, subst, sym}
use Rattle.walk_maker.specs.inside.Table.{same_spot}
use Rattle.walk_maker.specs.inside.Buckets.{bucket_of, IsPast}
use Rattle.walk_maker.proofs.Chained.{none_left, past_none, one_there, past_bucket, past_one}
use Rattle.walk_maker.proofs.table.look_before.Goals as goal

pub returns-then-at-eq0 : goal.returns-then-at-eq0
returns-then-at-eq0 c =
    let none : c.args.at ≡ 0 = search rules in
    none_left c.args.all.now c.args.entry
    (subst (λ n. IsPast c.args.all.now c.args.entry n) none c.requires.past)

pub returns-in_default : goal.returns-in_default
returns-in_default c =
    let none : slice_get c.args.all.now (c.args.at - 1) ≡ None = search rules in
    past_none c.args.all.now c.args.entry c.args.at none c.requires.past

pub returns-then-same_spot : goal.returns-then-same_spot
returns-then-same_spot c =
    let is : slice_get c.args.all.now (c.args.at - 1) ≡ Some c.in-Some.known = search rules in
    let same : same_spot c.in-Some.known c.args.entry ≡ true = search rules in
    one_there c.args.all.now c.args.entry c.in-Some.known (c.args.at - 1) is same

pub returns-then-bucket_of : goal.returns-then-bucket_of
returns-then-bucket_of c =
    let is : slice_get c.args.all.now (c.args.at - 1) ≡ Some c.in-Some.known = search rules in
    let other : same_spot c.in-Some.known c.args.entry ≡ false = search rules in
    let bucket : bucket_of c.args.count c.in-Some.known ≡ bucket_of c.args.count c.args.entry =
    search rules in
    subst (λ n. IsPast c.args.all.now c.args.entry n) (sym c.number_at.ensures)
    (past_bucket c.args.all.now c.args.count c.args.befores.now c.args.entry c.in-Some.known
    c.args.at
    c.requires.befores is other bucket c.requires.past)

pub returns-else-bucket_of : goal.returns-else-bucket_of
returns-else-bucket_of c =
    let is : slice_get c.args.all.now (c.args.at - 1) ≡ Some c.in-Some.known = search rules in
    let other : same_spot c.in-Some.known c.args.entry ≡ false = search rules in
    past_one c.args.all.now c.args.entry c.in-Some.known c.args.at is other c.requires.past
