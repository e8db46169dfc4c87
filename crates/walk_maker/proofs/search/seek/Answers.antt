use Rattle.std.proofs.Common.{rules, ◌≡◌, ◌+◌, Some, subst}
use Rattle.std.specs.Prelude.{slice_get}
use Rattle.walk_maker.specs.inside.Search as search
use Rattle.walk_maker.specs.inside.Search.Stopped.{stops, goes_past}
use Rattle.walk_maker.proofs.search.seek.Goals as goal

pub returns-in-None : goal.returns-in-None
returns-in-None c =
    c.loop-number.invariant (search.state c.loop-number.table c.loop-number.passed) stops

pub returns-then-is_start : goal.returns-then-is_start
returns-then-is_start c =
    c.loop-number.invariant (search.state c.loop-number.table c.loop-number.passed) stops

pub loop-number-preserved : goal.loop-number-preserved
loop-number-preserved c =
    let is : slice_get c.loop-number.table c.loop-number.number ≡ Some c.in-Some.entry =
    search rules in
    let after : search.state c.expand.new.table c.expand.new.passed
    ≡ search.expanded c.args.ir.now (search.later_at c.loop-number.number c.in-Some.entry)
    (search.state c.loop-number.table c.loop-number.passed) = search rules in
    λ end more. c.loop-number.invariant end (goes_past is
    (subst (λ s. search.Stopped c.args.ir.now (c.loop-number.number + 1) s end) after more))
