use Rattle.std.proofs.Common.{rules, ◌≡◌, None, Some, length}
use Rattle.std.specs.Prelude.{position}
use Rattle.walk_maker.specs.inside.Search as search
use Rattle.walk_maker.specs.inside.Search.Searched.{found, closed, goes_on}
use Rattle.walk_maker.proofs.search.sweep_on.Goals as goal

pub returns-in-Some : goal.returns-in-Some
returns-in-Some c =
    let is : position (search.is_start c.args.ir.now.functions) c.loop.table
    ≡ Some c.in-Some.number = search rules in
    c.loop.invariant (Some c.in-Some.number) (search.state c.loop.table c.loop.passed) (found is)

pub returns-then-as_slice-pieces : goal.returns-then-as_slice-pieces
returns-then-as_slice-pieces c =
    let none : position (search.is_start c.args.ir.now.functions) c.loop.table ≡ None =
    search rules in
    let swept : search.Swept c.args.ir.now 0 (search.state c.loop.table c.loop.passed)
    (search.state c.sweep.new.table c.sweep.new.passed) = search rules in
    let few : length c.sweep.new.table ≡ length c.loop.table = search rules in
    let less : length c.sweep.new.passed ≡ length c.loop.passed = search rules in
    c.loop.invariant None (search.state c.sweep.new.table c.sweep.new.passed)
    (closed none swept few less)

pub loop-preserved : goal.loop-preserved
loop-preserved c =
    let swept : search.Swept c.args.ir.now 0 (search.state c.loop.table c.loop.passed)
    (search.state c.sweep.new.table c.sweep.new.passed) = search rules in
    λ n end more. c.loop.invariant n end (goes_on swept more)
