use Rattle.std.proofs.Common.{rules}
use Rattle.walk_maker.specs.inside.Search as search
use Rattle.walk_maker.proofs.Found.{searched_on}
use Rattle.walk_maker.proofs.search.find_start.Goals as goal

pub returns : goal.returns
returns c =
    let part : search.Stopped c.args.ir.now 0 (search.state c.args.table.now c.args.passed.now)
    (search.state c.seek.new.table c.seek.new.passed) = search rules in
    searched_on c.args.ir.now _ _ (search.state c.sweep_on.new.table c.sweep_on.new.passed)
    c.sweep_on.result part c.sweep_on.ensures
