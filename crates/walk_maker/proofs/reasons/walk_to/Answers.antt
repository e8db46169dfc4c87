use Rattle.std.proofs.Common.{rules, None, [], ◌∷◌}
use Rattle.walk_maker.specs.inside.Search as search
use Rattle.walk_maker.proofs.Found.{Goal, found_none}
use Rattle.walk_maker.proofs.reasons.walk_to.Goals as goal

pub returns-in-None : goal.returns-in-None
returns-in-None c =
    let searched : search.Searched c.args.ir.now (search.state
    (Goal c.args.ir.now c.requires.well c.args.site c.args.fact ∷ []) c.args.passed.now) None
    (search.state c.find_start.new.table c.find_start.new.passed) = search rules in
    found_none c.args.ir.now c.requires.well c.args.site c.args.fact c.find_start.new.table
    c.args.passed.now c.find_start.new.passed c.requires.there c.requires.passing searched
