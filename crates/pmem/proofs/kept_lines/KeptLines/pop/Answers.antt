use Rattle.std.proofs.Common.{◌≡◌, ◌++◌, ◌+◌, length, option_to_list, sym, ◌∙◌}
use Rattle.std.proofs.Common.{subst, rules}
use Rattle.pmem.specs.inside.Placed.{ArePlaced}
use Rattle.pmem.proofs.Placed.{pop_some, pop_each}
use Rattle.pmem.proofs.kept_lines.KeptLines.pop.Goals as goal

pub returns-clause-some : goal.returns-clause-some
returns-clause-some c =
    let is : c.args.self.now ≡ c.pop.new.self.items ++ option_to_list c.pop.result =
    sym c.self.view_is ∙ c.pop.ensures.items in
    let len : length c.pop.new.self.items + length (option_to_list c.pop.result)
    ≡ length c.args.self.now = search rules in
    pop_some c.self.inside.places.items c.args.self.now c.pop.new.self.items c.pop.result
    (subst (ArePlaced c.self.inside.places.items) c.self.view_is c.self.invariant) is len

pub returns-clause-gone : goal.returns-clause-gone
returns-clause-gone c =
    let is : c.args.self.now ≡ c.pop.new.self.items ++ option_to_list c.pop.result =
    sym c.self.view_is ∙ c.pop.ensures.items in
    pop_each c.self.inside.places.items c.args.self.now c.pop.new.self.items c.pop.result
    (subst (ArePlaced c.self.inside.places.items) c.self.view_is c.self.invariant) is
