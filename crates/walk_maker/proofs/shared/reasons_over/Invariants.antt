use Rattle.std.proofs.Common.{◌≡◌, ◌++◌, drop}
use Rattle.walk_maker.specs.inside.Marked.{sites_in}
use Rattle.walk_maker.proofs.shared.reasons_over.Given as goal

abbrev pub invariant-loop-site : goal.invariant-loop-site
invariant-loop-site l = sites_in l.reasons ++ drop l.site-index l.marked ≡ l.marked
