use Rattle.std.proofs.Common.{[], ◌≡◌, drop}
use Rattle.walk_maker.specs.inside.Marked.{all_marked}
use Rattle.walk_maker.proofs.shared.marked_among.Given as goal

abbrev pub invariant-loop-site : goal.invariant-loop-site
invariant-loop-site l =
    all_marked l.table (drop l.site-index l.sites) l.marked ≡ all_marked l.table l.sites []
