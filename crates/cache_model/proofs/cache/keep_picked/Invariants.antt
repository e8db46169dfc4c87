use Rattle.std.proofs.Common.{◌≡◌, length, drop}
use Rattle.cache_model.specs.Lists.{IsWhole}
use Rattle.cache_model.specs.inside.Lists.{list_picked, AreIn}
use Rattle.cache_model.proofs.cache.keep_picked.Given as goal

abbrev pub invariant-loop-pick : goal.invariant-loop-pick
invariant-loop-pick l =
    (list_picked l.lines.items (drop l.pick-index l.picks)
    ≡ list_picked l.initial.lines.items l.picks)
    × AreIn (length l.lines.items) (drop l.pick-index l.picks)
    × IsWhole l.lines.items
