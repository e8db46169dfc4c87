use Rattle.std.proofs.Common.{◌≡◌, drop}
use Rattle.cache_model.specs.Collapse.{bad}
use Rattle.cache_model.specs.Lists.{memory_from}
use Rattle.cache_model.proofs.cache.Cache.bad_pick.Given as goal

abbrev pub invariant-loop-pick : goal.invariant-loop-pick
invariant-loop-pick l = bad (memory_from l.self) (drop l.pick-index l.picks)
    ≡ bad (memory_from l.self) l.picks
