use Rattle.std.proofs.Common.{◌≡◌, ◌++◌, map, take, drop}
use Rattle.cache_model.specs.inside.Lists.{list_fence}
use Rattle.cache_model.proofs.cache.fence_all.Given as goal

abbrev pub invariant-loop-line : goal.invariant-loop-line
invariant-loop-line l = l.line-items ≡ map list_fence (take l.line-index l.initial.line-items)
    ++ drop l.line-index l.initial.line-items
