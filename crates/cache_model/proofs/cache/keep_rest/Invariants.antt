use Rattle.std.proofs.Common.{◌≡◌, ◌++◌, map, take, drop}
use Rattle.cache_model.specs.Lists.{IsWhole}
use Rattle.cache_model.specs.inside.Lists.{list_rest}
use Rattle.cache_model.proofs.cache.keep_rest.Given as goal

abbrev pub invariant-loop-line : goal.invariant-loop-line
invariant-loop-line l =
    (l.line-items ≡ map (list_rest l.rest) (take l.line-index l.initial.line-items)
    ++ drop l.line-index l.initial.line-items) × IsWhole l.line-items
