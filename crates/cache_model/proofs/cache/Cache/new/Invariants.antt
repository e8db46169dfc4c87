use Rattle.std.proofs.Common.{◌≡◌, replicate}
use Rattle.cache_model.specs.inside.Lists.{zero_list}
use Rattle.cache_model.proofs.cache.Cache.new.Given as goal

abbrev pub invariant-loop : goal.invariant-loop
invariant-loop l = l.all.items ≡ replicate l.counter zero_list
