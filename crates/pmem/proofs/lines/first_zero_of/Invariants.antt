use Rattle.std.proofs.Common.{ℕ, ◌<◌, ◌+◌, ◌*◌, ◌≢◌, pos}
use Rattle.cache_model.specs.Cache.{view}
use Rattle.cache_model.specs.Lists.{memory_from}
use Rattle.pmem.proofs.lines.first_zero_of.Given as goal

abbrev pub invariant-loop-n : goal.invariant-loop-n
invariant-loop-n l =
    (i : ℕ) → i < l.n → view (memory_from l.cache).cache (l.word + l.apart * i) ≢ pos 0
