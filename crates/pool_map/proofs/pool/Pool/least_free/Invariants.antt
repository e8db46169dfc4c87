use Rattle.std.proofs.Common.{◌≡◌, ◌+◌, drop}
use Rattle.pool_map.specs.PoolMap.{first_free}
use Rattle.pool_map.proofs.pool.Pool.least_free.Given as goal

abbrev pub invariant-loop-object : goal.invariant-loop-object
invariant-loop-object l =
    (l.slot ≡ l.object-index + 1) × (first_free l.slot (drop l.object-index l.object-items)
    ≡ first_free 1 l.object-items)
