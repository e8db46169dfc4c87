use Rattle.std.proofs.Common.{◌≡◌, pos, replicate}
use Rattle.pool_map.proofs.object.zeros.Given as goal

abbrev pub invariant-loop : goal.invariant-loop
invariant-loop l = l.all ≡ replicate l.counter (pos 0)
