use Rattle.std.proofs.Common.{◌≡◌, take}
use Rattle.pool_map.proofs.pool.copied_slots.Given as goal

abbrev pub invariant-loop-slot : goal.invariant-loop-slot
invariant-loop-slot l = l.all.items ≡ take l.slot-index l.slots
