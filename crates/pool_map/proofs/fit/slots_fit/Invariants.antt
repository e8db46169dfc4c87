use Rattle.std.proofs.Common.{◌≡◌, drop}
use Rattle.std.specs.List.{list_all}
use Rattle.pool_map.specs.inside.PoolFits.{slot_fits}
use Rattle.pool_map.proofs.fit.slots_fit.Given as goal

abbrev pub invariant-loop-slot : goal.invariant-loop-slot
invariant-loop-slot l = list_all (slot_fits l.structs) (drop l.slot-index l.slots)
    ≡ list_all (slot_fits l.structs) l.slots
