use Rattle.std.proofs.Common.{◌≡◌, ◌+◌, ◌++◌, drop, IfSome}
use Rattle.std.specs.List.{AllByRecursion}
use Rattle.pool_map.specs.PoolFits.{ObjectFits}
use Rattle.pool_map.specs.PoolText.{slot_lines}
use Rattle.pool_map.proofs.show.push_slots.Given as goal

abbrev pub invariant-loop-object : goal.invariant-loop-object
invariant-loop-object l = (l.slot ≡ l.object-index + 1)
    × AllByRecursion (λ slot. IfSome slot (ObjectFits l.structs)) (drop l.object-index l.slots)
    × (l.text ++ slot_lines l.structs l.slot (drop l.object-index l.slots) ≡ l.initial.text
    ++ slot_lines l.structs 1 l.slots)
