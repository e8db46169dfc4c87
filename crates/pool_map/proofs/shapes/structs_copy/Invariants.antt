use Rattle.std.proofs.Common.{◌≡◌, take}
use Rattle.pool_map.proofs.shapes.structs_copy.Given as goal

abbrev pub invariant-loop-shape : goal.invariant-loop-shape
invariant-loop-shape l = l.copy ≡ take l.shape-index l.shape-items
