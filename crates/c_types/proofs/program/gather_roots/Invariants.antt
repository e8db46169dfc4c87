use Rattle.std.proofs.Common.{◌≡◌, ◌++◌, map, drop}
use Rattle.c_tree.specs.ItemTree.{items_in}
use Rattle.c_types.specs.Tables.{roots_of}
use Rattle.c_types.specs.Views.{root_of}
use Rattle.c_types.proofs.program.gather_roots.Given as goal

abbrev pub invariant-loop-item : goal.invariant-loop-item
invariant-loop-item l = map (λ r. root_of r.now) l.roots.items
    ++ roots_of (items_in (drop l.item-index l.items)) ≡ roots_of (items_in l.items)
