use Rattle.std.proofs.Common.{◌≡◌, ◌++◌, map, drop}
use Rattle.c_tree.specs.ItemTree.{items_in, function_tree}
use Rattle.c_types.specs.Tables.{function_trees}
use Rattle.c_types.proofs.program.gather_functions.Given as goal

abbrev pub invariant-loop-item : goal.invariant-loop-item
invariant-loop-item l = map function_tree (map (λ f. f.now) l.functions.items)
    ++ function_trees (items_in (drop l.item-index l.items)) ≡ function_trees (items_in l.items)
