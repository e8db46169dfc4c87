use Rattle.std.proofs.Common.{◌≡◌, ◌++◌, drop}
use Rattle.c_tree.specs.ItemTree.{items_in}
use Rattle.c_types.specs.Tables.{structs_of}
use Rattle.c_types.proofs.program.gather_structs.Given as goal

abbrev pub invariant-loop-item : goal.invariant-loop-item
invariant-loop-item l = l.structs.items ++ structs_of (items_in (drop l.item-index l.items))
    ≡ structs_of (items_in l.items)
