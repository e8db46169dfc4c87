use Rattle.std.proofs.Common.{◌≡◌, drop, map}
use Rattle.c_tree.specs.ItemTree.{field_tree}
use Rattle.cnvm_session.specs.Former as former_is
use Rattle.cnvm_session.proofs.former.are_same_fields.Given as goal

-- all are the same if those that are left are
abbrev pub invariant-loop-at : goal.invariant-loop-at
invariant-loop-at l =
    former_is.are_same_fields (map field_tree (drop l.at l.former))
    (map field_tree (drop l.at l.new))
    ≡ former_is.are_same_fields (map field_tree l.former) (map field_tree l.new)
