use Rattle.std.proofs.Common.{◌≡◌, drop}
use Rattle.c_tree.specs.StmtTree.{statements_in}
use Rattle.lower.specs.Assigned.{is_assigned}
use Rattle.lower.proofs.assigned.+assigned.Given as goal

abbrev pub invariant-is_assigned-loop-stmt : goal.invariant-is_assigned-loop-stmt
invariant-is_assigned-loop-stmt l =
    is_assigned l.name (statements_in (drop l.stmt-index l.all)) ≡ is_assigned l.name
    (statements_in l.all)
