use Rattle.std.proofs.Common.{◌≡◌, ◌++◌, drop}
use Rattle.c_tree.specs.StmtTree.{statements_in}
use Rattle.trap_line.specs.Spots.{statements_spots}
use Rattle.trap_line.proofs.statements.+statements.Given as goal

abbrev pub invariant-push_statements-loop-stmt : goal.invariant-push_statements-loop-stmt
invariant-push_statements-loop-stmt l =
    l.spots ++ statements_spots (statements_in (drop l.stmt-index l.all))
    ≡ l.initial.spots ++ statements_spots (statements_in l.all)
