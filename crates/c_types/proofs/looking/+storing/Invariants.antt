use Rattle.std.proofs.Common.{◌≡◌, drop}
use Rattle.c_tree.specs.StmtTree.{statements_in}
use Rattle.c_types.specs.Looking.{statements_store}
use Rattle.c_types.specs.Views.{tables_in}
use Rattle.c_types.proofs.looking.+storing.Given as goal

abbrev pub invariant-statements_store-loop-stmt : goal.invariant-statements_store-loop-stmt
invariant-statements_store-loop-stmt l =
    statements_store (tables_in l.program) l.known (statements_in (drop l.stmt-index l.all))
    ≡ statements_store (tables_in l.program) l.known (statements_in l.all)
