use Rattle.std.proofs.Common.{◌≡◌, drop}
use Rattle.c_tree.specs.ExprTree.{arguments_in}
use Rattle.c_types.specs.Looking.{arguments_store}
use Rattle.c_types.specs.Views.{tables_in}
use Rattle.c_types.proofs.looking.+storing_values.Given as goal

abbrev pub invariant-arguments_store-loop-argument : goal.invariant-arguments_store-loop-argument
invariant-arguments_store-loop-argument l =
    arguments_store (tables_in l.program) l.known (arguments_in (drop l.argument-index l.all))
    ≡ arguments_store (tables_in l.program) l.known (arguments_in l.all)
