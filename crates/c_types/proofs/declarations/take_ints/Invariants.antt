use Rattle.std.proofs.Common.{◌≡◌, map, drop}
use Rattle.c_tree.specs.ItemTree.{parameter_of}
use Rattle.c_types.specs.Declarations.{all_ints}
use Rattle.c_types.specs.Views.{tables_in}
use Rattle.c_types.proofs.declarations.take_ints.Given as goal

abbrev pub invariant-loop-parameter : goal.invariant-loop-parameter
invariant-loop-parameter l = all_ints (tables_in l.program)
    (map parameter_of (drop l.parameter-index l.parameters)) ≡ all_ints (tables_in l.program)
    (map parameter_of l.parameters)
