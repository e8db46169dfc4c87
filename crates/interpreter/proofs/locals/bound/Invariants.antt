use Rattle.std.proofs.Common.{◌≡◌, [], map, drop}
use Rattle.c_tree.specs.ItemTree.{parameter_of}
use Rattle.c_types.specs.Views.{tables_in}
use Rattle.c_meaning.specs.Locals.{bound}
use Rattle.interpreter.proofs.locals.bound.Given as goal

abbrev pub invariant-loop-parameter : goal.invariant-loop-parameter
invariant-loop-parameter l =
    bound (tables_in l.program) (map parameter_of (drop l.parameter-index l.parameters))
    l.left l.locals
    ≡ bound (tables_in l.program) (map parameter_of l.parameters) l.arguments []
