use Rattle.std.proofs.Common.{◌≡◌, ◌++◌, drop, map}
use Rattle.c_tree.specs.StmtTree.{statements_in}
use Rattle.c_tree.specs.ItemTree.{parameter_of}
use Rattle.trap_line.specs.Spots.{parameters_spots}
use Rattle.trap_line.proofs.functions.push_parameters.Given as goal

abbrev pub invariant-loop-parameter : goal.invariant-loop-parameter
invariant-loop-parameter l =
    l.spots ++ parameters_spots (statements_in l.function.body.items)
    (map parameter_of (drop l.parameter-index l.function.parameters.items))
    ≡ l.initial.spots ++ parameters_spots (statements_in l.function.body.items)
    (map parameter_of l.function.parameters.items)
