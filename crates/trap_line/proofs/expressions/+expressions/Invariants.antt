use Rattle.std.proofs.Common.{◌≡◌, ◌++◌, drop}
use Rattle.c_tree.specs.ExprTree.{arguments_in}
use Rattle.trap_line.specs.Spots.{arguments_spots}
use Rattle.trap_line.proofs.expressions.+expressions.Given as goal

abbrev pub invariant-push_arguments-loop-argument : goal.invariant-push_arguments-loop-argument
invariant-push_arguments-loop-argument l =
    l.spots ++ arguments_spots (arguments_in (drop l.argument-index l.arguments))
    ≡ l.initial.spots ++ arguments_spots (arguments_in l.arguments)
