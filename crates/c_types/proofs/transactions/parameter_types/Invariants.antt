use Rattle.std.proofs.Common.{◌≡◌, ◌++◌, map, drop}
use Rattle.c_tree.specs.ItemTree.{ParameterTree, parameter_of}
use Rattle.c_types.specs.Shapes.{is_unsigned}
use Rattle.c_types.proofs.transactions.parameter_types.Given as goal

abbrev pub invariant-loop-parameter : goal.invariant-loop-parameter
invariant-loop-parameter l = l.types
    ++ map (λ (p : ParameterTree). is_unsigned p.ty)
    (map parameter_of (drop l.parameter-index l.parameters))
    ≡ map (λ (p : ParameterTree). is_unsigned p.ty) (map parameter_of l.parameters)
