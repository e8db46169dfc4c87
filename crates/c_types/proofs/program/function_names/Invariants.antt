use Rattle.std.proofs.Common.{◌≡◌, ◌++◌, map, drop}
use Rattle.c_tree.specs.ItemTree.{FunctionTree, function_tree}
use Rattle.c_types.proofs.program.function_names.Given as goal

abbrev pub invariant-loop-function : goal.invariant-loop-function
invariant-loop-function l = l.names ++ map (λ (f : FunctionTree). f.name.text)
    (map function_tree (map (λ f. f.now) (drop l.function-index l.functions)))
    ≡ map (λ (f : FunctionTree). f.name.text) (map function_tree (map (λ f. f.now) l.functions))
