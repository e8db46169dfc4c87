use Rattle.std.proofs.Common.{◌≡◌, ◌++◌, map, drop, false}
use Rattle.c_tree.specs.ItemTree.{FunctionTree, function_tree}
use Rattle.c_types.proofs.looking.none_known.Given as goal

abbrev pub invariant-loop : goal.invariant-loop
invariant-loop l = l.none.items
    ++ map (λ (f : FunctionTree). false)
    (map function_tree (map (λ f. f.now) (drop l.index l.functions)))
    ≡ map (λ (f : FunctionTree). false) (map function_tree (map (λ f. f.now) l.functions))
