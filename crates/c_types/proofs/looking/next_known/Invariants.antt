use Rattle.std.proofs.Common.{◌≡◌, ◌++◌, map, drop}
use Rattle.c_tree.specs.ItemTree.{FunctionTree, function_tree}
use Rattle.c_types.specs.Looking.{statements_store}
use Rattle.c_types.specs.Views.{tables_in}
use Rattle.c_types.proofs.looking.next_known.Given as goal

abbrev pub invariant-loop-function : goal.invariant-loop-function
invariant-loop-function l = l.next.items
    ++ map (λ (f : FunctionTree). statements_store (tables_in l.program) l.known f.body)
    (map function_tree (map (λ f. f.now) (drop l.function-index l.functions)))
    ≡ map (λ (f : FunctionTree). statements_store (tables_in l.program) l.known f.body)
    (map function_tree (map (λ f. f.now) l.functions))
