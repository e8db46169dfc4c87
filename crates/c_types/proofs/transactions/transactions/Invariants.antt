use Rattle.std.proofs.Common.{◌≡◌, ◌++◌, map, drop}
use Rattle.c_tree.specs.ItemTree.{function_tree}
use Rattle.c_types.specs.Shapes.{transactions_in}
use Rattle.c_types.specs.Transactions.{entry_of}
use Rattle.c_types.proofs.transactions.transactions.Given as goal

abbrev pub invariant-loop-function : goal.invariant-loop-function
invariant-loop-function l = l.all.items
    ++ map entry_of (transactions_in
    (map function_tree (map (λ f. f.now) (drop l.function-index l.functions))))
    ≡ map entry_of (transactions_in (map function_tree (map (λ f. f.now) l.functions)))
