use Rattle.std.proofs.Common.{◌≡◌, map, drop}
use Rattle.c_tree.specs.ItemTree.{function_tree}
use Rattle.c_types.specs.Views.{tables_in}
use Rattle.c_meaning.specs.Transaction.{transaction, transaction_in}
use Rattle.interpreter.proofs.interpreter.transaction.Given as goal

abbrev pub invariant-loop-function : goal.invariant-loop-function
invariant-loop-function l =
    transaction_in l.left (map function_tree
    (map (λ f. f.now) (drop l.function-index l.function-items)))
    ≡ transaction (tables_in l.program) l.tx
