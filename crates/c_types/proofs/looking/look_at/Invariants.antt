use Rattle.std.proofs.Common.{◌≡◌, map, drop}
use Rattle.c_tree.specs.ItemTree.{function_tree}
use Rattle.c_types.specs.Broken.{least_from}
use Rattle.c_types.specs.Looking.{looks_broken}
use Rattle.c_types.specs.Views.{tables_in}
use Rattle.c_types.proofs.looking.look_at.Given as goal

abbrev pub invariant-loop-function : goal.invariant-loop-function
invariant-loop-function l =
    least_from l.least (looks_broken (tables_in l.program) l.known
    (map function_tree (map (λ f. f.now) (drop l.function-index l.functions))))
    ≡ least_from l.initial.least (looks_broken (tables_in l.program) l.known
    (map function_tree (map (λ f. f.now) l.functions)))
