use Rattle.std.proofs.Common.{◌≡◌, map, drop}
use Rattle.c_tree.specs.ItemTree.{function_tree}
use Rattle.c_types.specs.Broken.{least_from}
use Rattle.c_types.specs.Declarations.{functions_broken}
use Rattle.c_types.specs.Views.{tables_in}
use Rattle.c_types.proofs.declarations.functions.Given as goal

abbrev pub invariant-loop-function : goal.invariant-loop-function
invariant-loop-function l = record {
  at_index : l.at ≡ l.function-index;
  told_so : least_from l.least (functions_broken (tables_in l.program) l.at
      (map function_tree (map (λ f. f.now) (drop l.function-index l.functions))))
      ≡ least_from l.initial.least (functions_broken (tables_in l.program) 0
      (map function_tree (map (λ f. f.now) l.functions)));
}
