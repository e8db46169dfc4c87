use Rattle.std.proofs.Common.{◌≡◌, ◌++◌, drop, map}
use Rattle.std.specs.List.{AllByRecursion}
use Rattle.c_tree.specs.ItemTree.{function_tree}
use Rattle.c_types.specs.Views.{tables_in}
use Rattle.lower.specs.Program.{lowered_function}
use Rattle.lower.specs.inside.Program.{IsCounted, TakesFew}
use Rattle.lower.proofs.functions.lower_functions.Given as goal

abbrev pub invariant-loop-function : goal.invariant-loop-function
invariant-loop-function l = record {
  few : AllByRecursion TakesFew
      (map function_tree (map (λ f. f.now) (drop l.function-index l.functions)));
  code : l.lowered ++ map (lowered_function (tables_in l.program) l.ast)
      (map function_tree (map (λ f. f.now) (drop l.function-index l.functions)))
      ≡ map (lowered_function (tables_in l.program) l.ast)
      (map function_tree (map (λ f. f.now) l.functions));
  counted : AllByRecursion (IsCounted (tables_in l.program) l.ast)
      (map function_tree (map (λ f. f.now) (drop l.function-index l.functions)))
      → AllByRecursion (IsCounted (tables_in l.program) l.ast)
      (map function_tree (map (λ f. f.now) l.functions));
}
