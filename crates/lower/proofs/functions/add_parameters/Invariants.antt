use Rattle.std.proofs.Common.{◌≡◌, ◌++◌, length, drop, map}
use Rattle.c_tree.specs.StmtTree.{statements_in}
use Rattle.c_tree.specs.ItemTree.{parameter_of}
use Rattle.lower.specs.inside.Added.{context_of}
use Rattle.lower.specs.Program.{parameters_end, parameters_code, variables_after_parameters}
use Rattle.lower.proofs.functions.add_parameters.Given as goal

abbrev pub invariant-loop-parameter : goal.invariant-loop-parameter
invariant-loop-parameter l = record {
  at_index : l.number ≡ l.parameter-index;
  code : l.code ++ parameters_code (context_of l.source) (statements_in l.function.body.items)
      l.number (map parameter_of (drop l.parameter-index l.function.parameters.items))
      (length l.code)
      ≡ l.initial.code ++ parameters_code (context_of l.source)
      (statements_in l.function.body.items) 0 (map parameter_of l.function.parameters.items)
      (length l.initial.code);
  long : parameters_end (statements_in l.function.body.items)
      (map parameter_of (drop l.parameter-index l.function.parameters.items)) (length l.code)
      ≡ parameters_end (statements_in l.function.body.items)
      (map parameter_of l.function.parameters.items) (length l.initial.code);
  seen : variables_after_parameters (context_of l.source) (statements_in l.function.body.items)
      l.number (map parameter_of (drop l.parameter-index l.function.parameters.items))
      (length l.code)
      l.variables
      ≡ variables_after_parameters (context_of l.source) (statements_in l.function.body.items) 0
      (map parameter_of l.function.parameters.items) (length l.initial.code) l.initial.variables;
}
