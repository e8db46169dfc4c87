use Rattle.std.proofs.Common.{◌≡◌, drop, map}
use Rattle.std.specs.Prelude.{◌&&◌}
use Rattle.c_tree.specs.ExprTree.{arguments_in}
use Rattle.c_tree.specs.ItemTree.{parameter_of}
use Rattle.c_types.specs.Broken.{least_from}
use Rattle.c_types.specs.Expressions.{all_taken, broken_in_all}
use Rattle.c_types.specs.Views.{tables_in}
use Rattle.c_types.proofs.expressions.+expressions.Given as goal

abbrev pub invariant-pass-loop-argument : goal.invariant-pass-loop-argument
invariant-pass-loop-argument l = record {
  at_index : l.at ≡ l.argument-index;
  taken : (l.passed && all_taken (tables_in l.program) l.scopes (map parameter_of l.parameters) l.at
      (arguments_in (drop l.argument-index l.arguments)))
      ≡ all_taken (tables_in l.program) l.scopes (map parameter_of l.parameters) 0
      (arguments_in l.arguments);
  told_so : least_from l.least (broken_in_all (tables_in l.program) l.scopes
      (map parameter_of l.parameters) l.at (arguments_in (drop l.argument-index l.arguments)))
      ≡ least_from l.initial.least (broken_in_all (tables_in l.program) l.scopes
      (map parameter_of l.parameters) 0 (arguments_in l.arguments));
}
