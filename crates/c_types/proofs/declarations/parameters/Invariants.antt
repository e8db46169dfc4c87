use Rattle.std.proofs.Common.{◌≡◌, map, drop}
use Rattle.c_tree.specs.ItemTree.{parameter_of}
use Rattle.c_types.specs.Broken.{least_from}
use Rattle.c_types.specs.Declarations.{parameters_broken, scopes_after_parameters}
use Rattle.c_types.specs.Views.{tables_in}
use Rattle.c_types.proofs.declarations.parameters.Given as goal

abbrev pub invariant-loop-parameter : goal.invariant-loop-parameter
invariant-loop-parameter l = record {
  at_index : l.at ≡ l.parameter-index;
  after : scopes_after_parameters (tables_in l.program) l.scopes
      (map parameter_of (drop l.parameter-index l.parameters)) ≡ scopes_after_parameters
      (tables_in l.program) l.initial.scopes (map parameter_of l.parameters);
  told_so : least_from l.least (parameters_broken (tables_in l.program) l.scopes l.at
      (map parameter_of (drop l.parameter-index l.parameters))) ≡ least_from l.initial.least
      (parameters_broken (tables_in l.program) l.initial.scopes 0 (map parameter_of l.parameters));
}
