use Rattle.std.proofs.Common.{◌≡◌, drop}
use Rattle.c_types.specs.Broken.{least_from}
use Rattle.c_types.specs.Declarations.{structs_broken}
use Rattle.c_types.specs.Views.{tables_in}
use Rattle.c_types.proofs.declarations.structs.Given as goal

abbrev pub invariant-loop-layout : goal.invariant-loop-layout
invariant-loop-layout l = record {
  at_index : l.at ≡ l.layout-index;
  told_so : least_from l.least (structs_broken (tables_in l.program) l.at
      (drop l.layout-index l.structs)) ≡ least_from l.initial.least
      (structs_broken (tables_in l.program) 0 l.structs);
}
