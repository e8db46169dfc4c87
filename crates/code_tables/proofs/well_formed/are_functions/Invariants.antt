use Rattle.std.proofs.Common.{drop}
use Rattle.std.specs.List.{AllByRecursion}
use Rattle.ir.specs.WellFormed.{IsFunction}
use Rattle.code_tables.proofs.well_formed.are_functions.Given as goal

abbrev pub invariant-loop-function : goal.invariant-loop-function
invariant-loop-function l = record {
  sound : AllByRecursion (IsFunction l.ir) (drop l.function-index l.functions)
      → AllByRecursion (IsFunction l.ir) l.functions;
  complete : AllByRecursion (IsFunction l.ir) l.functions
      → AllByRecursion (IsFunction l.ir) (drop l.function-index l.functions);
}
