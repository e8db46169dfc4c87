use Rattle.std.proofs.Common.{◌<◌, drop}
use Rattle.std.specs.List.{AllByRecursion}
use Rattle.code_tables.proofs.well_formed.are_below.Given as goal

abbrev pub invariant-loop-arg : goal.invariant-loop-arg
invariant-loop-arg l = record {
  sound : AllByRecursion (λ a. a < l.registers) (drop l.arg-index l.args)
      → AllByRecursion (λ a. a < l.registers) l.args;
  complete : AllByRecursion (λ a. a < l.registers) l.args
      → AllByRecursion (λ a. a < l.registers) (drop l.arg-index l.args);
}
