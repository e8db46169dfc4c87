use Rattle.std.proofs.Common.{drop, length}
use Rattle.std.specs.List.{AllByRecursion}
use Rattle.ir.specs.WellFormed.{IsInstruction}
use Rattle.code_tables.proofs.well_formed.are_instructions.Given as goal

abbrev pub invariant-loop-instruction : goal.invariant-loop-instruction
invariant-loop-instruction l = record {
  sound : AllByRecursion (IsInstruction l.ir l.registers (length l.code))
      (drop l.instruction-index l.code)
      → AllByRecursion (IsInstruction l.ir l.registers (length l.code)) l.code;
  complete : AllByRecursion (IsInstruction l.ir l.registers (length l.code)) l.code
      → AllByRecursion (IsInstruction l.ir l.registers (length l.code))
      (drop l.instruction-index l.code);
}
