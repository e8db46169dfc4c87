use Rattle.std.proofs.Common.{◌≡◌, drop}
use Rattle.pm_machine.specs.Checked.{most_registers}
use Rattle.c_file.proofs.program.most_registers.Given as goal

abbrev pub invariant-loop-function : goal.invariant-loop-function
invariant-loop-function l =
    most_registers l.most (drop l.function-index l.functions) ≡ most_registers 0 l.functions
