use Rattle.std.proofs.Common.{◌≡◌, take}
use Rattle.ir.proofs.instruction.registers_copy.Given as goal

abbrev pub invariant-loop-register : goal.invariant-loop-register
invariant-loop-register l = l.copy ≡ take l.register-index l.register-items
