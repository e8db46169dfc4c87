use Rattle.std.proofs.Common.{◌≡◌, drop}
use Rattle.std.specs.Prelude.{nat_lt}
use Rattle.std.specs.List.{list_all}
use Rattle.codegen.proofs.names.are_below.Given as goal

abbrev pub invariant-loop-register : goal.invariant-loop-register
invariant-loop-register l = list_all (λ a. nat_lt a l.count) (drop l.register-index l.registers)
    ≡ list_all (λ a. nat_lt a l.count) l.registers
