-- No place of the emitted code of a program that is well formed breaks a rule of the machine.
use Rattle.std.specs.Prelude.{◌≡◌, None}
use Rattle.pool_layout.specs.declared.limits.Sizes.{Sizes}
use Rattle.ir.specs.declared.function.Ir.{Ir}
use Rattle.ir.specs.WellFormed.{IsWellFormed}
use Rattle.pm_machine.specs.Checked.{bad_of}
use Rattle.codegen.specs.Emit.{functions_of}

abbrev pub EmitsGood : Type 0
EmitsGood = (s : Sizes) (program : Ir) → IsWellFormed program
    → bad_of (functions_of s program) 0 (functions_of s program) ≡ None
