-- Each function of a program is short enough for its logs: it has fewer than 2^30 instructions.
use Rattle.std.specs.Prelude.{◌^◌, ◌<◌, length}
use Rattle.std.specs.List.{AllByRecursion}
use Rattle.ir.specs.declared.function.IrFunction.{IrFunction}
use Rattle.ir.specs.declared.function.Ir.{Ir}

abbrev pub IsShort : Ir → Type 0
IsShort ir = AllByRecursion (λ (u : IrFunction). length u.code < 2 ^ 30) ir.functions
