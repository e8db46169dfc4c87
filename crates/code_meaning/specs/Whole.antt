-- The total length of a program's code, summed over its functions.
use Rattle.std.specs.Prelude.{ℕ, ◌+◌, List, [], ◌∷◌, length}
use Rattle.ir.specs.declared.function.IrFunction.{IrFunction}

abbrev pub whole : List IrFunction → ℕ
whole [] = 0
whole (u ∷ us) = length u.code + whole us
