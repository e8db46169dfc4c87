-- Code whose constants are words, from -2^63 to 2^63 - 1.
use Rattle.std.specs.Prelude.{◌≡◌, ℕ, List, Some, ℤ}
use Rattle.nvm_base.specs.Wrap.{IsWord}
use Rattle.ir.specs.declared.function.IrFunction.{IrFunction}
use Rattle.ir.specs.declared.instruction.Instruction.TheVariants.{Const}
use Rattle.ir.specs.Places.{instruction_at}

abbrev pub HasWordConstants : List IrFunction → Type 0
HasWordConstants functions = (f p to : ℕ) (v : ℤ) → instruction_at functions f p ≡ Some (Const to v)
    → IsWord v
