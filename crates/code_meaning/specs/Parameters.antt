-- The register that an instruction assigns, and code that never assigns parameters: no instruction
-- assigns a register below its function's number of parameters.
use Rattle.std.specs.Prelude.{◌≡◌, ◌≤◌, ℕ, List, Option, None, Some, slice_get}
use Rattle.ir.specs.declared.instruction.Instruction.{Instruction}
use Rattle.ir.specs.declared.instruction.Instruction.TheVariants.{Const, Copy, Bin, Jump, Branch}
use Rattle.ir.specs.declared.instruction.Instruction.TheVariants.{Load, Store, New, Free, Call}
use Rattle.ir.specs.declared.instruction.Instruction.TheVariants.{Return, Tick, Trap, Log}
use Rattle.ir.specs.declared.function.IrFunction.{IrFunction}

abbrev pub assigned_register : Instruction → Option ℕ
assigned_register (Const to value) = Some to
assigned_register (Copy to from) = Some to
assigned_register (Bin op to left right) = Some to
assigned_register (Load to target) = Some to
assigned_register (New to kind log_fill line) = Some to
assigned_register (Call to function args) = Some to
assigned_register (Jump place) = None
assigned_register (Branch on place) = None
assigned_register (Store target from line) = None
assigned_register (Free from kind line) = None
assigned_register (Return from) = None
assigned_register Tick = None
assigned_register (Trap kind) = None
assigned_register (Log target) = None

abbrev pub KeepsParameters : List IrFunction → Type 0
KeepsParameters functions = (f p : ℕ) (u : IrFunction) (i : Instruction) (r : ℕ)
    → slice_get functions f ≡ Some u → slice_get u.code p ≡ Some i → assigned_register i ≡ Some r
    → u.parameters ≤ r
