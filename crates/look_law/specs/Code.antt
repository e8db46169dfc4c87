-- Intermediate code that only looks: it has no store, no new, no free and no log, and it calls only
-- functions whose code only looks.
use Rattle.std.specs.Prelude.{ℕ, ◌≡◌, Bool, true, false, not, List, Some, slice_get, unwrap_or}
use Rattle.std.specs.List.{AllByRecursion}
use Rattle.ir.specs.declared.instruction.Instruction.{Instruction}
use Rattle.ir.specs.declared.instruction.Instruction.TheVariants.{Const, Copy, Bin, Jump, Branch}
use Rattle.ir.specs.declared.instruction.Instruction.TheVariants.{Load, Store, New, Free, Call}
use Rattle.ir.specs.declared.instruction.Instruction.TheVariants.{Return, Tick, Trap, Log}
use Rattle.ir.specs.declared.function.IrFunction.{IrFunction}

-- looking: which functions only look
abbrev pub instruction_looks : (looking : ℕ → Bool) → Instruction → Bool
instruction_looks looking (Const to value) = true
instruction_looks looking (Copy to from) = true
instruction_looks looking (Bin op to left right) = true
instruction_looks looking (Jump place) = true
instruction_looks looking (Branch on place) = true
instruction_looks looking (Load to target) = true
instruction_looks looking (Store target from line) = false
instruction_looks looking (New to kind log_fill line) = false
instruction_looks looking (Free from kind line) = false
instruction_looks looking (Call to function args) = looking function
instruction_looks looking (Return from) = true
instruction_looks looking Tick = true
instruction_looks looking (Trap kind) = true
instruction_looks looking (Log target) = false

abbrev pub InstructionLooks : (looking : ℕ → Bool) → Instruction → Type 0
InstructionLooks looking i = instruction_looks looking i ≡ true

abbrev pub CodeLooks : (looking : ℕ → Bool) → List Instruction → Type 0
CodeLooks looking code = AllByRecursion (InstructionLooks looking) code

-- the code of these functions only looks
abbrev pub FunctionsLook : List IrFunction → (looking : ℕ → Bool) → Type 0
FunctionsLook functions looking = (f : ℕ) (u : IrFunction) → looking f ≡ true
    → slice_get functions f ≡ Some u → CodeLooks looking u.code

-- those of which it isn't known that they store
abbrev pub looking_by : (known : List Bool) → ℕ → Bool
looking_by known f = not (unwrap_or (slice_get known f) false)
