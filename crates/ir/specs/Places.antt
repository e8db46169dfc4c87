-- The places of a code, and which place leads to which: an instruction leads to the next place, a
-- jump to its target, a branch to both; a call, a return and a trap lead nowhere within their
-- function.
use Rattle.std.specs.Prelude.{◌≡◌, ℕ, suc, true, List, Option, Some, slice_get, option_and_then}
use mathlib.Core.Logic.{◌⊎◌}
use Rattle.ir.specs.declared.function.IrFunction.{IrFunction}
use Rattle.ir.specs.declared.instruction.Instruction.{Instruction}
use Rattle.ir.specs.declared.instruction.Instruction.TheVariants.{Const, Copy, Bin, Jump, Branch}
use Rattle.ir.specs.declared.instruction.Instruction.TheVariants.{Load, Store, New, Free, Call}
use Rattle.ir.specs.declared.instruction.Instruction.TheVariants.{Return, Tick, Trap, Log}

-- the instruction at a place of a function
abbrev pub instruction_at : List IrFunction → ℕ → ℕ → Option Instruction
instruction_at functions f p =
    option_and_then (λ (u : IrFunction). slice_get u.code p) (slice_get functions f)

-- a function is a transaction
abbrev pub IsTransaction : List IrFunction → ℕ → Type 0
IsTransaction functions f = (u : IrFunction) × (slice_get functions f ≡ Some u) × (u.tx ≡ true)

-- an instruction at p leads to q within its function
abbrev pub Leads : Instruction → ℕ → ℕ → Type 0
Leads (Jump place) p q = q ≡ place
Leads (Branch on place) p q = (q ≡ suc p) ⊎ (q ≡ place)
Leads (Call to g args) p q = ⊥
Leads (Return from) p q = ⊥
Leads (Trap kind) p q = ⊥
Leads (Const to v) p q = q ≡ suc p
Leads (Copy to from) p q = q ≡ suc p
Leads (Bin op to left right) p q = q ≡ suc p
Leads (Load to t) p q = q ≡ suc p
Leads (Store t from line) p q = q ≡ suc p
Leads (New to kind log_fill line) p q = q ≡ suc p
Leads (Free from kind line) p q = q ≡ suc p
Leads Tick p q = q ≡ suc p
Leads (Log t) p q = q ≡ suc p

-- there is a call at this place
abbrev pub CallsAt : List IrFunction → ℕ → ℕ → ℕ → ℕ → List ℕ → Type 0
CallsAt functions f p to g args = instruction_at functions f p ≡ Some (Call to g args)

-- there is a return at this place
abbrev pub ReturnsAt : List IrFunction → ℕ → ℕ → Type 0
ReturnsAt functions f p = (from : ℕ) × (instruction_at functions f p ≡ Some (Return from))
