-- What a pass that puts other code in place of instructions needs: whether an instruction is a log,
-- and where an instruction goes.
use Rattle.std.specs.Prelude.{ℕ, ◌^◌, ◌-◌, Bool, true, false, List}
use Rattle.std.specs.List.{slice_index_or}
use Rattle.ir.specs.declared.instruction.Instruction.{Instruction}
use Rattle.ir.specs.declared.instruction.Instruction.TheVariants.{Const, Copy, Bin, Jump, Branch}
use Rattle.ir.specs.declared.instruction.Instruction.TheVariants.{Load, Store, New, Free, Call}
use Rattle.ir.specs.declared.instruction.Instruction.TheVariants.{Return, Tick, Trap, Log}

abbrev pub is_log : Instruction → Bool
is_log (Log target) = true
is_log (Const to value) = false
is_log (Copy to from) = false
is_log (Bin op to left right) = false
is_log (Jump place) = false
is_log (Branch on place) = false
is_log (Load to target) = false
is_log (Store target from line) = false
is_log (New to kind log_fill line) = false
is_log (Free from kind line) = false
is_log (Call to function args) = false
is_log (Return from) = false
is_log Tick = false
is_log (Trap kind) = false

-- the new place of instruction q; if there is no such instruction, a place that no function has
abbrev pub place_in : List ℕ → ℕ → ℕ
place_in places q = slice_index_or places q (2 ^ 32 - 1)
