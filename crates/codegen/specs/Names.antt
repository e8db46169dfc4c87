-- An instruction names only registers below r.
use Rattle.std.specs.Prelude.{ℕ, Bool, true, ◌&&◌, nat_lt, Option, Some, None}
use Rattle.std.specs.List.{list_all}
use Rattle.ir.specs.declared.instruction.Target.{Target}
use Rattle.ir.specs.declared.instruction.Target.TheVariants.{Root, Field}
use Rattle.ir.specs.declared.instruction.Instruction.{Instruction}
use Rattle.ir.specs.declared.instruction.Instruction.TheVariants.{Const, Copy, Bin, Jump, Branch}
use Rattle.ir.specs.declared.instruction.Instruction.TheVariants.{Load, Store, New, Free, Call}
use Rattle.ir.specs.declared.instruction.Instruction.TheVariants.{Return, Tick, Trap, Log}

abbrev pub index_below : ℕ → Option ℕ → Bool
index_below r None = true
index_below r (Some i) = nat_lt i r

abbrev pub target_below : ℕ → Target → Bool
target_below r (Root field index) = index_below r index
target_below r (Field base kind field index) = nat_lt base r && index_below r index

abbrev pub is_below : ℕ → Instruction → Bool
is_below r (Const to value) = nat_lt to r
is_below r (Copy to from) = nat_lt to r && nat_lt from r
is_below r (Bin op to left right) = nat_lt to r && (nat_lt left r && nat_lt right r)
is_below r (Jump place) = true
is_below r (Branch on place) = nat_lt on r
is_below r (Load to target) = nat_lt to r && target_below r target
is_below r (Store target from line) = nat_lt from r && target_below r target
is_below r (New to kind log_fill line) = nat_lt to r
is_below r (Free from kind line) = nat_lt from r
is_below r (Call to function args) = nat_lt to r && list_all (λ a. nat_lt a r) args
is_below r (Return from) = nat_lt from r
is_below r Tick = true
is_below r (Trap kind) = true
is_below r (Log target) = target_below r target
