-- The checks of a machine program, place by place: a register is below its function's number of
-- registers; a jump stays in its function; a TRAP has a trap's number; a called function exists and
-- has as many parameters as the call has arguments; a function's last instruction is JMP, RET, TRAP
-- or HALT; and, reported at place 0, a function isn't empty and has no more parameters than
-- registers.
use Rattle.std.specs.Prelude.{ℕ, ◌+◌, Bool, true, false, ◌&&◌, ◌||◌, nat_lt, nat_le, ◌==◌}
use Rattle.std.specs.Prelude.{if◌then◌else◌, List, [], ◌∷◌, length, Option, Some, None, slice_get}
use Rattle.std.specs.List.{list_all}
use Rattle.pm_machine.specs.declared.op.Op.{Op}
use Rattle.pm_machine.specs.declared.op.Op.TheVariants.{Const, Mov, Bin, Jmp, Jz, Load, Store, Find}
use Rattle.pm_machine.specs.declared.op.Op.TheVariants.{Log, Flush, Fence, Call, Ret, Tick, Trap}
use Rattle.pm_machine.specs.declared.op.Op.TheVariants.{Halt}
use Rattle.pm_machine.specs.declared.op.Function.{Function}

-- the called function exists and has n parameters
abbrev pub takes_arguments : Option Function → ℕ → Bool
takes_arguments None n = false
takes_arguments (Some u) n = u.parameters == n

-- all that an instruction names exists, in a function of r registers and n instructions
abbrev pub op_is_there : List Function → (r n : ℕ) → Op → Bool
op_is_there us r n (Const to v) = nat_lt to r
op_is_there us r n (Mov to a) = nat_lt to r && nat_lt a r
op_is_there us r n (Bin op to a b) = nat_lt to r && (nat_lt a r && nat_lt b r)
op_is_there us r n (Jmp t) = nat_lt t n
op_is_there us r n (Jz a t) = nat_lt a r && nat_lt t n
op_is_there us r n (Load to a o) = nat_lt to r && nat_lt a r
op_is_there us r n (Store a o b) = nat_lt a r && nat_lt b r
op_is_there us r n (Find to) = nat_lt to r
op_is_there us r n (Log a o) = nat_lt a r
op_is_there us r n Flush = true
op_is_there us r n Fence = true
op_is_there us r n (Call to f args) =
    nat_lt to r && (list_all (λ a. nat_lt a r) args && takes_arguments (slice_get us f)
    (length args))
op_is_there us r n (Ret a) = nat_lt a r
op_is_there us r n Tick = true
op_is_there us r n (Trap k) = nat_lt 0 k && nat_lt k 9
op_is_there us r n (Halt a) = nat_lt a r

-- the run doesn't go on to the place after this instruction
abbrev pub is_end : Op → Bool
is_end (Jmp t) = true
is_end (Ret a) = true
is_end (Trap k) = true
is_end (Halt a) = true
is_end (Const to v) = false
is_end (Mov to a) = false
is_end (Bin op to a b) = false
is_end (Jz a t) = false
is_end (Load to a o) = false
is_end (Store a o b) = false
is_end (Find to) = false
is_end (Log a o) = false
is_end Flush = false
is_end Fence = false
is_end (Call to f args) = false
is_end Tick = false

-- the instruction at place p of a function is good
abbrev pub is_good_op : List Function → Function → ℕ → Op → Bool
is_good_op us u p op =
    op_is_there us u.registers (length u.code) op && (nat_lt (p + 1) (length u.code) || is_end op)

-- the first bad place of a function's instructions from place p on
abbrev pub bad_from : List Function → Function → ℕ → List Op → Option ℕ
bad_from us u p [] = None
bad_from us u p (op ∷ ops) = if is_good_op us u p op then bad_from us u (p + 1) ops else Some p

-- the first bad place of a function
abbrev pub bad_in : List Function → Function → Option ℕ
bad_in us u = if nat_le u.parameters u.registers && nat_lt 0 (length u.code)
    then bad_from us u 0 u.code else Some 0

abbrev pub at_function : ℕ → Option ℕ → Option (ℕ × ℕ) → Option (ℕ × ℕ)
at_function f (Some p) later = Some (f, p)
at_function f None later = later

-- the first bad function and place among these functions, the first of which has number f in us
abbrev pub bad_of : List Function → ℕ → List Function → Option (ℕ × ℕ)
bad_of us f [] = None
bad_of us f (u ∷ rest) = at_function f (bad_in us u) (bad_of us (f + 1) rest)

-- the greatest of n and the numbers of registers of these functions
abbrev pub most_registers : ℕ → List Function → ℕ
most_registers n [] = n
most_registers n (u ∷ us) = most_registers (if nat_lt n u.registers then u.registers else n) us
