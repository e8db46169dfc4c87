-- A piece of code at a place p of a function: its jumps are moved by p, and its temporary registers
-- begin at base. A sum that doesn't fit 32 bits is the last number; no function with room for its
-- code and its registers has such a sum.
use Rattle.std.specs.Prelude.{ℕ, ◌+◌, ◌-◌, ◌^◌, min}
use Rattle.pm_machine.specs.declared.op.Op.{Op}
use Rattle.pm_machine.specs.declared.op.Op.TheVariants as op
use Rattle.pm_alloc.specs.declared.local.Reg.{Reg}
use Rattle.pm_alloc.specs.declared.local.Reg.TheVariants.{Own, Temp}
use Rattle.pm_alloc.specs.declared.local.Local.{Local}
use Rattle.pm_alloc.specs.declared.local.Local.TheVariants.{Const, Mov, Bin, Jmp, Jz, Load, Store}
use Rattle.pm_alloc.specs.declared.local.Local.TheVariants.{Find, Log, Tick, Trap}

abbrev pub sum : ℕ → ℕ → ℕ
sum a b = min (a + b) (2 ^ 32 - 1)

abbrev pub register_number : ℕ → Reg → ℕ
register_number base (Own r) = r
register_number base (Temp j) = sum base j

abbrev pub placed : (base p : ℕ) → Local → Op
placed base p (Const r v) = op.Const (register_number base r) v
placed base p (Mov r a) = op.Mov (register_number base r) (register_number base a)
placed base p (Bin o r a b) = op.Bin o (register_number base r) (register_number base a)
    (register_number base b)
placed base p (Jmp t) = op.Jmp (sum p t)
placed base p (Jz a t) = op.Jz (register_number base a) (sum p t)
placed base p (Load r a o) = op.Load (register_number base r) (register_number base a) o
placed base p (Store a o b) = op.Store (register_number base a) o (register_number base b)
placed base p (Find r) = op.Find (register_number base r)
placed base p (Log a o) = op.Log (register_number base a) o
placed base p Tick = op.Tick
placed base p (Trap k) = op.Trap k
