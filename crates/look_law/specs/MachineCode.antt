-- The machine's code that only looks: it has no store, no log and no search for a free slot, and it
-- calls only functions whose code only looks.
use Rattle.std.specs.Prelude.{ℕ, ◌≡◌, Bool, true, false, [], Option, None, Some, slice_get}
use Rattle.std.specs.List.{AllByRecursion}
use Rattle.pm_machine.specs.declared.frame.Frame.{Frame}
use Rattle.pm_machine.specs.declared.image.Image.{Image}
use Rattle.pm_machine.specs.declared.op.Op.{Op}
use Rattle.pm_machine.specs.declared.op.Op.TheVariants.{Const, Mov, Bin, Jmp, Jz, Load, Store, Find}
use Rattle.pm_machine.specs.declared.op.Op.TheVariants.{Log, Flush, Fence, Call, Ret, Tick, Trap}
use Rattle.pm_machine.specs.declared.op.Op.TheVariants.{Halt}
use Rattle.pm_machine.specs.Machine.{State, fetch_in}

-- looking: which functions only look
abbrev pub op_looks : (looking : ℕ → Bool) → Op → Bool
op_looks looking (Const r v) = true
op_looks looking (Mov r a) = true
op_looks looking (Bin o r a b) = true
op_looks looking (Jmp t) = true
op_looks looking (Jz a t) = true
op_looks looking (Load r a o) = true
op_looks looking (Store a o b) = false
op_looks looking (Find r) = false
op_looks looking (Log a o) = false
op_looks looking Flush = true
op_looks looking Fence = true
op_looks looking (Call r f args) = looking f
op_looks looking (Ret a) = true
op_looks looking Tick = true
op_looks looking (Trap k) = true
op_looks looking (Halt a) = true

-- past the end of the code the run ends
abbrev pub op_looks_at : (looking : ℕ → Bool) → Option Op → Bool
op_looks_at looking None = true
op_looks_at looking (Some o) = op_looks looking o

-- the code of these functions only looks
abbrev pub AreLooking : Image → (looking : ℕ → Bool) → Type 0
AreLooking image looking = (f p : ℕ) → looking f ≡ true
    → op_looks_at looking (fetch_in p (slice_get image.parts.functions f)) ≡ true

-- an open function is one of these
abbrev pub FrameLooks : (looking : ℕ → Bool) → Frame → Type 0
FrameLooks looking f = looking f.function ≡ true

-- only such functions are open, and no line is dirty
pub record IsLooking (looking : ℕ → Bool) (s : State) : Type 0 where
  pub top : looking s.top.function ≡ true
  pub below : AllByRecursion (FrameLooks looking) s.below
  pub clean : s.dirty ≡ []
