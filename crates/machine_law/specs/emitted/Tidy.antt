-- A run of tidy code flushes and fences only at its end: FLUSH comes before FENCE and FENCE before
-- HALT, and nothing else leads to a FENCE or a HALT.
use Rattle.std.specs.Prelude.{ℕ, ◌+◌, ◌≡◌, List, [], ◌∷◌, Option, Some, None, slice_get}
use Rattle.std.specs.List.{AllByRecursion}
use Rattle.cache_model.specs.Cache.{Words}
use Rattle.pm_machine.specs.declared.effect.Effect.{Effect}
use Rattle.pm_machine.specs.declared.effect.End.{End}
use Rattle.pm_machine.specs.declared.frame.Frame.{Frame}
use Rattle.pm_machine.specs.declared.image.Image.{Image}
use Rattle.pm_machine.specs.declared.op.Op.{Op}
use Rattle.pm_machine.specs.declared.op.Op.TheVariants.{Const, Mov, Bin, Jmp, Jz, Load, Store, Find}
use Rattle.pm_machine.specs.declared.op.Op.TheVariants.{Log, Flush, Fence, Call, Ret, Tick, Trap}
use Rattle.pm_machine.specs.declared.op.Op.TheVariants.{Halt}
use Rattle.pm_machine.specs.declared.op.Function.{Function}
use Rattle.pm_machine.specs.Machine.{State, Finished, run, fetch, fetch_in}
use Rattle.run_law.specs.Sound.{IsTidyEnd}

-- neither FENCE nor HALT
abbrev pub IsPlain : Op → Type 0
IsPlain (Const r v) = Unit {0}
IsPlain (Mov r a) = Unit {0}
IsPlain (Bin o r a b) = Unit {0}
IsPlain (Jmp t) = Unit {0}
IsPlain (Jz a t) = Unit {0}
IsPlain (Load r a o) = Unit {0}
IsPlain (Find r) = Unit {0}
IsPlain (Store a o b) = Unit {0}
IsPlain (Log a o) = Unit {0}
IsPlain Flush = Unit {0}
IsPlain Fence = ⊥
IsPlain (Call r f args) = Unit {0}
IsPlain (Ret a) = Unit {0}
IsPlain Tick = Unit {0}
IsPlain (Trap k) = Unit {0}
IsPlain (Halt a) = ⊥

abbrev pub IsPlainAt : Option Op → Type 0
IsPlainAt None = Unit {0}
IsPlainAt (Some o) = IsPlain o

-- the next instruction may come after this one
abbrev pub MayPrecede : Op → Option Op → Type 0
MayPrecede (Const r v) next = IsPlainAt next
MayPrecede (Mov r a) next = IsPlainAt next
MayPrecede (Bin o r a b) next = IsPlainAt next
MayPrecede (Jmp t) next = Unit {0}
MayPrecede (Jz a t) next = IsPlainAt next
MayPrecede (Load r a o) next = IsPlainAt next
MayPrecede (Find r) next = IsPlainAt next
MayPrecede (Store a o b) next = IsPlainAt next
MayPrecede (Log a o) next = IsPlainAt next
MayPrecede Flush next = next ≡ Some Fence
MayPrecede Fence next = (a : ℕ) × (next ≡ Some (Halt a))
MayPrecede (Call r f args) next = IsPlainAt next
MayPrecede (Ret a) next = Unit {0}
MayPrecede Tick next = IsPlainAt next
MayPrecede (Trap k) next = Unit {0}
MayPrecede (Halt a) next = Unit {0}

-- the target of a jump is neither FENCE nor HALT
abbrev pub LeadsPlain : Option Function → Op → Type 0
LeadsPlain found (Jmp t) = IsPlainAt (fetch_in t found)
LeadsPlain found (Jz a t) = IsPlainAt (fetch_in t found)
LeadsPlain found (Const r v) = Unit {0}
LeadsPlain found (Mov r a) = Unit {0}
LeadsPlain found (Bin o r a b) = Unit {0}
LeadsPlain found (Load r a o) = Unit {0}
LeadsPlain found (Find r) = Unit {0}
LeadsPlain found (Store a o b) = Unit {0}
LeadsPlain found (Log a o) = Unit {0}
LeadsPlain found Flush = Unit {0}
LeadsPlain found Fence = Unit {0}
LeadsPlain found (Call r f args) = Unit {0}
LeadsPlain found (Ret a) = Unit {0}
LeadsPlain found Tick = Unit {0}
LeadsPlain found (Trap k) = Unit {0}
LeadsPlain found (Halt a) = Unit {0}

pub record IsTidyCode (found : Option Function) : Type 0 where
  pub first : IsPlainAt (fetch_in 0 found)
  pub next : (p : ℕ) (o : Op) → fetch_in p found ≡ Some o → MayPrecede o (fetch_in (p + 1) found)
  pub leads : (p : ℕ) (o : Op) → fetch_in p found ≡ Some o → LeadsPlain found o

-- no RET, as in a transaction
abbrev pub IsReturnless : Option Function → Type 0
IsReturnless found = (p a : ℕ) → fetch_in p found ≡ Some (Ret a) → ⊥

-- the function of the outermost frame
abbrev pub bottom : List Frame → ℕ → ℕ
bottom [] f = f
bottom (b ∷ bs) f = b.function

-- no open function is at a FENCE or a HALT, and the outermost one has no RET
pub record OpenFramesTidy (image : Image) (s : State) : Type 0 where
  pub here : IsPlainAt (fetch image s)
  pub below : AllByRecursion (λ (f : Frame).
      IsPlainAt (fetch_in f.place (slice_get image.parts.functions f.function))) s.below
  pub last : IsReturnless (slice_get image.parts.functions (bottom s.below s.top.function))

-- A run from an open state that halts flushes each dirty line once, in their order, and fences,
-- only at its end; a run that traps has no flush and no fence.
abbrev pub TidyLaw : Type 0
TidyLaw = (image : Image) (k : ℕ) (s : State) (heap : Words) (end : End) (es : List Effect) →
    ((f : ℕ) → IsTidyCode (slice_get image.parts.functions f)) → OpenFramesTidy image s
    → run image k s heap ≡ Finished end es → IsTidyEnd s.dirty end es
