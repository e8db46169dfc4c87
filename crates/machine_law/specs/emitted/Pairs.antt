-- In emitted code a STORE to its word comes right after each LOG, and so in a run each LOG is
-- followed by its STORE.
use Rattle.std.specs.Prelude.{ℕ, ◌≡◌, List, [], ◌∷◌, ℤ}
use Rattle.std.specs.List.{AllByRecursion}
use Rattle.cache_model.specs.Cache.{Words}
use Rattle.pool_layout.specs.declared.limits.Sizes.{Sizes}
use Rattle.ir.specs.declared.function.Ir.{Ir}
use Rattle.pm_machine.specs.declared.effect.Effect.{Effect}
use Rattle.pm_machine.specs.declared.effect.End.{End}
use Rattle.pm_machine.specs.declared.image.Image.{Image}
use Rattle.pm_machine.specs.declared.op.Op.{Op}
use Rattle.pm_machine.specs.declared.op.Op.TheVariants.{Const, Mov, Bin, Jmp, Jz, Load, Store, Find}
use Rattle.pm_machine.specs.declared.op.Op.TheVariants.{Log, Flush, Fence, Call, Ret, Tick, Trap}
use Rattle.pm_machine.specs.declared.op.Op.TheVariants.{Halt}
use Rattle.pm_machine.specs.declared.op.Function.{Function}
use Rattle.pm_machine.specs.Machine.{State, Finished, run}
use Rattle.codegen.specs.Emit.{functions_of}
use Rattle.run_law.specs.Sound.{IsPairedRun}

-- a STORE to the word at R[a] + o
abbrev pub IsStoreOf : ℕ → ℤ → Op → Type 0
IsStoreOf a o (Store x y b) = (x ≡ a) × (y ≡ o)
IsStoreOf a o (Const r v) = ⊥
IsStoreOf a o (Mov r b) = ⊥
IsStoreOf a o (Bin op r b c) = ⊥
IsStoreOf a o (Jmp t) = ⊥
IsStoreOf a o (Jz b t) = ⊥
IsStoreOf a o (Load r b p) = ⊥
IsStoreOf a o (Find r) = ⊥
IsStoreOf a o (Log b p) = ⊥
IsStoreOf a o Flush = ⊥
IsStoreOf a o Fence = ⊥
IsStoreOf a o (Call r f args) = ⊥
IsStoreOf a o (Ret b) = ⊥
IsStoreOf a o Tick = ⊥
IsStoreOf a o (Trap k) = ⊥
IsStoreOf a o (Halt b) = ⊥

abbrev pub IsStoreFirst : ℕ → ℤ → List Op → Type 0
IsStoreFirst a o [] = ⊥
IsStoreFirst a o (q ∷ ops) = IsStoreOf a o q

abbrev pub ArePaired : List Op → Type 0
ArePaired [] = Unit {0}
ArePaired (Log a o ∷ ops) = IsStoreFirst a o ops × ArePaired ops
ArePaired (Const r v ∷ ops) = ArePaired ops
ArePaired (Mov r a ∷ ops) = ArePaired ops
ArePaired (Bin op r a b ∷ ops) = ArePaired ops
ArePaired (Jmp t ∷ ops) = ArePaired ops
ArePaired (Jz a t ∷ ops) = ArePaired ops
ArePaired (Load r a o ∷ ops) = ArePaired ops
ArePaired (Find r ∷ ops) = ArePaired ops
ArePaired (Store a o b ∷ ops) = ArePaired ops
ArePaired (Flush ∷ ops) = ArePaired ops
ArePaired (Fence ∷ ops) = ArePaired ops
ArePaired (Call r f args ∷ ops) = ArePaired ops
ArePaired (Ret a ∷ ops) = ArePaired ops
ArePaired (Tick ∷ ops) = ArePaired ops
ArePaired (Trap k ∷ ops) = ArePaired ops
ArePaired (Halt a ∷ ops) = ArePaired ops

abbrev pub HasPairs : Function → Type 0
HasPairs u = ArePaired u.code

-- The emitted code of any intermediate code has a STORE right after each LOG.
abbrev pub EmitsPairs : Type 0
EmitsPairs = (s : Sizes) (program : Ir) → AllByRecursion HasPairs (functions_of s program)

-- In each run of such code, from any state and heap, each LOG is followed by a STORE of its word,
-- with no other LOG or STORE between.
abbrev pub PairedLaw : Type 0
PairedLaw = (image : Image) (k : ℕ) (s : State) (heap : Words) (end : End) (es : List Effect) →
    AllByRecursion HasPairs image.parts.functions → run image k s heap ≡ Finished end es
    → IsPairedRun es
