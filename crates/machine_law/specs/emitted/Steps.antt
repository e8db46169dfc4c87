-- A piece of code whose jumps all lead forward ends, or traps, within as many steps as it has
-- instructions. Each instruction that stays in its function has such a piece, but for one that
-- makes an object in a wide slot: its fill is a loop, which ends too.
use Rattle.std.specs.Prelude.{ℕ, suc, ◌+◌, ◌-◌, ◌*◌, ◌<◌, ◌≤◌, ◌≡◌, Bool, false, List, [], ◌∷◌}
use Rattle.std.specs.Prelude.{length}
use Rattle.std.specs.Option.{option_map_or}
use Rattle.pool_map.specs.declared.shapes.Shapes.{Shapes}
use Rattle.pool_layout.specs.declared.limits.Sizes.{Sizes}
use Rattle.pool_layout.specs.Sizes.{slot_words}
use Rattle.ir.specs.declared.instruction.Instruction.{Instruction}
use Rattle.ir.specs.declared.instruction.Instruction.TheVariants as ir
use Rattle.pm_machine.specs.declared.image.Image.{Image}
use Rattle.pm_alloc.specs.declared.local.Local.{Local}
use Rattle.pm_alloc.specs.declared.local.Local.TheVariants.{Const, Mov, Bin, Jmp, Jz, Load, Store}
use Rattle.pm_alloc.specs.declared.local.Local.TheVariants.{Find, Log, Tick, Trap}
use Rattle.pm_alloc.specs.LocalRun.{Loc}
use Rattle.pm_alloc.specs.Pieces.{fills_by_loop}
use Rattle.pm_alloc.specs.Search.{IsPool}
use Rattle.codegen.specs.Emit.{local_code}
use Rattle.codegen.specs.Fields.{object_words}
use Rattle.machine_law.specs.emitted.Moments.{RunMoment, RunStage, On, Over, go}
use Rattle.machine_law.specs.emitted.Placed.{Setting, Same, IsPlaced}

-- the jumps of a piece, whose first instruction is at place k, lead forward
abbrev pub AreForward : ℕ → List Local → Type 0
AreForward k [] = Unit {0}
AreForward k (Jmp t ∷ ls) = (k < t) × AreForward (suc k) ls
AreForward k (Jz a t ∷ ls) = (k < t) × AreForward (suc k) ls
AreForward k (Const r v ∷ ls) = AreForward (suc k) ls
AreForward k (Mov r a ∷ ls) = AreForward (suc k) ls
AreForward k (Bin o r a b ∷ ls) = AreForward (suc k) ls
AreForward k (Load r a o ∷ ls) = AreForward (suc k) ls
AreForward k (Find r ∷ ls) = AreForward (suc k) ls
AreForward k (Store a o b ∷ ls) = AreForward (suc k) ls
AreForward k (Log a o ∷ ls) = AreForward (suc k) ls
AreForward k (Tick ∷ ls) = AreForward (suc k) ls
AreForward k (Trap t ∷ ls) = AreForward (suc k) ls

-- the machine is right after the piece, or its run has ended
abbrev pub PieceSettles : Setting → List Local → RunStage → Type 0
PieceSettles x piece (On b) = (k : Loc) × (k.at ≡ length piece) × Same x k b
PieceSettles x piece (Over end b) = Unit {0}

-- From any place of a forward piece the machine reaches the place after it, or an end, in at most
-- as many steps as the piece has instructions left.
abbrev pub ForwardLaw : Type 0
ForwardLaw = (image : Image) (x : Setting) (piece : List Local) (l : Loc) (m : RunMoment) →
    IsPlaced image x.function x.base x.place piece → AreForward 0 piece → Same x l m
    → l.at ≤ length piece →
    (n : ℕ) × (n + l.at ≤ length piece) × PieceSettles x piece (go image n m)

-- whether the piece has a jump back: it makes an object, and fills it by a loop
abbrev pub has_loop : Sizes → Shapes → Instruction → Bool
has_loop s h (ir.New to kind fill line) =
    option_map_or (fills_by_loop s) (object_words s h kind) false
has_loop s h _ = false

-- the most steps of a piece
abbrev pub piece_steps : Sizes → ℕ
piece_steps s = 39 + 10 * (slot_words s - 16)

-- The piece of an instruction without a loop is forward, and isn't longer than this.
abbrev pub ForwardCode : Type 0
ForwardCode =
    (s : Sizes) (h : Shapes) (b : Bool) (i : Instruction) → has_loop s h i ≡ false →
    AreForward 0 (local_code s h b i) × (length (local_code s h b i) ≤ piece_steps s)

-- From its start the piece of each instruction reaches its end, or ends the run, within this many
-- steps, whether it has a loop or not.
abbrev pub SettlesLaw : Type 0
SettlesLaw = (image : Image) (x : Setting) (h : Shapes) (b : Bool) (i : Instruction) (l : Loc)
    (m : RunMoment) →
    IsPlaced image x.function x.base x.place (local_code image.parts.sizes h b i) → l.at ≡ 0
    → Same x l m → IsPool image.parts.sizes →
    (n : ℕ) × (n ≤ piece_steps image.parts.sizes)
    × PieceSettles x (local_code image.parts.sizes h b i) (go image n m)
