-- The machine between two instructions of intermediate code. It has the same functions open, each
-- at the place where its next instruction's code begins and with the same words in its registers;
-- as many ticks; and a heap that stands for the pool. Only the function that was opened first is a
-- transaction. Each frame has room for any function with its eight temporary registers, and no line
-- is dirty twice.
use Rattle.std.specs.Prelude.{◌≡◌, ℕ, ◌+◌, ◌*◌, ◌<◌, ◌≤◌, ℤ, pos, Bool, true, false, List, []}
use Rattle.std.specs.Prelude.{◌∷◌, ◌++◌, length, Some, get_or, slice_get}
use Rattle.pool_layout.specs.declared.limits.Sizes.{Sizes}
use Rattle.pool_map.specs.declared.trap.TrapKind.{TrapKind}
use Rattle.pool_map.specs.PoolFits.{PoolFits}
use Rattle.pool_map.specs.PoolMap.{PoolMap}
use Rattle.ir.specs.declared.function.IrFunction.{IrFunction}
use Rattle.ir.specs.declared.function.Ir.{Ir}
use Rattle.code_meaning.specs.Code.{CodeState, Here, Move, register_at, instruction_step}
use Rattle.code_meaning.specs.Code as code
use Rattle.code_meaning.specs.Deeds.{Deed, deeds_of}
use Rattle.pm_machine.specs.declared.effect.Effect.{Effect}
use Rattle.pm_machine.specs.declared.effect.End.TheVariants.{Halted, Trapped}
use Rattle.pm_machine.specs.declared.frame.Frame.{Frame}
use Rattle.pm_machine.specs.declared.image.Image.{Image}
use Rattle.ir.specs.Moving.{place_in}
use Rattle.machine_law.specs.emitted.Dirty.{IsCleanState}
use Rattle.machine_law.specs.emitted.Moments.{RunMoment, RunStage, On, Over, go, onto}
use Rattle.machine_law.specs.emitted.Standing.{table_of}
use Rattle.machine_law.specs.emitted.Steps.{piece_steps}
use Rattle.machine_law.specs.pieces.Shows.{ShowsDeeds}
use Rattle.machine_law.specs.pieces.Stands.{Stands}
use Rattle.machine_law.specs.pieces.Words.{IsWordState}
use Rattle.machine_law.specs.matching.Accesses.{accesses}
use Rattle.machine_law.specs.matching.Compiled.{IsCodeOf, is_logged_in_code}

-- function f is open in a frame, at its instruction p; last: no function called it
pub record IsOpenIn (s : Sizes) (ir : Ir) (f p : ℕ) (regs : List ℤ) (last : Bool) (g : Frame) :
    Type 0 where
  pub u : IrFunction
  pub found : slice_get ir.functions f ≡ Some u
  pub tx : u.tx ≡ last
  pub function : g.function ≡ f
  pub place : g.place ≡ place_in (table_of s ir.shapes u) p
  pub holds : (r : ℕ) → r < u.registers → get_or g.registers r (pos 0) ≡ register_at regs r
  pub room : u.registers + 8 ≤ length g.registers

abbrev pub is_outermost : List code.Frame → Bool
is_outermost [] = true
is_outermost (c ∷ cs) = false

-- the frames below, the innermost last, hold the callers, the innermost first; to: the register for
-- the result of the frame above
abbrev pub Waits : Sizes → Ir → (to : ℕ) → List code.Frame → List Frame → Type 0
Waits s ir to [] gs = gs ≡ []
Waits s ir to (code.frame f p regs r ∷ cs) gs =
    (hs : List Frame) × (g : Frame) × (gs ≡ hs ++ g ∷ []) × (to ≡ r)
    × IsOpenIn s ir f p regs (is_outermost cs) g × Waits s ir g.to cs hs

pub record AreMatched (image : Image) (ir : Ir) (f p : ℕ) (regs : List ℤ)
    (callers : List code.Frame) (w : PoolMap) (t : ℕ) (m : RunMoment) : Type 0 where
  pub top : IsOpenIn image.parts.sizes ir f p regs (is_outermost callers) m.state.top
  pub below : Waits image.parts.sizes ir m.state.top.to callers m.state.below
  pub size : m.state.size ≡ image.largest
  pub ticks : m.state.ticks ≡ t
  pub stands : Stands image.parts.sizes m.heap w
  pub fits : PoolFits ir.shapes w
  pub clean : IsCleanState image m.state

abbrev pub Match : Image → Ir → CodeState → RunMoment → Type 0
Match image ir (Here f p regs callers w t) m = AreMatched image ir f p regs callers w t m

-- from m to b the machine's loads, stores and logs show the code's deeds
pub record HasShown (image : Image) (ir : Ir) (ds : List Deed) (m b : RunMoment) : Type 0 where
  pub effects : List Effect
  pub seen : accesses b.seen ≡ onto effects (accesses m.seen)
  pub shows : ShowsDeeds image.parts.sizes (is_logged_in_code ir) ds effects

pub record GoesToo (image : Image) (ir : Ir) (ds : List Deed) (c : CodeState) (m : RunMoment)
    (g : RunStage) : Type 0 where
  pub to : RunMoment
  pub is : g ≡ On to
  pub match : Match image ir c to
  pub shown : HasShown image ir ds m to

pub record HaltsToo (image : Image) (ir : Ir) (ds : List Deed) (w : PoolMap) (v : ℤ) (m : RunMoment)
    (g : RunStage) : Type 0 where
  pub last : RunMoment
  pub is : g ≡ Over (Halted v) last
  pub stands : Stands image.parts.sizes last.heap w
  pub fits : PoolFits ir.shapes w
  pub shown : HasShown image ir ds m last

pub record TrapsToo (image : Image) (ir : Ir) (ds : List Deed) (k : TrapKind) (m : RunMoment)
    (g : RunStage) : Type 0 where
  pub last : RunMoment
  pub is : g ≡ Over (Trapped k) last
  pub shown : HasShown image ir ds m last

-- if the code's run ends like this, so does the machine's
abbrev pub EndsToo : Image → Ir → List Deed → code.CodeEnd → RunMoment → RunStage → Type 0
EndsToo image ir ds (code.Ended w v t) m g = HaltsToo image ir ds w v m g
EndsToo image ir ds (code.Trapped k) m g = TrapsToo image ir ds k m g
EndsToo image ir ds code.Unfinished m g = Unit {0}
EndsToo image ir ds code.Stuck m g = Unit {0}

abbrev pub MovesToo : Image → Ir → List Deed → Move → RunMoment → RunStage → Type 0
MovesToo image ir ds (code.Goes c) m g = GoesToo image ir ds c m g
MovesToo image ir ds (code.Ends e) m g = EndsToo image ir ds e m g

-- the steps of an instruction itself, and those that flush each dirty line if it ends the run
abbrev pub own_steps : Sizes → ℕ
own_steps s = 1 + piece_steps s

abbrev pub flushes : Move → RunMoment → ℕ
flushes (code.Goes c) m = 0
flushes (code.Ends e) m = length m.state.dirty

-- One step of the code, and the machine's steps for it, from states that match, if the code's
-- values are words.
abbrev pub MatchLaw : Type 0
MatchLaw = (image : Image) (ir : Ir) (c : CodeState) (m : RunMoment) → IsCodeOf image ir
    → IsWordState c → Match image ir c m →
    (n : ℕ) × (n ≤ own_steps image.parts.sizes + flushes (instruction_step ir c) m)
    × MovesToo image ir (deeds_of ir c) (instruction_step ir c) m (go image n m)

-- The machine's steps for an instruction in total: each of its own steps makes at most one line
-- dirty, which takes one more step to flush at the end. They are 80, and 20 more for each word of a
-- slot that is beyond 16.
abbrev pub most : Sizes → ℕ
most s = 2 * own_steps s
