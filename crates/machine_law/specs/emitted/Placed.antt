-- A piece of code in its place: it is in a function from place p on, its jumps moved by p and its
-- temporary registers from base on, and the machine runs it there as it runs alone.
use Rattle.std.specs.Prelude.{ℕ, ◌+◌, ◌<◌, ◌≤◌, ◌^◌, ◌≡◌, List, [], ◌∷◌, length, Some, ℤ, pos}
use Rattle.std.specs.Prelude.{get_or, slice_get}
use Rattle.std.specs.List.{AllByRecursion}
use Rattle.cache_model.specs.Cache.{Words}
use Rattle.pool_map.specs.Trap.{trap_of}
use Rattle.pm_machine.specs.declared.effect.Effect.{Effect}
use Rattle.pm_machine.specs.declared.effect.Effect.TheVariants.{Loads, Scans, Stores, Logs, Flushes}
use Rattle.pm_machine.specs.declared.effect.Effect.TheVariants.{Fences, Quiet}
use Rattle.pm_machine.specs.declared.effect.End.TheVariants.{Trapped}
use Rattle.pm_machine.specs.declared.frame.Frame.{Frame}
use Rattle.pm_machine.specs.declared.image.Image.{Image}
use Rattle.pm_machine.specs.Machine.{fetch_in, trap_at}
use Rattle.pm_alloc.specs.declared.local.Reg.{Reg}
use Rattle.pm_alloc.specs.declared.local.Reg.TheVariants.{Own, Temp}
use Rattle.pm_alloc.specs.declared.local.Local.{Local}
use Rattle.pm_alloc.specs.declared.local.Local.TheVariants.{Const, Mov, Bin, Jmp, Jz, Load, Store}
use Rattle.pm_alloc.specs.declared.local.Local.TheVariants.{Find, Log, Tick, Trap}
use Rattle.pm_alloc.specs.Placing.{placed}
use Rattle.pm_alloc.specs.Runs.{Next, Goes, Traps, Off, local_run}
use Rattle.pm_alloc.specs.LocalRun.{World, Loc, local_step}
use Rattle.machine_law.specs.emitted.Moments.{RunMoment, RunStage, On, Over, go}

-- the effects without the quiet ones
abbrev pub heard : List Effect → List Effect
heard [] = []
heard (Loads w ∷ es) = Loads w ∷ heard es
heard (Scans w apart many ∷ es) = Scans w apart many ∷ heard es
heard (Stores w x ∷ es) = Stores w x ∷ heard es
heard (Logs w ∷ es) = Logs w ∷ heard es
heard (Flushes l ∷ es) = Flushes l ∷ heard es
heard (Fences ∷ es) = Fences ∷ heard es
heard (Quiet ∷ es) = heard es

-- a register below base, or one of eight temporary ones
abbrev pub IsReg : ℕ → Reg → Type 0
IsReg base (Own r) = r < base
IsReg base (Temp j) = j < 8

-- the registers that an instruction names exist, and a jump leads at most to the end of n
-- instructions
abbrev pub IsFine : (n base : ℕ) → Local → Type 0
IsFine n base (Const r v) = IsReg base r
IsFine n base (Mov r a) = IsReg base r × IsReg base a
IsFine n base (Bin o r a b) = IsReg base r × IsReg base a × IsReg base b
IsFine n base (Jmp t) = t ≤ n
IsFine n base (Jz a t) = IsReg base a × (t ≤ n)
IsFine n base (Load r a o) = IsReg base r × IsReg base a
IsFine n base (Find r) = IsReg base r
IsFine n base (Store a o b) = IsReg base a × IsReg base b
IsFine n base (Log a o) = IsReg base a
IsFine n base Tick = Unit {0}
IsFine n base (Trap k) = Unit {0}

-- a piece is in function f from place p on
pub record IsPlaced (image : Image) (f base p : ℕ) (piece : List Local) : Type 0 where
  pub there : (k : ℕ) (l : Local) → slice_get piece k ≡ Some l
      → fetch_in (p + k) (slice_get image.parts.functions f) ≡ Some (placed base p l)
  pub fine : AllByRecursion (IsFine (length piece) base) piece
  pub room : base + 8 < 2 ^ 32
  pub short : p + length piece < 2 ^ 32

-- a frame's registers hold the values of the piece's
pub record FrameHolds (base : ℕ) (own : Words) (temp regs : List ℤ) : Type 0 where
  pub eight : length temp ≡ 8
  pub room : base + 8 ≤ length regs
  pub own_is : (r : ℕ) → r < base → get_or regs r (pos 0) ≡ own r
  pub temp_is : (j : ℕ) → j < 8 → get_or regs (base + j) (pos 0) ≡ get_or temp j (pos 0)

-- what surrounds the piece: its function, its place, the frames below it
pub record Setting : Type 0 where
  pub function : ℕ
  pub base : ℕ
  pub place : ℕ
  pub to : ℕ
  pub below : List Frame
  pub size : ℕ

abbrev pub moment : Setting → (at : ℕ) → List ℤ → World → (dirty : List ℕ) → List Effect
    → RunMoment
moment x at regs w dirty seen = record {
  state = record {
    top = record { function = x.function; place = at; to = x.to; registers = regs };
    below = x.below;
    ticks = w.ticks;
    dirty = dirty;
    size = x.size;
  };
  heap = w.heap;
  seen = seen;
}

-- the machine is at a place of the piece, with the same heap, ticks and effects, and the same
-- registers
pub record Same (x : Setting) (l : Loc) (m : RunMoment) : Type 0 where
  pub regs : List ℤ
  pub dirty : List ℕ
  pub seen : List Effect
  pub holds : FrameHolds x.base l.own l.temp regs
  pub heard_is : heard seen ≡ l.world.seen
  pub is : m ≡ moment x (x.place + l.at) regs l.world dirty seen

pub record IsShared (w : World) (m : RunMoment) : Type 0 where
  pub heap_is : m.heap ≡ w.heap
  pub ticks_is : m.state.ticks ≡ w.ticks
  pub heard_is : heard m.seen ≡ w.seen

-- if the piece alone goes on or traps, so does the machine
abbrev pub Follows : Setting → Next World Loc → RunStage → Type 0
Follows x (Goes l) (On m) = Same x l m
Follows x (Goes l) (Over end m) = ⊥
Follows x (Traps k w) (On m) = ⊥
Follows x (Traps k w) (Over end m) = (end ≡ Trapped (trap_at (trap_of k))) × IsShared w m
Follows x Off g = Unit {0}

-- A piece in its place runs as it runs alone, step for step.
abbrev pub PlacedLaw : Type 0
PlacedLaw = (image : Image) (x : Setting) (piece : List Local) (n : ℕ) (l : Loc) (m : RunMoment) →
    IsPlaced image x.function x.base x.place piece → Same x l m
    → Follows x (local_run (local_step image.parts.sizes piece) n l) (go image n m)
