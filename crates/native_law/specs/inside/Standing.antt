-- The world of the printed functions stands for the machine's state between two steps.
use Rattle.std.specs.Prelude.{◌≡◌, ◌<◌, ◌≤◌, ℕ, ℤ, pos, List, [], ◌∷◌, ◌++◌, length, Some}
use Rattle.std.specs.Prelude.{FitsSigned, slice_get, slice_index_or}
use Rattle.std.specs.Int.{w64}
use Rattle.std.specs.List.{flat_map}
use Rattle.cache_model.specs.Cache.{Words}
use Rattle.pool_layout.specs.Sizes.{heap_words}
use Rattle.pool_map.specs.Trap.{trap_number}
use Rattle.nvm_base.specs.Operations.{unsigned}
use Rattle.pm_machine.specs.declared.op.Op.TheVariants.{Halt}
use Rattle.pm_machine.specs.declared.op.Function.{Function}
use Rattle.pm_machine.specs.declared.effect.End.TheVariants.{Halted, Trapped}
use Rattle.pm_machine.specs.declared.frame.Frame.{Frame}
use Rattle.pm_machine.specs.declared.image.Image.{Image}
use Rattle.pm_machine.specs.Effects.{heap_end}
use Rattle.pm_machine.specs.Machine.{State, fetch_in}
use Rattle.pm_machine.specs.Logging.{Turn, Plays, Stops}
use Rattle.c_fragment.specs.State.{Waiting, CState}
use Rattle.c_fragment.specs.Meaning.{CStep, Goes, Returns, Traps}
use Rattle.native_law.specs.Printed.{played_by}

-- each declared variable is the machine's register modulo 2^64
pub record HoldsBits (rs : List ℕ) (ms : List ℤ) : Type 0 where
  pub room : length rs ≤ length ms
  pub same : (r : ℕ) → r < length rs
      → slice_index_or rs r 0 ≡ unsigned (slice_index_or ms r (pos 0))
  pub words : (r : ℕ) → FitsSigned w64 (slice_index_or ms r (pos 0))

-- function f is open at place p of its code, with these variables, as it is in the machine's frame
pub record IsOpenAs (us : List Function) (f p : ℕ) (rs : List ℕ) (g : Frame) : Type 0 where
  pub u : Function
  pub found : slice_get us g.function ≡ Some u
  pub function : f ≡ g.function
  pub place : p ≡ g.place
  pub inside : g.place < length u.code
  pub declared : length rs ≡ u.registers
  pub holds : HoldsBits rs g.registers

-- function f has no HALT
abbrev pub Returning : List Function → ℕ → Type 0
Returning us f = (q a : ℕ) → fetch_in q (slice_get us f) ≡ Some (Halt a) → ⊥

-- Function w waits, in the last of the frames gs, for the result of function f, which goes to
-- register `to`.
pub record IsWaitingFor (us : List Function) (f to : ℕ) (w : Waiting) (gs : List Frame) :
    Type 0 where
  pub below : List Frame
  pub last : Frame
  pub split : gs ≡ below ++ last ∷ []
  pub returning : Returning us f
  pub register : to ≡ w.to
  pub declared : w.to < length w.registers
  pub waits : IsOpenAs us w.function w.place w.registers last

-- the functions that wait, the innermost first, are the frames below, the innermost last
abbrev pub WaitsAlike : List Function → (f to : ℕ) → List Waiting → List Frame → Type 0
WaitsAlike us f to [] gs = gs ≡ []
WaitsAlike us f to (w ∷ ws) gs =
    (x : IsWaitingFor us f to w gs) × WaitsAlike us x.last.function x.last.to ws x.below

pub record MirrorsState (image : Image) (memory : Words) (s : State) (c : CState) : Type 0 where
  pub top : IsOpenAs image.parts.functions c.function c.place c.registers s.top
  pub waiting : WaitsAlike image.parts.functions s.top.function s.top.to c.waiting s.below
  pub few : length s.below < 256
  pub size : s.size ≡ image.largest
  pub ticks : c.ticks ≡ s.ticks
  pub dirty : c.dirty ≡ s.dirty
  pub heap : (w : ℕ) → c.heap w ≡ unsigned (memory w)
  pub words : (w : ℕ) → w < heap_words image.parts.sizes → FitsSigned w64 (memory w)

-- the turn and the step go on alike, or both end alike
abbrev pub TurnsAgree : Image → Words → Turn → CStep → Type 0
TurnsAgree image heap (Plays es g t) (Goes ps d) =
    (ps ≡ flat_map played_by es) × (d.logging ≡ g) × MirrorsState image (heap_end heap es) t d
TurnsAgree image heap (Stops (Halted v)) (Returns x) = x ≡ unsigned v
TurnsAgree image heap (Stops (Trapped kind)) (Traps k) = k ≡ trap_number kind
TurnsAgree image heap _ _ = ⊥
