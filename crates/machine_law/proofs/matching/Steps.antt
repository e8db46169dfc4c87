-- One step of the code, and the machine's steps for it.
use Rattle.std.proofs.Common.{◌≡◌, ℕ, List, slice_get, Option, None, Some, ℤ, refl, sym, ap, subst}
use Rattle.std.proofs.Common.{arith}
use Rattle.std.specs.Prelude.{option_and_then}
use Rattle.pool_map.specs.PoolMap.{PoolMap}
use Rattle.ir.specs.declared.instruction.Instruction.{Instruction}
use Rattle.ir.specs.declared.instruction.Instruction.TheVariants as ir
use Rattle.ir.specs.declared.function.IrFunction.{IrFunction}
use Rattle.ir.specs.declared.function.Ir.{Ir}
use Rattle.ir.specs.Places.{instruction_at}
use Rattle.code_meaning.specs.Code.{register_at}
use Rattle.code_meaning.specs.Code as code
use Rattle.pm_machine.specs.declared.image.Image.{Image}
use Rattle.machine_law.specs.emitted.Moments.{RunMoment}
use Rattle.machine_law.specs.emitted.Standing.{Stays}
use Rattle.machine_law.specs.pieces.Law.{PieceLaw}
use Rattle.machine_law.specs.pieces.Pools.{FitsLaw}
use Rattle.machine_law.specs.pieces.Words.{HoldWords}
use Rattle.machine_law.specs.matching.Compiled.{IsCodeOf}
use Rattle.machine_law.specs.matching.Match.{AreMatched}
use Rattle.machine_law.proofs.matching.Moves.{Steps}
use Rattle.machine_law.proofs.matching.Controls.{jump_step, branch_step, call_step, return_step}
use Rattle.machine_law.proofs.matching.Locals.{stays}

module _ (piece_law : PieceLaw) (fits_law : FitsLaw) (image : Image) (program : Ir)
    (c : IsCodeOf image program) (f p : ℕ) (regs : List ℤ) (callers : List code.Frame)
    (w : PoolMap)
    (t : ℕ) (m : RunMoment) (words : HoldWords regs)
    (same : AreMatched image program f p regs callers w t m) where
  abbrev u : IrFunction
  u = same.top.u

  abbrev Step : Option Instruction → Type 0
  Step o = Steps image program f p regs callers w t m o

  stays_here : (i : Instruction) → slice_get u.code p ≡ Some i → Stays i → Step (Some i)
  stays_here i e is = stays piece_law fits_law image program c f p regs callers w t m words
      same i e is

  act_meets : (o : Option Instruction) → slice_get u.code p ≡ o → Step o
  act_meets None e = (0, omega arith, tt)
  act_meets (Some (ir.Jump q)) e = jump_step image program c f p regs callers w t m same q e
  act_meets (Some (ir.Branch on q)) e =
      branch_step image program c f p regs callers w t m same on q e
  act_meets (Some (ir.Call r g args)) e =
      call_step image program c f p regs callers w t m same r g args e
  act_meets (Some (ir.Return from)) e =
      return_step image program c f p regs callers w t m same from e
  act_meets (Some (ir.Const to v)) e = stays_here (ir.Const to v) e tt
  act_meets (Some (ir.Copy to from)) e = stays_here (ir.Copy to from) e tt
  act_meets (Some (ir.Bin o to a b)) e = stays_here (ir.Bin o to a b) e tt
  act_meets (Some (ir.Load to x)) e = stays_here (ir.Load to x) e tt
  act_meets (Some (ir.Store x from line)) e = stays_here (ir.Store x from line) e tt
  act_meets (Some (ir.New to kind fill line)) e = stays_here (ir.New to kind fill line) e tt
  act_meets (Some (ir.Free from kind line)) e = stays_here (ir.Free from kind line) e tt
  act_meets (Some ir.Tick) e = stays_here ir.Tick e tt
  act_meets (Some (ir.Trap k)) e = stays_here (ir.Trap k) e tt
  act_meets (Some (ir.Log x)) e = stays_here (ir.Log x) e tt

  pub step_meets : Step (instruction_at program.functions f p)
  step_meets =
      let register_at : instruction_at program.functions f p ≡ slice_get u.code p =
      ap (λ (o : Option IrFunction). option_and_then (λ (v : IrFunction). slice_get v.code p) o)
      same.top.found in
      subst Step (sym register_at) (act_meets (slice_get u.code p) refl)
