-- The piece of each instruction that stays in its function does what the instruction does.
use Rattle.std.proofs.Common.{ℕ, ◌+◌, ◌≤◌, Bool, List, length, Some, ℤ, pos, get_or, refl}
use Rattle.std.proofs.Common.{subst}
use Rattle.pool_layout.specs.declared.limits.Sizes.{Sizes}
use Rattle.pool_map.specs.PoolFits.{PoolFits}
use Rattle.pool_map.specs.PoolMap.{PoolMap}
use Rattle.ir.specs.declared.function.Ir.{Ir}
use Rattle.ir.specs.declared.instruction.Instruction.{Instruction}
use Rattle.ir.specs.declared.instruction.Instruction.TheVariants as ir
use Rattle.ir.specs.declared.site.Site.{Site}
use Rattle.ir.specs.WellFormed.{IsInstruction}
use Rattle.code_meaning.specs.Code.{Frame, register_at, act}
use Rattle.code_meaning.specs.Deeds.{deeds_at}
use Rattle.pm_alloc.specs.LocalRun.{World, local_step}
use Rattle.pm_alloc.specs.Runs.{local_run}
use Rattle.pm_alloc.proofs.Search.{eight_are}
use Rattle.codegen.specs.Emit.{local_code}
use Rattle.machine_law.specs.emitted.Standing.{Stays}
use Rattle.machine_law.specs.emitted.Steps.{piece_steps}
use Rattle.machine_law.specs.pieces.Stands.{Stands}
use Rattle.machine_law.specs.pieces.Fits.{IsFit}
use Rattle.machine_law.specs.pieces.Words.{HoldWords}
use Rattle.machine_law.specs.pieces.Law.{AgreesOnSites, Does, PieceLaw}
use Rattle.machine_law.proofs.pieces.Locals.{Done, const_does, copy_does, log_does, tick_does}
use Rattle.machine_law.proofs.pieces.Locals.{trap_does, bin_does}
use Rattle.machine_law.proofs.pieces.Objects.{load_does, store_does, free_does}
use Rattle.machine_law.proofs.pieces.Made.{new_does}

module _ (s : Sizes) (logged : Site → Bool) (program : Ir) (r n f p : ℕ) (regs : List ℤ)
    (below : List Frame) (x : ℕ → ℤ) (v : World) (w : PoolMap) (fit : IsFit s program.shapes)
    (fits : PoolFits program.shapes w) (stands : Stands s v.heap w)
    (words : HoldWords regs) (b : Bool) where
  does : (i : Instruction) → IsInstruction program r n i → Stays i → AgreesOnSites logged f p b i →
      Done s logged program.shapes f p regs below x v w fit fits stands
      (local_code s program.shapes b i) (deeds_at program.shapes f p regs w (Some i))
      (act program (Some i) f p regs below w v.ticks)
  does (ir.Const to c) is stays marked =
      const_does s logged program.shapes f p regs below x v w fit fits stands to c
  does (ir.Copy to from) is stays marked =
      copy_does s logged program.shapes f p regs below x v w fit fits stands to from
  does (ir.Bin o to left right) is stays marked =
      bin_does s logged program.shapes f p regs below x v w fit fits stands o to left right
      (words right)
  does (ir.Load to y) is stays marked =
      load_does s logged program.shapes f p regs below x v w fit fits stands
      words r y is.1 to
  does (ir.Store y from line) is stays marked =
      store_does s logged program.shapes f p regs below x v w fit fits stands
      words r y is.1 b from marked
  does (ir.New to kind fill line) is stays marked =
      new_does s logged program.shapes f p regs below x v w fit fits stands to kind fill
      is.1 marked
  does (ir.Free from kind line) is stays marked =
      free_does s logged program.shapes f p regs below x v w fit fits stands
      words from kind is.1.0
  does ir.Tick is stays marked =
      tick_does s logged program.shapes f p regs below x v w fit fits stands v.ticks refl
  does (ir.Trap k) is stays marked =
      trap_does s logged program.shapes f p regs below x v w fit fits stands k
  does (ir.Log y) is stays marked =
      log_does s logged program.shapes f p regs below x v w fit fits stands
  does (ir.Jump q) is stays marked = absurd stays
  does (ir.Branch on q) is stays marked = absurd stays
  does (ir.Call to g args) is stays marked = absurd stays
  does (ir.Return from) is stays marked = absurd stays

pub piece_does : PieceLaw
piece_does s program r n f p i b logged regs below w v temp fit fits stands words is stays marked
    long =
    subst (λ (ts : List ℤ). (k : ℕ) × (k ≤ 1 + piece_steps s)
    × Does s logged (length (local_code s program.shapes b i)) v
    (deeds_at program.shapes f p regs w (Some i)) (act program (Some i) f p regs below w v.ticks)
    (local_run (local_step s (local_code s program.shapes b i)) k
    (record { at = 0; own = register_at regs; temp = ts; world = v }))) (eight_are temp long)
    (does s logged program r n f p regs below (λ j. get_or temp j (pos 0)) v w fit fits stands
    words b i is stays marked)
