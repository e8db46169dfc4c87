-- The piece of each instruction that stays in its function, run alone on a heap that stands for a
-- pool, does what the instruction does on the pool. It reaches its end with the registers, the
-- ticks and a heap that stands for the instruction's pool, or traps as the instruction does; its
-- effects show what the instruction does. The registers hold words: a divisor that is no word could
-- be 0 for the machine but not for the code.
use Rattle.std.specs.Prelude.{ℕ, ◌+◌, ◌≤◌, ◌≡◌, Bool, true, false, List, length, Some, ℤ}
use Rattle.pool_map.specs.declared.trap.TrapKind.{TrapKind}
use Rattle.pool_map.specs.Trap.{trap_number}
use Rattle.pool_map.specs.PoolMap.{PoolMap}
use Rattle.pool_map.specs.PoolFits.{PoolFits}
use Rattle.pool_layout.specs.declared.limits.Sizes.{Sizes}
use Rattle.ir.specs.declared.instruction.Instruction.{Instruction}
use Rattle.ir.specs.declared.instruction.Instruction.TheVariants as ir
use Rattle.ir.specs.declared.site.Site.{Site}
use Rattle.ir.specs.declared.function.Ir.{Ir}
use Rattle.ir.specs.WellFormed.{IsInstruction}
use Rattle.code_meaning.specs.Code.{Frame, Here, Move, Goes, Ends, Trapped, register_at, act}
use Rattle.code_meaning.specs.Deeds.{Deed, site, deeds_at}
use Rattle.pm_machine.specs.declared.effect.Effect.{Effect}
use Rattle.pm_machine.specs.Effects.{heap_end}
use Rattle.pm_alloc.specs.Runs as alone
use Rattle.pm_alloc.specs.LocalRun.{World, Loc, local_step}
use Rattle.codegen.specs.Emit.{local_code}
use Rattle.machine_law.specs.emitted.Moments.{onto}
use Rattle.machine_law.specs.emitted.Standing.{Stays}
use Rattle.machine_law.specs.emitted.Steps.{piece_steps}
use Rattle.machine_law.specs.pieces.Stands.{Stands}
use Rattle.machine_law.specs.pieces.Fits.{IsFit}
use Rattle.machine_law.specs.pieces.Shows.{ShowsDeeds}
use Rattle.machine_law.specs.pieces.Words.{HoldWords}

-- `logged` agrees with the piece about the instruction's sites; b: a log comes right before it
abbrev pub AgreesOnSites : (Site → Bool) → (f p : ℕ) → Bool → Instruction → Type 0
AgreesOnSites logged f p b (ir.Store x from line) = logged (site f p false) ≡ b
AgreesOnSites logged f p b (ir.New to kind fill line) = logged (site f p true) ≡ fill
AgreesOnSites logged f p b (ir.Const to v) = Unit {0}
AgreesOnSites logged f p b (ir.Copy to from) = Unit {0}
AgreesOnSites logged f p b (ir.Bin o to left right) = Unit {0}
AgreesOnSites logged f p b (ir.Jump q) = Unit {0}
AgreesOnSites logged f p b (ir.Branch on q) = Unit {0}
AgreesOnSites logged f p b (ir.Load to x) = Unit {0}
AgreesOnSites logged f p b (ir.Free from kind line) = Unit {0}
AgreesOnSites logged f p b (ir.Call to g args) = Unit {0}
AgreesOnSites logged f p b (ir.Return from) = Unit {0}
AgreesOnSites logged f p b ir.Tick = Unit {0}
AgreesOnSites logged f p b (ir.Trap k) = Unit {0}
AgreesOnSites logged f p b (ir.Log x) = Unit {0}

-- the world after the effects, with t ticks left
abbrev pub onward : World → List Effect → ℕ → World
onward v es t = record {
  heap = heap_end v.heap es;
  seen = onto es v.seen;
  ticks = t;
}

-- after a piece of length n
pub record PieceEnds (s : Sizes) (n : ℕ) (v : World) (es : List Effect) (regs : List ℤ)
    (w : PoolMap) (t : ℕ) (l : Loc) : Type 0 where
  pub place : l.at ≡ n
  pub temp : length l.temp ≡ 8
  pub own : (r : ℕ) → l.own r ≡ register_at regs r
  pub world : l.world ≡ onward v es t
  pub stands : Stands s l.world.heap w

-- from world v the code makes this move, with these deeds, and the piece of length n ends
-- accordingly
pub data Does (s : Sizes) (logged : Site → Bool) (n : ℕ) (v : World) (ds : List Deed) : Move
    → alone.Next World Loc → Type 0 where
  goes : {f p : ℕ} {regs : List ℤ} {below : List Frame} {w : PoolMap} {t : ℕ} {l : Loc}
      (es : List Effect) →
      ShowsDeeds s logged ds es → PieceEnds s n v es regs w t l
      → Does s logged n v ds (Goes (Here f p regs below w t)) (alone.Goes l)
  traps : (k : TrapKind) (es : List Effect) →
      ShowsDeeds s logged ds es → Does s logged n v ds (Ends (Trapped k))
      (alone.Traps (trap_number k) (onward v es v.ticks))

abbrev pub PieceLaw : Type 0
PieceLaw = (s : Sizes) (ir : Ir) (r n f p : ℕ) (i : Instruction) (b : Bool) (logged : Site → Bool)
    (regs : List ℤ) (below : List Frame) (w : PoolMap) (v : World) (temp : List ℤ) →
    IsFit s ir.shapes → PoolFits ir.shapes w → Stands s v.heap w → HoldWords regs
    → IsInstruction ir r n i → Stays i → AgreesOnSites logged f p b i
    → length temp ≡ 8 →
    (k : ℕ) × (k ≤ 1 + piece_steps s)
    × Does s logged (length (local_code s ir.shapes b i)) v (deeds_at ir.shapes f p regs w (Some i))
    (act ir (Some i) f p regs below w v.ticks)
    (alone.local_run (local_step s (local_code s ir.shapes b i)) k
    (record { at = 0; own = register_at regs; temp = temp; world = v }))
