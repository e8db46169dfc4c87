-- Emitted code keeps the meaning of intermediate code, from every heap that stands for the pool.
use Rattle.std.specs.Prelude.{◌≡◌, ℕ, ◌*◌, ◌-◌, ℤ, List, Some, slice_get}
use Rattle.cache_model.specs.Cache.{Words}
use Rattle.pool_map.specs.declared.trap.TrapKind.{TrapKind}
use Rattle.pool_map.specs.PoolFits.{PoolFits}
use Rattle.pool_map.specs.PoolMap.{PoolMap}
use Rattle.ir.specs.declared.function.Ir.{Ir}
use Rattle.code_meaning.specs.Code.{code_start, exec}
use Rattle.code_meaning.specs.Code as code
use Rattle.code_meaning.specs.Deeds.{Deed, deeds}
use Rattle.pm_machine.specs.declared.effect.Effect.{Effect}
use Rattle.pm_machine.specs.declared.effect.End.TheVariants.{Halted, Trapped}
use Rattle.pm_machine.specs.declared.image.Image.{Image}
use Rattle.pm_machine.specs.declared.op.TxEntry.{TxEntry}
use Rattle.pm_machine.specs.Effects.{heap_end}
use Rattle.pm_machine.specs.Machine.{Run, Finished, mrun}
use Rattle.machine_law.specs.pieces.Shows.{ShowsDeeds}
use Rattle.machine_law.specs.pieces.Stands.{Stands}
use Rattle.machine_law.specs.pieces.Words.{HoldWords, HasWords}
use Rattle.machine_law.specs.matching.Accesses.{accesses}
use Rattle.machine_law.specs.matching.Compiled.{IsCodeOf, is_logged_in_code}
use Rattle.machine_law.specs.matching.Match.{most}

-- the run halts with the code's value, its heap stands for the code's pool, and its effects show
-- the code's deeds
pub record RunHalts (image : Image) (ir : Ir) (heap : Words) (ds : List Deed) (w : PoolMap) (v : ℤ)
    (run : Run) : Type 0 where
  pub effects : List Effect
  pub is : run ≡ Finished (Halted v) effects
  pub stands : Stands image.parts.sizes (heap_end heap effects) w
  pub fits : PoolFits ir.shapes w
  pub words : HasWords w
  pub shows : ShowsDeeds image.parts.sizes (is_logged_in_code ir) ds (accesses effects)

pub record RunTraps (image : Image) (ir : Ir) (ds : List Deed) (k : TrapKind) (run : Run) :
    Type 0 where
  pub effects : List Effect
  pub is : run ≡ Finished (Trapped k) effects
  pub shows : ShowsDeeds image.parts.sizes (is_logged_in_code ir) ds (accesses effects)

-- what the machine's run from a heap does if that of the code, with these deeds, ends like this;
-- well formed code never gets stuck
abbrev pub RunMatches : Image → Ir → Words → List Deed → code.CodeEnd → Run → Type 0
RunMatches image ir heap ds (code.Ended w v t) run = RunHalts image ir heap ds w v run
RunMatches image ir heap ds (code.Trapped k) run = RunTraps image ir ds k run
RunMatches image ir heap ds code.Unfinished run = Unit {0}
RunMatches image ir heap ds code.Stuck run = ⊥

-- If k steps of the code of a transaction lead to an end, at most 80 steps of the machine for each
-- of them, or more where slots are wider, lead to an end too, from every heap that stands for the
-- pool. It is the same end, with a heap that stands for the code's pool, and with loads, stores and
-- logs that show the code's. The arguments and the pool's words are words.
abbrev pub KeepLaw : Type 0
KeepLaw = (image : Image) (ir : Ir) (k tx : ℕ) (entry : TxEntry) (args : List ℤ) (heap : Words)
    (w : PoolMap) →
    IsCodeOf image ir → slice_get image.parts.txs (tx - 1) ≡ Some entry → HoldWords args
    → HasWords w → Stands image.parts.sizes heap w → PoolFits ir.shapes w →
    RunMatches image ir heap (deeds ir k (code_start entry.function args w image.parts.sizes.ticks))
    (exec ir k (code_start entry.function args w image.parts.sizes.ticks))
    (mrun image (k * most image.parts.sizes) heap tx args)
