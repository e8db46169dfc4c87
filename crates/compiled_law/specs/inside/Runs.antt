-- How the machine's run of a compiled transaction ends, given how the run of its intermediate code
-- does: it is sound, and it ends as the code does, on a heap that stands for the code's pool.
use Rattle.std.specs.Prelude.{◌≡◌, ℕ, Bool, List}
use Rattle.cache_model.specs.Cache.{Words}
use Rattle.pool_map.specs.PoolFits.{PoolFits}
use Rattle.ir.specs.declared.function.Ir.{Ir}
use Rattle.code_meaning.specs.Code as code
use Rattle.pm_machine.specs.declared.effect.Effect.{Effect}
use Rattle.pm_machine.specs.declared.effect.End.{End}
use Rattle.pm_machine.specs.declared.effect.End.TheVariants.{Halted, Trapped}
use Rattle.pm_machine.specs.declared.records.Policy.TheVariants.{EndPool}
use Rattle.pm_machine.specs.declared.image.Image.{Image}
use Rattle.pm_machine.specs.Effects.{heap_end}
use Rattle.pm_machine.specs.Logging.{blank, takes}
use Rattle.pm_machine.specs.Machine.{Run, Finished}
use Rattle.run_law.specs.Sound.{IsSoundRun}
use Rattle.cnvm_session.specs.Marks.{policy_of}
use Rattle.machine_law.specs.pieces.Stands.{Stands}
use Rattle.machine_law.specs.pieces.Words.{HasWords}

abbrev pub EndsAs : Image → Ir → code.CodeEnd → End → Words → Type 0
EndsAs image ir (code.Ended w v t) end heap =
    (end ≡ Halted v) × Stands image.parts.sizes heap w × PoolFits ir.shapes w × HasWords w
EndsAs image ir (code.Trapped k) end heap = end ≡ Trapped k
EndsAs image ir code.Unfinished end heap = ⊥
EndsAs image ir code.Stuck end heap = ⊥

-- `n`: the number of words that take a record, by whether the run may roll back
pub record RunIs (image : Image) (ir : Ir) (heap : Words) (e : code.CodeEnd) (n : Bool → ℕ)
    (run : Run) : Type 0 where
  pub end : End
  pub effects : List Effect
  pub is : run ≡ Finished end effects
  pub sound : IsSoundRun EndPool end effects
  pub ends : EndsAs image ir e end (heap_end heap effects)
  pub records : (r : Bool) → takes (blank (policy_of r)) effects ≡ n r
