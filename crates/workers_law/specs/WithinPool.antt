-- The events of a call and of a recovery lie within its pool, whatever its content: so a window on
-- a compartment never leaves it.
use Rattle.std.specs.Prelude.{ℕ, List, ℤ}
use Rattle.cache_model.specs.Cache.{Cache}
use Rattle.pool_layout.specs.declared.limits.Sizes.{Sizes}
use Rattle.pool_layout.specs.Sizes.{pool_lines}
use Rattle.pm_machine.specs.declared.image.Image.{Image}
use Rattle.pm_machine.specs.declared.records.Policy.TheVariants.{EndPool}
use Rattle.tx_run.specs.Due.{due_call}
use Rattle.recovery.specs.Due.{due_clean}
use Rattle.pool_workers.specs.declared.task.Task.{Task}
use Rattle.pool_workers.specs.Task.{piece_of, IsTask}
use Rattle.workers_law.specs.Interleaved.{AreInside}

-- a call, each piece of it, and the recovery of a pool at rest
abbrev pub InsideLaw : Type 0
InsideLaw =
    ((image : Image) (tx : ℕ) (args : List ℤ) (c : Cache) →
    AreInside (pool_lines image.parts.sizes) (due_call EndPool image tx args c))
    × ((image : Image) (t : Task) (c : Cache) → IsTask image t →
    AreInside (pool_lines image.parts.sizes) (piece_of image t c))
    × ((s : Sizes) (m : ℕ) (c : Cache) → AreInside (pool_lines s) (due_clean s m c))
