-- The images of a compartment whose worker's transaction is in progress are those that a cut of the
-- whole call may leave; and its end, its value and its records are those of its run from the
-- compartment's own heap.
use Rattle.std.specs.Prelude.{ℕ, ◌≡◌, List, [], ℤ}
use Rattle.cache_model.specs.Event.{CacheEvent}
use Rattle.cache_model.specs.Cache.{Words, Cache}
use Rattle.cache_model.specs.Image.{Images, HasOne}
use Rattle.pm_machine.specs.declared.effect.Effect.{Effect}
use Rattle.pm_machine.specs.declared.effect.End.{End}
use Rattle.pm_machine.specs.declared.effect.End.TheVariants.{Halted}
use Rattle.pm_machine.specs.declared.image.Image.{Image}
use Rattle.pm_machine.specs.declared.records.Policy.TheVariants.{EndPool}
use Rattle.pm_machine.specs.Effects.{records_end}
use Rattle.pm_machine.specs.Runs.{heap_in}
use Rattle.crash_law.specs.Pools.{last_of}
use Rattle.crash_law.specs.Law.{IsAtRest, AreMarked}
use Rattle.tx_run.specs.Due.{due_call}
use Rattle.recovery.specs.Due.{due_clean, due_redo}
use Rattle.cut_law.specs.Law.{pool_with, RunsSound, BeginsOn, OwesInImage, RestsInImage, Finishes}
use Rattle.cut_law.specs.Law.{CutImages, RedoImages}
use Rattle.pool_workers.specs.declared.task.Task.TheVariants.{Begun}
use Rattle.pool_workers.specs.Task.{first_machine}
use Rattle.workers_law.specs.Compartments.{AreFirst, own_compartment, own_after}
use Rattle.workers_law.specs.Fate.{fate_of, task_logs}
use Rattle.workers_law.specs.Interleaved.{WorkerEvent}
use Rattle.workers_law.specs.Standing.{ShowsPlayed, ShowsSome}
use Rattle.pool_layout.specs.Good.{Good}

-- Turn by turn: which images there are, that the compartment is at rest after a value, and the end
-- of the transaction.
abbrev pub CutTurnsLaw : Type 0
CutTurnsLaw =
    (image : Image) (super : Words) (tx : ℕ) (args : List ℤ) (c0 : Cache) (one : Words) (d : ℕ)
    (end : End) (es : List Effect) →
    BeginsOn image super tx d c0 one →
    RunsSound EndPool image tx args (heap_in image.parts.sizes c0) end es →
    AreMarked c0 →
    ((c : Cache) → ShowsSome (due_call EndPool image tx args c0) c0 c →
    Images (CutImages EndPool image super tx args d c0 (last_of (pool_with image super) one)
    end es) c)
    × ((c : Cache) → ShowsPlayed (due_call EndPool image tx args c0) [] c0 c →
    Images (Finishes EndPool image super tx args d (heap_in image.parts.sizes c0)
    (last_of (pool_with image super) one) end es) c)
    × ((c : Cache) (v : ℤ) → end ≡ Halted v → IsAtRest c0 →
    ShowsPlayed (due_call EndPool image tx args c0) [] c0 c → IsAtRest c)
    × (fate_of image (Begun tx args (first_machine image tx args)) c0 ≡ end)
    × (task_logs image (Begun tx args (first_machine image tx args)) c0 ≡ records_end 0 es)

-- The same for the pieces of all workers, and for recoveries. Worker i's due list is that of a
-- call, of the recovery of an owed call, or of the recovery of a pool at rest; then each image of
-- its compartment is one that the law of cuts names for it.
abbrev pub CutPiecesLaw : Type 0
CutPiecesLaw =
    (n : ℕ) (c : Cache) (due : ℕ → List CacheEvent) (first : List WorkerEvent) →
    AreMarked c → AreFirst n due first →
    (i : ℕ) (image : Image) (super : Words) (tx : ℕ) (args : List ℤ) (one : Words) (d : ℕ) →
    HasOne (own_compartment n i c) one →
    ((end : End) (es : List Effect) → BeginsOn image super tx d (own_compartment n i c) one →
    RunsSound EndPool image tx args (heap_in image.parts.sizes (own_compartment n i c)) end es →
    due i ≡ due_call EndPool image tx args (own_compartment n i c) →
    Images (CutImages EndPool image super tx args d (own_compartment n i c)
    (last_of (pool_with image super) one) end es) (own_after n i c first))
    × ((h : Words) (last : ℤ) (end : End) (es : List Effect) (m : ℕ) →
    OwesInImage EndPool image super tx args d h last end es m one →
    RunsSound EndPool image tx args h end es →
    due i ≡ due_redo EndPool image tx args m (own_compartment n i c) →
    Images (RedoImages EndPool image super tx args d h last end es) (own_after n i c first))
    × ((h : Words) (m : ℕ) → RestsInImage image super d h m one →
    due i ≡ due_clean image.parts.sizes m (own_compartment n i c) →
    Images (Good (pool_with image super) d h) (own_after n i c first))
