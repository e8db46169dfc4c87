-- The phase that is answered for a transaction is that of the seal in its compartment.
use Rattle.std.specs.Prelude.{ℕ, ◌≡◌, Bool, List, Some, ℤ}
use Rattle.cache_model.specs.Cache.{Cache, view}
use Rattle.pmem.specs.Device.{Device}
use Rattle.pmem.specs.declared.answer.Phase.{Phase}
use Rattle.pmem.specs.declared.answer.Phase.TheVariants.{Sealed}
use Rattle.pool_layout.specs.declared.places.TheConstants.{DONE}
use Rattle.args_log.specs.Next.{number_after}
use Rattle.args_log.specs.Phase as seal
use Rattle.args_log.specs.PhaseLaw.{LacksSeal}
use Rattle.pm_machine.specs.declared.image.Image.{Image}
use Rattle.pool_workers.specs.declared.answer.TurnAnswer.{TurnAnswer}
use Rattle.pool_workers.specs.declared.answer.TurnAnswer.TheVariants as answer
use Rattle.pool_workers.specs.declared.task.Task.{Task}
use Rattle.pool_workers.specs.declared.task.Task.TheVariants.{Begun, Running, Ending, Cut}
use Rattle.pool_workers.specs.declared.task.Task.TheVariants.{Looking}
use Rattle.pool_workers.specs.Task.{first_task, task_phase, IsUncut, WentWhole, Turned}
use Rattle.workers_law.specs.Fenced.{fenced_cache}

-- the seal of call k in the cache of a compartment, as the transaction knows it
abbrev pub InPhase : ℤ → Task → Cache → Type 0
InPhase k (Begun tx args m) c = LacksSeal k (c 5) × (k ≡ number_after (view c DONE))
InPhase k (Running tx m a left) c = seal.phase_of (c 5) k ≡ Sealed
InPhase k (Ending tx end l) c = seal.phase_of (c 5) k ≡ Sealed
InPhase k (Looking tx l) c = LacksSeal k (c 5)
InPhase k (Cut p) c = seal.phase_of (c 5) k ≡ p

-- This holds when the transaction begins on a compartment without that seal; it stays true after
-- each whole turn and after each fence of another worker, and is true after a turn that the power
-- cut. So `phase` answers the phase of the seal's line.
abbrev pub TurnPhaseLaw : Type 0
TurnPhaseLaw =
    ((looks : Bool) (image : Image) (k : ℤ) (tx : ℕ) (args : List ℤ) (c : Cache) →
    LacksSeal k (c 5) → k ≡ number_after (view c DONE) →
    InPhase k (first_task looks image tx args) c)
    × ((image : Image) (k : ℤ) (a : TurnAnswer) (t u : Task) (d b : Device) →
    IsUncut t → InPhase k t d.cache → WentWhole a image t (Some u) d b → InPhase k u b.cache)
    × ((k : ℤ) (t : Task) (c : Cache) (fenced : Bool) → IsUncut t → InPhase k t c →
    InPhase k t (fenced_cache fenced c))
    × ((image : Image) (k : ℤ) (t : Task) (p : Phase) (d b : Device) →
    InPhase k t d.cache → Turned answer.Off image t (Some (Cut p)) d b →
    InPhase k (Cut p) b.cache)
    × ((k : ℤ) (t : Task) (c : Cache) → InPhase k t c → seal.phase_of (c 5) k ≡ task_phase t)
