-- The workers' transactions: for each worker its unfinished transaction, if there is one.
use Rattle.std.specs.Prelude.{ℕ, ◌≡◌, ◌≢◌, ◌≤◌, ◌+◌, ◌*◌, List, Option, Some, None, slice_index_or}
use Rattle.std.specs.Prelude.{length, ℤ, Bool}
use Rattle.std.specs.List.{AllByRecursion}
use Rattle.cache_model.specs.Cache.{view}
use Rattle.pmem.specs.Device.{Device}
use Rattle.pool_layout.specs.Sizes.{pool_lines}
use Rattle.pm_machine.specs.declared.image.Image.{Image}
use Rattle.tx_run.specs.declared.standing.Standing.{Standing}
use Rattle.tx_run.specs.Standing.{standing_of}
use Rattle.pool_workers.specs.declared.answer.BeginAnswer.{BeginAnswer}
use Rattle.pool_workers.specs.declared.answer.BeginAnswer.TheVariants as begin
use Rattle.pool_workers.specs.declared.answer.TurnAnswer.{TurnAnswer}
use Rattle.pool_workers.specs.declared.task.Task.{Task}
use Rattle.pool_workers.specs.Compartment.{device_in, first_line, Aside}
use Rattle.pool_workers.specs.Task.{IsTaskOr, IsUncutOr, Turned, first_task}

abbrev pub Tasks : Type 0
Tasks = List (Option Task)

-- the transaction of a worker
abbrev pub task_at : Tasks → ℕ → Option Task
task_at ts worker = slice_index_or ts worker None

-- each is a transaction of the image
abbrev pub AreTasks : Image → Tasks → Type 0
AreTasks image ts = AllByRecursion (IsTaskOr image) ts

-- no turn of any of them was refused
abbrev pub AreUncut : Tasks → Type 0
AreUncut ts = (worker : ℕ) → IsUncutOr (task_at ts worker)

-- the other workers' transactions stay
abbrev pub OtherTasksStay : ℕ → Tasks → Tasks → Type 0
OtherTasksStay worker old new = (j : ℕ) → j ≢ worker → task_at new j ≡ task_at old j

-- a worker's compartment of the whole device
abbrev pub compartment : Image → ℕ → Device → Device
compartment image worker d =
    device_in (first_line image.parts.sizes worker) (pool_lines image.parts.sizes) d

-- all lines outside the compartment are as they were, except for fences
abbrev pub StaysAside : Image → ℕ → (d b : Device) → Type 0
StaysAside image worker d b =
    Aside (first_line image.parts.sizes worker) (pool_lines image.parts.sizes) d b

-- the compartment lies within the device
abbrev pub HasCompartment : Image → ℕ → Device → Type 0
HasCompartment image worker d =
    first_line image.parts.sizes worker + pool_lines image.parts.sizes ≤ d.lines

-- as many compartments as workers
abbrev pub HasCompartments : Image → Tasks → Device → Type 0
HasCompartments image ts d = d.lines ≡ pool_lines image.parts.sizes * length ts

-- whether the compartment's pool takes a transaction
abbrev pub standing_at : Image → ℕ → Device → Standing
standing_at image worker d = standing_of (view (compartment image worker d).cache)

-- the answer for a worker without a transaction whose pool takes one
abbrev pub Begins : BeginAnswer → (looks : Bool) → Image → (tx : ℕ) → List ℤ → Option Task → Type 0
Begins begin.Started looks image tx args o = o ≡ Some (first_task looks image tx args)
Begins begin.NoMemory looks image tx args o = o ≡ None
Begins begin.Busy looks image tx args o = ⊥
Begins (begin.Unusable k) looks image tx args o = ⊥
Begins begin.Numbers looks image tx args o = ⊥
Begins begin.Off looks image tx args o = ⊥

-- A turn of a worker that has a transaction, on a device that is on: in its own compartment
-- `Turned` holds, and all else stays, except for fences.
pub record TurnOf (image : Image) (worker : ℕ) (answer : TurnAnswer) (ts us : Tasks) (d b : Device)
    : Type 0 where
  pub task : Task
  pub task_is : task_at ts worker ≡ Some task
  pub turned :
      Turned answer image task (task_at us worker)
      (compartment image worker d) (compartment image worker b)
  pub is_task : IsTaskOr image (task_at us worker)
  pub others : OtherTasksStay worker ts us
  pub aside : StaysAside image worker d b
