-- What a session of workers knows: the unfinished transaction of each worker, and whether all
-- workers are down. The pools are on the device.
use Rattle.std.specs.Prelude.{ℕ, ◌≡◌, ◌≤◌, Bool, true, false, List, [], ◌∷◌, Option, None, Some}
use Rattle.std.specs.Prelude.{length, nat_lt, if◌then◌else◌, replicate}
use Rattle.pmem.specs.Device.{Device}
use Rattle.pm_machine.specs.declared.image.Image.{Image}
use Rattle.tx_run.specs.declared.standing.Standing.{Standing}
use Rattle.tx_run.specs.declared.standing.Standing.TheVariants as stands
use Rattle.pool_workers.specs.declared.task.Task.{Task}
use Rattle.pool_workers.specs.Crew.{Tasks, task_at, AreTasks, AreUncut, HasCompartments}
use Rattle.pool_workers.specs.Crew.{standing_at}
use Rattle.cnvm_session.specs.declared.answer.Answer.TheVariants as answer
use Rattle.workers_session.specs.declared.line.WorkersLine.{WorkersLine}
use Rattle.workers_session.specs.declared.line.WorkersLine.TheVariants.{Plain, RefusedWorker}
use Rattle.workers_session.specs.declared.line.WorkersLine.TheVariants.{RefusedBusy}

pub record WorkersState : Type 0 where
  pub tasks : Tasks
  pub down : Bool

-- workers that are up, none of which has a transaction
abbrev pub new_workers : (count : ℕ) → WorkersState
new_workers count = record { tasks = replicate count None; down = false }

-- What holds between commands: the transactions are the image's, and each worker has a compartment.
-- While the workers aren't down, the device is on and no turn was refused.
pub record IsReadyFor (image : Image) (w : WorkersState) (d : Device) : Type 0 where
  pub few : length w.tasks ≤ 8
  pub tasks : AreTasks image w.tasks
  pub lines : HasCompartments image w.tasks d
  pub on : w.down ≡ false → d.on ≡ true
  pub uncut : w.down ≡ false → AreUncut w.tasks

-- the line for a worker that has an unfinished transaction
abbrev pub busy_line : ℕ → Option Task → Option WorkersLine
busy_line worker None = None
busy_line worker (Some t) = Some (RefusedBusy worker)

-- Why a worker takes no command, in this order: all are down, there is no such worker, or it has an
-- unfinished transaction.
abbrev pub unready : WorkersState → ℕ → Option WorkersLine
unready w worker =
    if w.down then Some (Plain answer.RefusedDown)
    else (if nat_lt worker (length w.tasks) then busy_line worker (task_at w.tasks worker)
    else Some (RefusedWorker worker))

-- the line for a compartment that has a mark
abbrev pub marked_line : Standing → Option WorkersLine
marked_line stands.Ready = None
marked_line (stands.Unusable kind) = Some (Plain (answer.RefusedUnusable kind))
marked_line stands.Numbers = None
marked_line stands.Off = None

abbrev pub refused_first : Option WorkersLine → Option WorkersLine → Option WorkersLine
refused_first None other = other
refused_first (Some line) other = Some line

-- the same; and last, its compartment has a mark
abbrev pub refusal_at : Image → WorkersState → ℕ → Device → Option WorkersLine
refusal_at image w worker d =
    refused_first (unready w worker) (marked_line (standing_at image worker d))

-- the first of these numbers that is no worker's, since it isn't below the number of workers
abbrev pub stranger_in : (count : ℕ) → List ℕ → Option ℕ
stranger_in count [] = None
stranger_in count (worker ∷ workers) =
    if nat_lt worker count then stranger_in count workers else Some worker
