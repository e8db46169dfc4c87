-- A transaction that was played turn by turn is a call: its last turn answers what `call` answers
-- from the compartment in which it began, whatever fences came in between. So everything known of
-- calls is known of it.
use Rattle.std.specs.Prelude.{ℕ, ◌+◌, ◌≡◌, true, List, None, ℤ}
use Rattle.cache_model.specs.Cache.{Cache}
use Rattle.cache_model.specs.Play.{play}
use Rattle.pmem.specs.Device.{Device}
use Rattle.pool_map.specs.declared.trap.TrapKind.{TrapKind}
use Rattle.pm_machine.specs.declared.effect.End.TheVariants.{Halted, Trapped}
use Rattle.pm_machine.specs.declared.image.Image.{Image}
use Rattle.pm_machine.specs.declared.records.Policy.TheVariants.{EndPool}
use Rattle.tx_run.specs.declared.answer.CallAnswer.TheVariants as call
use Rattle.tx_run.specs.Called.{Called}
use Rattle.tx_run.specs.Due.{due_call}
use Rattle.pool_workers.specs.declared.task.Task.{Task}
use Rattle.pool_workers.specs.declared.task.Task.TheVariants.{Begun}
use Rattle.pool_workers.specs.Task.{first_machine}
use Rattle.workers_law.specs.Fate.{fate_of, task_logs, task_steps}

-- a device with this cache that refuses nothing
abbrev pub quiet_on : ℕ → Cache → Device
quiet_on lines c = record {
  lines = lines;
  cache = c;
  on = true;
  left = None;
  armed = None;
  faults = 0;
}

-- a transaction at its start
abbrev pub begun_task : Image → (tx : ℕ) → List ℤ → Task
begun_task image tx args = Begun tx args (first_machine image tx args)

abbrev pub CalledLaw : Type 0
CalledLaw =
    (image : Image) (tx : ℕ) (args : List ℤ) (lines : ℕ) (c : Cache) (k : ℕ) →
    ((v : ℤ) → fate_of image (begun_task image tx args) c ≡ Halted v →
    Called (call.Done v (task_logs image (begun_task image tx args) c)) EndPool image tx args
    (quiet_on lines c) (quiet_on lines (play c (due_call EndPool image tx args c)))
    k (k + task_steps image (begun_task image tx args) c))
    × ((t : TrapKind) → fate_of image (begun_task image tx args) c ≡ Trapped t →
    Called (call.Trap t) EndPool image tx args
    (quiet_on lines c) (quiet_on lines (play c (due_call EndPool image tx args c)))
    k (k + task_steps image (begun_task image tx args) c))
