-- A transaction that only looks: its end is that of a look at its compartment, and none of its
-- turns is refused or changes anything.
use Rattle.std.specs.Prelude.{ℕ, ◌≡◌, true, List, Option, ℤ}
use Rattle.cache_model.specs.Cache.{Cache}
use Rattle.pmem.specs.Device.{Device}
use Rattle.pm_machine.specs.declared.image.Image.{Image}
use Rattle.pm_machine.specs.Looking.{look_of}
use Rattle.pm_machine.specs.Machine.{start}
use Rattle.pm_machine.specs.Runs.{heap_in}
use Rattle.pool_workers.specs.declared.answer.TurnAnswer.{TurnAnswer}
use Rattle.pool_workers.specs.declared.look.Look.{Look}
use Rattle.pool_workers.specs.declared.task.Task.{Task}
use Rattle.pool_workers.specs.declared.task.Task.TheVariants.{Looking}
use Rattle.pool_workers.specs.Task.{first_task, IsGoing, Turned}
use Rattle.workers_law.specs.Fate.{fate_of, task_steps}

abbrev pub LookTurnsLaw : Type 0
LookTurnsLaw =
    ((image : Image) (tx : ℕ) (args : List ℤ) (c : Cache) →
    let seen = look_of image image.parts.most (start image tx args) (heap_in image.parts.sizes c) in
    (fate_of image (first_task true image tx args) c ≡ seen.end)
    × (task_steps image (first_task true image tx args) c ≡ seen.steps))
    × ((a : TurnAnswer) (image : Image) (tx : ℕ) (l : Look) (o : Option Task) (d b : Device) →
    Turned a image (Looking tx l) o d b → IsGoing a × (b ≡ d))
