-- The count of faults never falls in a turn, and `Failed` is answered only if it rose.
use Rattle.std.specs.Prelude.{◌≡◌, ◌≤◌, Option}
use Rattle.pmem.specs.Device.{Device, FaultsRose}
use Rattle.pm_machine.specs.declared.image.Image.{Image}
use Rattle.pool_workers.specs.declared.answer.TurnAnswer.{TurnAnswer}
use Rattle.pool_workers.specs.declared.answer.TurnAnswer.TheVariants.{Failed}
use Rattle.pool_workers.specs.declared.task.Task.{Task}
use Rattle.pool_workers.specs.Task.{Turned}

abbrev pub TurnFaults : Type 0
TurnFaults =
    (a : TurnAnswer) (image : Image) (t : Task) (o : Option Task) (d b : Device) →
    Turned a image t o d b →
    (d.faults ≤ b.faults) × (a ≡ Failed → FaultsRose d.faults b.faults)
