-- The count of faults in a turn.
use Rattle.std.proofs.Common.{◌≤◌, Option, subst}
use Rattle.pmem.specs.Device.{Device}
use Rattle.pmem.specs.declared.answer.Refusal.TheVariants as refusal
use Rattle.pm_machine.specs.declared.image.Image.{Image}
use Rattle.pmem.proofs.Parts.{all_rise, part_rise, part_failed}
use Rattle.pool_workers.specs.declared.answer.TurnAnswer.{TurnAnswer}
use Rattle.pool_workers.specs.declared.answer.TurnAnswer.TheVariants as answer
use Rattle.pool_workers.specs.declared.task.Task.{Task}
use Rattle.pool_workers.specs.Task.{piece_of, Turned}
use Rattle.workers_law.specs.Faults.{TurnFaults}

turn_rise : (a : TurnAnswer) (image : Image) (t : Task) (o : Option Task) (d b : Device) →
    Turned a image t o d b → d.faults ≤ b.faults
turn_rise answer.Idle image t o d b turned = absurd turned
turn_rise answer.Went image t o d b turned = all_rise (piece_of image t d.cache) d b turned.2
turn_rise (answer.Done v l) image t o d b turned = all_rise (piece_of image t d.cache) d b turned.2
turn_rise (answer.Trap k) image t o d b turned = all_rise (piece_of image t d.cache) d b turned.2
turn_rise (answer.Aborted k) image t o d b turned = all_rise (piece_of image t d.cache) d b turned.2
turn_rise answer.Off image t o d b turned =
    part_rise (piece_of image t d.cache) refusal.Off d b turned.0
turn_rise answer.Failed image t o d b turned =
    part_rise (piece_of image t d.cache) refusal.Failed d b turned.0
turn_rise answer.NoMemory image t o d b turned =
    part_rise (piece_of image t d.cache) refusal.NoMemory d b turned.0

pub turn_faults : TurnFaults
turn_faults a image t o d b turned = (
  turn_rise a image t o d b turned,
  λ is. part_failed (piece_of image t d.cache) d b
      (subst (λ (x : TurnAnswer). Turned x image t o d b) is turned).0,
)
