-- A transaction that only looks, turn by turn.
use Rattle.std.proofs.Common.{◌≡◌, ℕ, Option, refl}
use Rattle.pmem.specs.Device.{Device}
use Rattle.pm_machine.specs.declared.image.Image.{Image}
use Rattle.pool_workers.specs.declared.answer.TurnAnswer.{TurnAnswer}
use Rattle.pool_workers.specs.declared.answer.TurnAnswer.TheVariants as answer
use Rattle.pool_workers.specs.declared.look.Look.{Look}
use Rattle.pool_workers.specs.declared.task.Task.{Task}
use Rattle.pool_workers.specs.declared.task.Task.TheVariants.{Looking}
use Rattle.pool_workers.specs.Task.{IsGoing, Turned}
use Rattle.workers_law.specs.LookTurns.{LookTurnsLaw}

look_turned : (a : TurnAnswer) (image : Image) (tx : ℕ) (l : Look) (o : Option Task) (d b : Device)
    → Turned a image (Looking tx l) o d b → IsGoing a × (b ≡ d)
look_turned answer.Idle image tx l o d b is = absurd is
look_turned answer.Went image tx l o d b is = (tt, is.2)
look_turned (answer.Done v n) image tx l o d b is = (tt, is.2)
look_turned (answer.Trap k) image tx l o d b is = (tt, is.2)
look_turned (answer.Aborted k) image tx l o d b is = (tt, is.2)
look_turned answer.Off image tx l o d b is = absurd is.0
look_turned answer.Failed image tx l o d b is = absurd is.0
look_turned answer.NoMemory image tx l o d b is = absurd is.0

pub look_turns : LookTurnsLaw
look_turns = ((λ image tx args c. (refl, refl)), look_turned)
