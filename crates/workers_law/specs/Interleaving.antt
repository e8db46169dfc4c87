-- Every interleaving of turns: whatever the order in which workers are given turns, and wherever it
-- stops, each compartment is as its own worker's transaction alone would leave it, except for
-- fences.
use Rattle.std.specs.Prelude.{ℕ, ◌≡◌, List, [], ◌∷◌, Option, Some, None, ℤ}
use Rattle.cache_model.specs.Cache.{Words, Cache}
use Rattle.cache_model.specs.Image.{IsImage}
use Rattle.pmem.specs.Device.{Device}
use Rattle.pm_machine.specs.declared.image.Image.{Image}
use Rattle.pm_machine.specs.declared.records.Policy.TheVariants.{EndPool}
use Rattle.tx_run.specs.Due.{due_call}
use Rattle.crash_law.specs.Law.{IsLeft, AreMarked}
use Rattle.pool_workers.specs.declared.answer.TurnAnswer.{TurnAnswer}
use Rattle.pool_workers.specs.declared.task.Task.{Task}
use Rattle.pool_workers.specs.Crew.{Tasks, task_at, compartment, TurnOf}
use Rattle.workers_law.specs.Standing.{ShowsSome, StandsOr}
use Rattle.pool_workers.specs.Task.{IsTaskOr, IsGoing}

-- the transaction that a worker began last, and the cache of its compartment at that time
pub record TaskStart : Type 0 where
  pub tx : ℕ
  pub args : List ℤ
  pub cache : Cache

-- turns of these workers in this order, none of them refused
abbrev pub Turns : Image → List ℕ → (ts : Tasks) → (d : Device) → (us : Tasks) → (b : Device)
    → Type 0
Turns image [] ts d us b = (us ≡ ts) × (b ≡ d)
Turns image (worker ∷ workers) ts d us b =
    (answer : TurnAnswer) × (mid : Tasks) × (m : Device)
    × TurnOf image worker answer ts mid d m × IsGoing answer × Turns image workers mid m us b

-- a worker that began a transaction is in it, or has played all of it
abbrev pub StandsFor : Image → Option TaskStart → Option Task → Cache → Type 0
StandsFor image None o c = Unit {0}
StandsFor image (Some s) o c = StandsOr image s.tx s.args s.cache o c

abbrev pub AllStand : Image → (ℕ → Option TaskStart) → Tasks → Device → Type 0
AllStand image starts ts d =
    (j : ℕ) →
    IsTaskOr image (task_at ts j)
    × StandsFor image (starts j) (task_at ts j) (compartment image j d).cache

-- After any turns that weren't refused every worker is still in its transaction, or has played all
-- of it. After one more turn, refused or not, each compartment shows some of its own due list; so
-- whatever a power cut then leaves of it is an image that a cut of its own call may leave.
abbrev pub InterleavingLaw : Type 0
InterleavingLaw =
    ((image : Image) (starts : ℕ → Option TaskStart) (workers : List ℕ) (ts us : Tasks)
    (d b : Device) →
    AllStand image starts ts d → Turns image workers ts d us b → AllStand image starts us b)
    × ((image : Image) (starts : ℕ → Option TaskStart) (worker : ℕ) (answer : TurnAnswer)
    (ts us : Tasks) (d b : Device) →
    AllStand image starts ts d → TurnOf image worker answer ts us d b →
    (j : ℕ) (s : TaskStart) → starts j ≡ Some s →
    ShowsSome (due_call EndPool image s.tx s.args s.cache) s.cache (compartment image j b).cache
    × (AreMarked s.cache → (left : Words) → IsImage (compartment image j b).cache left →
    IsLeft s.cache (due_call EndPool image s.tx s.args s.cache) left))
