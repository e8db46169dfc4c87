-- What each command of a script of workers does: its lines, the workers and the device after it,
-- and the count of steps, which rises from k to k1.
use Rattle.std.specs.Prelude.{ℕ, zero, suc, ◌+◌, ◌≡◌, ◌==◌, ◌⊎◌, Bool, true, false, List, [], ◌∷◌}
use Rattle.std.specs.Prelude.{◌++◌, Option, Some, None, length, if◌then◌else◌, ℤ}
use Rattle.std.specs.Option.{option_map_or}
use Rattle.cache_model.specs.Cache.{view}
use Rattle.cache_model.specs.Collapse.{bad}
use Rattle.cache_model.specs.declared.choice.Choice.{Choice}
use Rattle.pmem.specs.Device.{Device, memory_of, powered, with_left, with_armed}
use Rattle.pool_layout.specs.declared.places.TheConstants.{LAST, DONE}
use Rattle.pm_machine.specs.declared.image.Image.{Image}
use Rattle.tx_run.specs.declared.standing.Standing.{Standing}
use Rattle.tx_run.specs.declared.standing.Standing.TheVariants as stands
use Rattle.recovery.specs.declared.answer.RecoverAnswer.{RecoverAnswer}
use Rattle.recovery.specs.declared.answer.RecoverAnswer.TheVariants as recovered
use Rattle.recovery.specs.Recovered.{IsRecovered}
use Rattle.pool_workers.specs.declared.answer.TurnAnswer.{TurnAnswer}
use Rattle.pool_workers.specs.declared.answer.TurnAnswer.TheVariants as turned
use Rattle.pool_workers.specs.declared.task.Task.{Task}
use Rattle.pool_workers.specs.Task.{first_task, task_phase, task_tx, ticks_of}
use Rattle.pool_workers.specs.Crew.{Tasks, task_at, OtherTasksStay, compartment, StaysAside}
use Rattle.pool_workers.specs.Crew.{standing_at, TurnOf}
use Rattle.cnvm_session.specs.declared.answer.Answer.TheVariants as answer
use Rattle.cnvm_session.specs.declared.program.Program.{Program}
use Rattle.cnvm_session.specs.Commands.{call_number, tx_parameters, fallen}
use Rattle.cnvm_session.specs.Marks.{rolls_back_of, looks_of, policy_of, owes_marked}
use Rattle.cnvm_session.specs.Marks.{unsigned_of, owes_unsigned}
use Rattle.cnvm_session.specs.Outcomes.{answer_of_recovery}
use Rattle.workers_script.specs.declared.command.WorkersCommand.{WorkersCommand}
use Rattle.workers_script.specs.declared.command.WorkersCommand.TheVariants as command
use Rattle.workers_session.specs.declared.line.WorkersLine.{WorkersLine}
use Rattle.workers_session.specs.declared.line.WorkersLine.TheVariants.{Own, Plain, Started}
use Rattle.workers_session.specs.declared.line.WorkersLine.TheVariants.{RefusedWorker, RefusedAbort}
use Rattle.workers_session.specs.Looks.{IsPoolText}
use Rattle.workers_session.specs.WorkersState.{WorkersState, new_workers, refusal_at, stranger_in}

-- A moment: the workers, the device, and the steps so far.
pub record Scene : Type 0 where
  pub workers : WorkersState
  pub device : Device
  pub steps : ℕ

abbrev pub scene_of : WorkersState → Device → ℕ → Scene
scene_of w d k = record { workers = w; device = d; steps = k }

-- these lines, and nothing changes
abbrev pub Unchanged : List WorkersLine → Scene → List WorkersLine → Scene → Type 0
Unchanged told x lines y = (lines ≡ told) × (y ≡ x)

-- this single line, and nothing changes
abbrev pub RefusedWith : WorkersLine → Scene → List WorkersLine → Scene → Type 0
RefusedWith line x lines y = Unchanged (line ∷ []) x lines y

-- There was no memory: all workers are down, and nothing else changes.
abbrev pub RunsOut : Scene → List WorkersLine → Scene → Type 0
RunsOut x lines y =
    (lines ≡ Plain answer.NoMemory ∷ [])
    × (y ≡ record {
      workers = record { tasks = x.workers.tasks; down = true };
      device = x.device;
      steps = x.steps;
    })

-- The worker is at the start of its transaction, and nothing else changes.
pub record HasBegun (looks : Bool) (image : Image) (worker tx : ℕ) (args : List ℤ) (x : Scene)
    (lines : List WorkersLine) (y : Scene) : Type 0 where
  pub told : lines ≡ Started worker ∷ []
  pub begun : task_at y.workers.tasks worker ≡ Some (first_task looks image tx args)
  pub others : OtherTasksStay worker x.workers.tasks y.workers.tasks
  pub count : length y.workers.tasks ≡ length x.workers.tasks
  pub up : y.workers.down ≡ false
  pub device : y.device ≡ x.device
  pub steps : y.steps ≡ x.steps

-- A transaction that the program has is begun with as many arguments as it has parameters. One that
-- only looks takes no number.
abbrev pub BeginsAs : Standing → (looks : Bool) → Image → (worker tx : ℕ) → List ℤ → Scene
    → List WorkersLine → Scene → Type 0
BeginsAs stands.Ready looks image worker tx args x lines y =
    HasBegun looks image worker tx args x lines y ⊎ RunsOut x lines y
BeginsAs stands.Numbers true image worker tx args x lines y =
    HasBegun true image worker tx args x lines y ⊎ RunsOut x lines y
BeginsAs stands.Numbers false image worker tx args x lines y =
    RefusedWith (Plain answer.RefusedNumbers) x lines y
BeginsAs (stands.Unusable kind) looks image worker tx args x lines y = ⊥
BeginsAs stands.Off looks image worker tx args x lines y = ⊥

abbrev pub BeginsWith : Bool → (looks : Bool) → Image → (worker tx : ℕ) → List ℤ → Scene
    → List WorkersLine → Scene → Type 0
BeginsWith true looks image worker tx args x lines y =
    BeginsAs (standing_at image worker x.device) looks image worker tx args x lines y
BeginsWith false looks image worker tx args x lines y =
    RefusedWith (Plain answer.RefusedArity) x lines y

-- no worker begins a transaction that is marked as one that rolls back
abbrev pub BeginsBy : (marked looks : Bool) → (count : ℕ) → Image → (worker tx : ℕ) → List ℤ
    → Scene → List WorkersLine → Scene → Type 0
BeginsBy true looks count image worker tx args x lines y = RefusedWith RefusedAbort x lines y
BeginsBy false looks count image worker tx args x lines y =
    BeginsWith (count == length args) looks image worker tx args x lines y

abbrev pub BeginsTo : Option ℕ → Program → (worker tx : ℕ) → List ℤ → Scene → List WorkersLine
    → Scene → Type 0
BeginsTo None program worker tx args x lines y = RefusedWith (Plain answer.RefusedUnknown) x lines y
BeginsTo (Some count) program worker tx args x lines y =
    BeginsBy (rolls_back_of program tx) (looks_of program tx) count program.image worker tx args x
    lines y

abbrev pub BeginsNamed : Option ℕ → Program → (worker : ℕ) → List ℤ → Scene → List WorkersLine
    → Scene → Type 0
BeginsNamed None program worker args x lines y = RefusedWith (Plain answer.RefusedUnknown) x lines y
BeginsNamed (Some tx) program worker args x lines y =
    BeginsTo (tx_parameters program.image tx) program worker tx args x lines y

abbrev pub Starts : Option WorkersLine → Program → (worker : ℕ) → (name : List ℕ) → List ℤ → Scene
    → List WorkersLine → Scene → Type 0
Starts (Some line) program worker name args x lines y = RefusedWith line x lines y
Starts None program worker name args x lines y =
    BeginsNamed (call_number program name) program worker args x lines y

-- the text of the worker's pool; or there was no memory for it
pub record TellsPool (program : Program) (worker : ℕ) (x : Scene) (lines : List WorkersLine)
    (y : Scene) : Type 0 where
  pub text : List ℕ
  pub is_text : IsPoolText program worker x.device text
  pub told : Unchanged (Plain (answer.Shown text) ∷ []) x lines y

abbrev pub ShowsWorker : Option WorkersLine → Program → (worker : ℕ) → Scene → List WorkersLine
    → Scene → Type 0
ShowsWorker (Some line) program worker x lines y = RefusedWith line x lines y
ShowsWorker None program worker x lines y = TellsPool program worker x lines y ⊎ RunsOut x lines y

-- the number of finished transactions and the value of the last, in a worker's compartment
abbrev pub last_text_line : Image → (worker : ℕ) → Device → WorkersLine
last_text_line image worker d =
    Plain (answer.Last (view (compartment image worker d).cache DONE)
    (view (compartment image worker d).cache LAST))

abbrev pub LastsWorker : Option WorkersLine → Image → (worker : ℕ) → Scene → List WorkersLine
    → Scene → Type 0
LastsWorker (Some line) image worker x lines y = RefusedWith line x lines y
LastsWorker None image worker x lines y =
    Unchanged (last_text_line image worker x.device ∷ []) x lines y

-- a line for each unfinished transaction, from this worker on
abbrev pub stopped_line : (worker : ℕ) → Option Task → List WorkersLine
stopped_line worker None = []
stopped_line worker (Some t) = Own worker (answer.Stopped (task_phase t)) ∷ []

abbrev pub stopped_lines : (worker : ℕ) → Tasks → List WorkersLine
stopped_lines worker [] = []
stopped_lines worker (o ∷ os) = stopped_line worker o ++ stopped_lines (suc worker) os

-- whether a worker's unfinished transaction returns `uint64_t`
abbrev pub task_unsigned : Program → Option Task → Bool
task_unsigned program o = unsigned_of program (option_map_or task_tx o 0)

-- the lines of a turn, by whether its transaction returns `uint64_t`, where these are the
-- transactions after it
abbrev pub turn_lines : (unsigned : Bool) → TurnAnswer → (worker : ℕ) → Tasks → List WorkersLine
turn_lines u turned.Idle worker ts = []
turn_lines u turned.Went worker ts = []
turn_lines u (turned.Done value logged) worker ts = Own worker (answer.Done value u logged) ∷ []
turn_lines u (turned.Trap kind) worker ts = Own worker (answer.Trap kind) ∷ []
turn_lines u (turned.Aborted kind) worker ts = Own worker (answer.Aborted kind) ∷ []
turn_lines u turned.Off worker ts = stopped_lines 0 ts
turn_lines u turned.Failed worker ts = Plain answer.DeviceFault ∷ []
turn_lines u turned.NoMemory worker ts = Plain answer.NoMemory ∷ []

-- whether a turn was interrupted; then all workers are down
abbrev pub is_interrupted : TurnAnswer → Bool
is_interrupted turned.Idle = false
is_interrupted turned.Went = false
is_interrupted (turned.Done value logged) = false
is_interrupted (turned.Trap kind) = false
is_interrupted (turned.Aborted kind) = false
is_interrupted turned.Off = true
is_interrupted turned.Failed = true
is_interrupted turned.NoMemory = true

-- A turn of a worker, by its unfinished transaction: a worker without one is idle.
abbrev pub TurnFor : Option Task → Image → (worker : ℕ) → TurnAnswer → Scene → Scene → Type 0
TurnFor None image worker a x y = (a ≡ turned.Idle) × (y ≡ x)
TurnFor (Some t) image worker a x y =
    TurnOf image worker a x.workers.tasks y.workers.tasks x.device y.device
    × (length y.workers.tasks ≡ length x.workers.tasks)
    × (y.steps ≡ x.steps + ticks_of t) × (y.workers.down ≡ is_interrupted a)

abbrev pub TurnsOnce : Program → (worker : ℕ) → Scene → List WorkersLine → Scene → Type 0
TurnsOnce program worker x lines y =
    (a : TurnAnswer) × TurnFor (task_at x.workers.tasks worker) program.image worker a x y
    × (lines ≡ turn_lines (task_unsigned program (task_at x.workers.tasks worker)) a worker
    y.workers.tasks)

-- turns of these workers, in this order, up to one that is interrupted
abbrev pub TurnList : Program → List ℕ → Scene → List WorkersLine → Scene → Type 0
TurnList program [] x lines y = Unchanged [] x lines y
TurnList program (worker ∷ workers) x lines y =
    (first : List WorkersLine) × (rest : List WorkersLine) × (z : Scene)
    × TurnsOnce program worker x first z × (lines ≡ first ++ rest)
    × ((z.workers.down ≡ true → Unchanged [] z rest y)
    × (z.workers.down ≡ false → TurnList program workers z rest y))

abbrev pub TurnsKnown : Option ℕ → Program → List ℕ → Scene → List WorkersLine → Scene → Type 0
TurnsKnown (Some worker) program workers x lines y = RefusedWith (RefusedWorker worker) x lines y
TurnsKnown None program workers x lines y = TurnList program workers x lines y

abbrev pub TurnsGiven : Bool → Program → List ℕ → Scene → List WorkersLine → Scene → Type 0
TurnsGiven true program workers x lines y = RefusedWith (Plain answer.RefusedDown) x lines y
TurnsGiven false program workers x lines y =
    TurnsKnown (stranger_in (length x.workers.tasks) workers) program workers x lines y

-- the numbers of n workers from this one on; and those of all workers, once for each round
abbrev pub round_from : (worker n : ℕ) → List ℕ
round_from worker zero = []
round_from worker (suc n) = worker ∷ round_from (suc worker) n

abbrev pub rounds_of : (rounds count : ℕ) → List ℕ
rounds_of zero count = []
rounds_of (suc n) count = round_from 0 count ++ rounds_of n count

-- no worker has an unfinished transaction
abbrev pub AreIdle : Tasks → Type 0
AreIdle ts = (worker : ℕ) → task_at ts worker ≡ None

-- turns in rounds, until each worker is idle or a turn is interrupted
abbrev pub FinishesAll : Bool → Program → Scene → List WorkersLine → Scene → Type 0
FinishesAll true program x lines y = RefusedWith (Plain answer.RefusedDown) x lines y
FinishesAll false program x lines y =
    (rounds : ℕ) × TurnList program (rounds_of rounds (length x.workers.tasks)) x lines y
    × (y.workers.down ≡ false → AreIdle y.workers.tasks)

-- whether no compartment after this one is recovered, and whether the workers stay down
abbrev pub ends_power : RecoverAnswer → Bool
ends_power recovered.Clean = false
ends_power (recovered.Redone value logged) = false
ends_power (recovered.Trap kind) = false
ends_power (recovered.Aborted kind) = false
ends_power (recovered.Unusable kind) = false
ends_power recovered.Numbers = false
ends_power (recovered.Off phase) = true
ends_power recovered.Failed = true
ends_power recovered.NoMemory = true

abbrev pub keeps_down : RecoverAnswer → Bool
keeps_down recovered.Clean = false
keeps_down (recovered.Redone value logged) = false
keeps_down (recovered.Trap kind) = false
keeps_down (recovered.Aborted kind) = false
keeps_down (recovered.Unusable kind) = false
keeps_down recovered.Numbers = true
keeps_down (recovered.Off phase) = true
keeps_down recovered.Failed = true
keeps_down recovered.NoMemory = true

-- a worker's compartment of the device
abbrev pub compartment_of : Program → (worker : ℕ) → Scene → Device
compartment_of program worker x = compartment program.image worker x.device

-- The recovery of one compartment, by the mark of the transaction that it owes, as that of a
-- session. It drops its worker's transaction. All else stays, except for fences.
pub record RecoversOne (program : Program) (worker : ℕ) (a : RecoverAnswer) (x y : Scene) :
    Type 0 where
  pub recovered : IsRecovered a (policy_of (owes_marked program (compartment_of program worker x)))
      program.image (compartment_of program worker x) (compartment_of program worker y) x.steps
      y.steps
  pub dropped : task_at y.workers.tasks worker ≡ None
  pub others : OtherTasksStay worker x.workers.tasks y.workers.tasks
  pub count : length y.workers.tasks ≡ length x.workers.tasks
  pub aside : StaysAside program.image worker x.device y.device
  pub down : y.workers.down ≡ (if keeps_down a then true else x.workers.down)

-- its line, by whether the transaction that the compartment owed returns `uint64_t`
abbrev pub recovered_line : Program → (worker : ℕ) → RecoverAnswer → Scene → WorkersLine
recovered_line program worker a x =
    Own worker (answer_of_recovery (owes_unsigned program (compartment_of program worker x)) a)

-- The recoveries of n compartments, from this one on, up to one that is interrupted. Each has a
-- line.
abbrev pub RecoversFrom : Program → (worker n : ℕ) → Scene → List WorkersLine → Scene → Type 0
RecoversFrom program worker zero x lines y = Unchanged [] x lines y
RecoversFrom program worker (suc n) x lines y =
    (a : RecoverAnswer) × (rest : List WorkersLine) × (z : Scene)
    × RecoversOne program worker a x z × (lines ≡ recovered_line program worker a x ∷ rest)
    × ((ends_power a ≡ true → Unchanged [] z rest y)
    × (ends_power a ≡ false → RecoversFrom program (suc worker) n z rest y))

-- The pools that lie in the compartments of a device are opened: each is recovered, from 0 on, as
-- after a power cut.
abbrev pub Resumes : Program → (count : ℕ) → Device → (k : ℕ) → List WorkersLine → Scene → Type 0
Resumes program count d k lines y =
    RecoversFrom program 0 count (scene_of (new_workers count) d k) lines y

-- the workers are up again, unless a recovery keeps them down, and the power was cut
abbrev pub cut_scene : Choice → Scene → Scene
cut_scene choice x = record {
  workers = record { tasks = x.workers.tasks; down = false };
  device = powered choice x.device;
  steps = x.steps;
}

abbrev pub PowersAll : Program → Choice → Scene → List WorkersLine → Scene → Type 0
PowersAll program choice x lines y =
    ((line : ℕ) → fallen 0 choice.picks ≡ Some line →
    RefusedWith (Plain (answer.RefusedPick line)) x lines y)
    × ((line : ℕ) → fallen 0 choice.picks ≡ None → bad (memory_of x.device) choice.picks ≡ Some line
    → RefusedWith (Plain (answer.RefusedPick line)) x lines y)
    × (fallen 0 choice.picks ≡ None → bad (memory_of x.device) choice.picks ≡ None →
    RecoversFrom program 0 (length x.workers.tasks) (cut_scene choice x) lines y)

-- the device with another count of events left or another armed fault
abbrev pub with_device : Device → Scene → Scene
with_device d x = record { workers = x.workers; device = d; steps = x.steps }

abbrev pub WorkersCommanded : Program → WorkersCommand → Scene → List WorkersLine → Scene → Type 0
WorkersCommanded program (command.Start worker name args) x lines y =
    Starts (refusal_at program.image x.workers worker x.device) program worker name args x lines y
WorkersCommanded program (command.Turn workers) x lines y =
    TurnsGiven x.workers.down program workers x lines y
WorkersCommanded program command.Finish x lines y =
    FinishesAll x.workers.down program x lines y
WorkersCommanded program (command.Stop left) x lines y =
    (lines ≡ []) × (y ≡ with_device (with_left left x.device) x)
WorkersCommanded program (command.Fault at) x lines y =
    (lines ≡ []) × (y ≡ with_device (with_armed at x.device) x)
WorkersCommanded program (command.Power choice) x lines y =
    PowersAll program choice x lines y
WorkersCommanded program (command.Show worker) x lines y =
    ShowsWorker (refusal_at program.image x.workers worker x.device) program worker x lines y
WorkersCommanded program (command.Last worker) x lines y =
    LastsWorker (refusal_at program.image x.workers worker x.device) program.image worker x lines y
