-- Several workers do what the source says, each as if it were alone: one chain of states for each
-- compartment, whatever the order of the turns, and wherever the power is cut.
use Rattle.std.specs.Prelude.{ℕ, ◌<◌, ◌≡◌, ◌⊎◌, false, List, [], ◌∷◌, length, Option, None, Some}
use Rattle.std.specs.Prelude.{Ok, ℤ, pos, is_some, true}
use Rattle.std.specs.List.{AllByRecursion}
use Rattle.std.specs.Io.KnownBytes.{Appends}
use Rattle.nvm_base.specs.Parts.{AppendsPart}
use Rattle.cache_model.specs.Cache.{view}
use Rattle.cache_model.specs.Image.{Images}
use Rattle.pmem.specs.Device.{Device}
use Rattle.pool_layout.specs.declared.places.TheConstants.{DONE, LAST, MARK}
use Rattle.pool_map.specs.Trap.{trap_number}
use Rattle.pm_machine.specs.Runs.{heap_in}
use Rattle.pool_workers.specs.declared.task.Task.{Task}
use Rattle.pool_workers.specs.Crew.{task_at, compartment}
use Rattle.cnvm_session.specs.declared.answer.Answer.{Answer}
use Rattle.cnvm_session.specs.declared.answer.Answer.TheVariants as answer
use Rattle.cnvm_session.specs.declared.program.Program.{Program}
use Rattle.cnvm_session.specs.Pool.{sizes_of}
use Rattle.workers_script.specs.declared.command.WorkersCommand.{WorkersCommand}
use Rattle.workers_script.specs.declared.command.WorkersCommand.TheVariants as command
use Rattle.workers_script.specs.WorkersGrammar.{workers_script_meaning}
use Rattle.workers_session.specs.declared.line.WorkersLine.{WorkersLine}
use Rattle.workers_session.specs.declared.line.WorkersLine.TheVariants as line
use Rattle.workers_session.specs.WorkersState.{WorkersState, new_workers}
use Rattle.workers_session.specs.WorkersCommands.{Scene, scene_of, WorkersCommanded}
use Rattle.workers_run.specs.WorkersRan.{lines_text, AreCreated, RunsNew, BreaksOffNew}
use Rattle.workers_run.specs.WorkersRan.{OpensWorkers, RunsOpened, BreaksOffOpened}
use Rattle.session_law.specs.Source.{source_pool}
use Rattle.session_law.specs.Words.{AreWords}
use Rattle.session_law.specs.Agrees.{Agrees}
use Rattle.session_law.specs.Law.{HasPhase}
use Rattle.session_law.specs.State.{Standing, Ready, Down, Unusable, SourceState}
use Rattle.workers_source_law.specs.States.{States, all_created}
use Rattle.workers_source_law.specs.Lines.{RecoveryLines, LinesMean}
use Rattle.workers_source_law.specs.Opened.{AreOpened, image_at, all_opened}

-- the arguments of a command are words
abbrev pub HasWordArgs : WorkersCommand → Type 0
HasWordArgs (command.Start worker name args) = AreWords args
HasWordArgs c = Unit {0}

-- The commands of each script of workers have words as arguments, since a script's argument fits a
-- word.
abbrev pub ArgsLaw : Type 0
ArgsLaw = (text : List ℕ) (commands : List WorkersCommand)
    → workers_script_meaning text ≡ Ok commands → AllByRecursion HasWordArgs commands

-- the workers and the device, and what the source knows of each worker
pub record Instant : Type 0 where
  pub scene : Scene
  pub states : States

-- The view of a compartment has the state's number of transactions finished and its value of the
-- last, and no mark; and its heap holds the source's pool.
pub record HoldsState (program : Program) (worker : ℕ) (d : Device) (s : SourceState) :
    Type 0 where
  pub pool : source_pool program
      (heap_in (sizes_of program) (compartment program.image worker d).cache) ≡ s.pool
  pub done : view (compartment program.image worker d).cache DONE ≡ pos s.done
  pub last : view (compartment program.image worker d).cache LAST ≡ s.last
  pub mark : view (compartment program.image worker d).cache MARK ≡ pos 0

-- The compartment of an idle worker holds the worker's state, or has the mark of its trap; a
-- worker that owes a transaction is in the middle of running it.
abbrev pub WorkerHolds : Standing → Program → (worker : ℕ) → Option Task → Device → SourceState
    → Type 0
WorkerHolds Ready program worker o d s = (o ≡ None) × HoldsState program worker d s
WorkerHolds (Down None) program worker o d s = ⊥
WorkerHolds (Down (Some owed)) program worker o d s = is_some o ≡ true
WorkerHolds (Unusable kind) program worker o d s =
    (o ≡ None)
    × (view (compartment program.image worker d).cache MARK ≡ pos (trap_number kind))

-- so it is for each worker while the workers aren't down
abbrev pub AllHold : Program → Instant → Type 0
AllHold program x =
    x.scene.workers.down ≡ false → (worker : ℕ) → worker < length x.scene.workers.tasks →
    WorkerHolds (x.states worker).standing program worker (task_at x.scene.workers.tasks worker)
    x.scene.device (x.states worker)

-- Where the power cut stopped a worker's transaction in this phase, the images of its compartment
-- have the transaction's seal or don't, as the phase says.
abbrev pub PhaseHolds : Program → (worker : ℕ) → Answer → Instant → Type 0
PhaseHolds program worker (answer.Stopped at) y =
    Images (HasPhase at (y.states worker)) (compartment program.image worker y.scene.device).cache
PhaseHolds program worker a y = Unit {0}

abbrev pub LineHolds : Program → WorkersLine → Instant → Type 0
LineHolds program (line.Own worker a) y = PhaseHolds program worker a y
LineHolds program l y = Unit {0}

abbrev pub LinesHold : Program → List WorkersLine → Instant → Type 0
LinesHold program [] y = Unit {0}
LinesHold program (l ∷ lines) y = LineHolds program l y × LinesHold program lines y

-- so it is for each line of turns
abbrev pub PhasesHold : Program → WorkersCommand → List WorkersLine → Instant → Type 0
PhasesHold program (command.Turn workers) lines y = LinesHold program lines y
PhasesHold program command.Finish lines y = LinesHold program lines y
PhasesHold program c lines y = Unit {0}

-- One command: what the machine and the device did, what the source says of its lines, what the
-- compartments then hold, and what phases say of their images.
pub record WorkersStep (program : Program) (c : WorkersCommand) (x : Instant)
    (lines : List WorkersLine) (y : Instant) : Type 0 where
  pub did : WorkersCommanded program c x.scene lines y.scene
  pub meant : LinesMean program c x.scene.device lines x.states y.states
  pub holds : AllHold program y
  pub phases : PhasesHold program c lines y

-- all commands, one after another, and the texts of all their lines are written
abbrev pub RanWorkers : Program → List WorkersCommand → Instant → Option (List ℕ) → Instant
    → Option (List ℕ) → Type 0
RanWorkers program [] x w y w' = (y ≡ x) × (w' ≡ w)
RanWorkers program (c ∷ commands) x w y w' =
    (lines : List WorkersLine) × (z : Instant) × (w1 : Option (List ℕ))
    × WorkersStep program c x lines z
    × Appends w w1 (lines_text lines) × RanWorkers program commands z w1 y w'

-- the first commands; the lines of the last one are written in part, perhaps not at all
abbrev pub BrokeOff : Program → List WorkersCommand → Instant → Option (List ℕ) → Instant
    → Option (List ℕ) → Type 0
BrokeOff program [] x w y w' = ⊥
BrokeOff program (c ∷ commands) x w y w' =
    ((lines : List WorkersLine) × WorkersStep program c x lines y
    × AppendsPart w w' (lines_text lines))
    ⊎ ((lines : List WorkersLine) × (z : Instant) × (w1 : Option (List ℕ))
    × WorkersStep program c x lines z
    × Appends w w1 (lines_text lines) × BrokeOff program commands z w1 y w')

-- new compartments: each holds the empty pool, and no worker has a transaction
abbrev pub first_instant : Program → (count : ℕ) → Device → (k : ℕ) → Instant
first_instant program count d k = record {
  scene = scene_of (new_workers count) d k;
  states = all_created program;
}

abbrev pub last_instant : WorkersState → Device → (k : ℕ) → States → Instant
last_instant s d k t = record { scene = scene_of s d k; states = t }

-- The compartments are created and hold the empty pool, and the run on them is such a chain.
abbrev pub RanNew : Program → (count : ℕ) → List WorkersCommand → (w w' : Option (List ℕ))
    → (d d' : Device) → (k k' : ℕ) → Type 0
RanNew program count commands w w' d d' k k' =
    (b : Device) × (s : WorkersState) × (t : States)
    × AreCreated program count d b × AllHold program (first_instant program count b k)
    × RanWorkers program commands (first_instant program count b k) w (last_instant s d' k' t) w'

abbrev pub BrokeOffNew : Program → (count : ℕ) → List WorkersCommand → (w w' : Option (List ℕ))
    → (d d' : Device) → (k k' : ℕ) → Type 0
BrokeOffNew program count commands w w' d d' k k' =
    (b : Device) × (s : WorkersState) × (t : States)
    × AreCreated program count d b × AllHold program (first_instant program count b k)
    × BrokeOff program commands (first_instant program count b k) w (last_instant s d' k' t) w'

-- What the machine and the device do in a run of a script on new compartments is what the source
-- says of each compartment, whatever the order of turns, and wherever power is cut.
abbrev pub WorkersLaw : Type 0
WorkersLaw =
    (program : Program) (count : ℕ) (commands : List WorkersCommand) (w w' : Option (List ℕ))
    (d d' : Device) (k k' : ℕ) →
    Agrees program → AllByRecursion HasWordArgs commands →
    RunsNew program count commands w w' d d' k k' → RanNew program count commands w w' d d' k k'

-- the same of a run that breaks off
abbrev pub WorkersPartLaw : Type 0
WorkersPartLaw =
    (program : Program) (count : ℕ) (commands : List WorkersCommand) (w w' : Option (List ℕ))
    (d d' : Device) (k k' : ℕ) →
    Agrees program → AllByRecursion HasWordArgs commands →
    BreaksOffNew program count commands w w' d d' k k'
    → BrokeOffNew program count commands w w' d d' k k'

-- The compartments of these images are opened, where the source knows this of the workers: what the
-- machine and the device did, what the source says of the lines of the recoveries, and what the
-- compartments then hold.
pub record OpenedStep (program : Program) (count : ℕ) (from : States) (words : List ℤ) (d : Device)
    (k : ℕ) (lines : List WorkersLine) (y : Instant) : Type 0 where
  pub did : OpensWorkers program count words d k lines y.scene
  pub meant : RecoveryLines program (image_at program words) 0 lines from y.states
  pub holds : AllHold program y

-- The compartments are opened, the lines of their recoveries are written, and the run on them is
-- such a chain.
abbrev pub RanFrom : Program → (count : ℕ) → States → List WorkersCommand → List ℤ
    → (w w' : Option (List ℕ)) → (d d' : Device) → (k k' : ℕ) → Type 0
RanFrom program count from commands words w w' d d' k k' =
    (lines : List WorkersLine) × (x : Instant) × (w1 : Option (List ℕ)) × (s : WorkersState)
    × (t : States) × OpenedStep program count from words d k lines x
    × Appends w w1 (lines_text lines)
    × RanWorkers program commands x w1 (last_instant s d' k' t) w'

-- the same where the lines of the recoveries are written in part, or the run breaks off
abbrev pub BrokeOffFrom : Program → (count : ℕ) → States → List WorkersCommand → List ℤ
    → (w w' : Option (List ℕ)) → (d d' : Device) → (k k' : ℕ) → Type 0
BrokeOffFrom program count from commands words w w' d d' k k' =
    (lines : List WorkersLine) × (s : WorkersState) × (t : States)
    × ((OpenedStep program count from words d k lines (last_instant s d' k' t)
    × AppendsPart w w' (lines_text lines))
    ⊎ ((x : Instant) × (w1 : Option (List ℕ))
    × OpenedStep program count from words d k lines x × Appends w w1 (lines_text lines)
    × BrokeOff program commands x w1 (last_instant s d' k' t) w'))

-- what the source knows of the workers is what it knows of the images
abbrev pub RanOpened : Program → (count : ℕ) → List WorkersCommand → List ℤ
    → (w w' : Option (List ℕ)) → (d d' : Device) → (k k' : ℕ) → Type 0
RanOpened program count commands words w w' d d' k k' =
    RanFrom program count (all_opened program words) commands words w w' d d' k k'

abbrev pub BrokeOffOpened : Program → (count : ℕ) → List WorkersCommand → List ℤ
    → (w w' : Option (List ℕ)) → (d d' : Device) → (k k' : ℕ) → Type 0
BrokeOffOpened program count commands words w w' d d' k k' =
    BrokeOffFrom program count (all_opened program words) commands words w w' d d' k k'

-- The same of a run on compartments that are opened from images.
abbrev pub OpenedWorkersLaw : Type 0
OpenedWorkersLaw =
    (program : Program) (count : ℕ) (commands : List WorkersCommand) (words : List ℤ)
    (w w' : Option (List ℕ)) (d d' : Device) (k k' : ℕ) →
    Agrees program → AllByRecursion HasWordArgs commands → AreOpened program count words →
    RunsOpened program count commands words w w' d d' k k'
    → RanOpened program count commands words w w' d d' k k'

-- and of one that breaks off
abbrev pub OpenedWorkersPartLaw : Type 0
OpenedWorkersPartLaw =
    (program : Program) (count : ℕ) (commands : List WorkersCommand) (words : List ℤ)
    (w w' : Option (List ℕ)) (d d' : Device) (k k' : ℕ) →
    Agrees program → AllByRecursion HasWordArgs commands → AreOpened program count words →
    BreaksOffOpened program count commands words w w' d d' k k'
    → BrokeOffOpened program count commands words w w' d d' k k'
