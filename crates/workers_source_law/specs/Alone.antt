-- Each worker is as if it were alone: its own lines of a run, one after another, lead from what the
-- source knew of its compartment to what it knows at the end, and no other line changes that.
use mathlib.Core.Logic.{inl, inr}
use Rattle.std.specs.Prelude.{ℕ, ◌<◌, ◌≡◌, ◌==◌, Bool, true, false, List, [], ◌∷◌, ◌++◌}
use Rattle.std.specs.Prelude.{length, Option, Some, ℤ}
use Rattle.cache_model.specs.Cache.{Words}
use Rattle.pmem.specs.Device.{Device, powered}
use Rattle.cnvm_script.specs.declared.command.Command.{Command}
use Rattle.cnvm_script.specs.declared.command.Command.TheVariants as session
use Rattle.cnvm_session.specs.declared.answer.Answer.{Answer}
use Rattle.cnvm_session.specs.declared.answer.Answer.TheVariants as answer
use Rattle.cnvm_session.specs.declared.program.Program.{Program}
use Rattle.cnvm_session.specs.Commands.{call_number}
use Rattle.cnvm_session.specs.Marks.{rolls_back_of, looks_of}
use Rattle.workers_script.specs.declared.command.WorkersCommand.{WorkersCommand}
use Rattle.workers_script.specs.declared.command.WorkersCommand.TheVariants as command
use Rattle.workers_session.specs.declared.line.WorkersLine.{WorkersLine}
use Rattle.workers_session.specs.declared.line.WorkersLine.TheVariants as line
use Rattle.session_law.specs.Source.{source_parameters}
use Rattle.session_law.specs.Agrees.{Agrees}
use Rattle.session_law.specs.State.{Pending, Ready, Down, SourceState, standing_as}
use Rattle.session_law.specs.Answers.{IsCutOff, RunsAs, Powers, Answers}
use Rattle.workers_source_law.specs.Lines.{Ends, worker_image}
use Rattle.workers_source_law.specs.Law.{Instant, AllHold, RanWorkers, BrokeOff}

-- What a line tells of its own worker: it began this transaction; its transaction ended so; its
-- compartment, of which a power cut left this image, was recovered so; on this image a command was
-- answered so, and nothing changed; it is busy; this transaction is marked; or it is a line that
-- its command never gives.
pub data OwnEvent : Type 0 where
  Began : (name : List ℕ) → (args : List ℤ) → OwnEvent
  Ended : (a : Answer) → OwnEvent
  Recovered : (image : Words) → (a : Answer) → OwnEvent
  Told : (image : Words) → (c : Command) → (a : Answer) → OwnEvent
  Busy : OwnEvent
  Barred : (name : List ℕ) → OwnEvent
  Stray : OwnEvent

-- the worker takes calls, and from now on it owes this transaction, which isn't marked
pub record BeginsAlone (program : Program) (name : List ℕ) (args : List ℤ) (s t : SourceState) :
    Type 0 where
  pub tx : ℕ
  pub named : call_number program name ≡ Some tx
  pub takes : source_parameters program tx ≡ Some (length args)
  pub plain : rolls_back_of program tx ≡ false
  pub ready : s.standing ≡ Ready
  pub owed : t ≡ standing_as (Down (Some (record { tx = tx; args = args }))) s

-- the transaction that the worker owes ends as the source says of the worker's own pool
abbrev pub EndsAlone : Program → Answer → (s t : SourceState) → Type 0
EndsAlone program a s t =
    (call : Pending) × (s.standing ≡ Down (Some call)) × Ends program call a s t

-- the compartment is recovered as a session's pool is; no pick is refused then
abbrev pub RecoversAlone : Program → Words → Answer → (s t : SourceState) → Type 0
RecoversAlone program image (answer.RefusedPick at) s t = ⊥
RecoversAlone program image a s t = Powers program s image a t

-- it owes a transaction
abbrev pub IsBusy : SourceState → Type 0
IsBusy s = (call : Pending) × (s.standing ≡ Down (Some call))

-- it takes calls, but no worker runs this transaction, since it is marked
abbrev pub IsBarred : Program → (name : List ℕ) → SourceState → Type 0
IsBarred program name s =
    (tx : ℕ) × (call_number program name ≡ Some tx) × (rolls_back_of program tx ≡ true)
    × (s.standing ≡ Ready)

-- What one line says of its worker's state, by the source alone. No worker has a stray line.
abbrev pub AloneStep : Program → OwnEvent → (s t : SourceState) → Type 0
AloneStep program (Began name args) s t = BeginsAlone program name args s t
AloneStep program (Ended a) s t = EndsAlone program a s t
AloneStep program (Recovered image a) s t = RecoversAlone program image a s t
AloneStep program (Told image c a) s t = Answers program s image c a t × (t ≡ s)
AloneStep program Busy s t = IsBusy s × (t ≡ s)
AloneStep program (Barred name) s t = IsBarred program name s × (t ≡ s)
AloneStep program Stray s t = ⊥

-- such steps, one after another
abbrev pub AloneChain : Program → List OwnEvent → (s t : SourceState) → Type 0
AloneChain program [] s t = t ≡ s
AloneChain program (e ∷ events) s t =
    (r : SourceState) × AloneStep program e s r × AloneChain program events r t

-- Which lines are a worker's own: those that name it, and those that its `start`, `show` or `last`
-- gives; but not what is said of all workers, that they are down or that there was no memory.
abbrev pub event_if : Bool → OwnEvent → List OwnEvent
event_if true e = e ∷ []
event_if false e = []

abbrev pub told_if : Bool → Answer → OwnEvent → List OwnEvent
told_if is_own answer.NoMemory e = []
told_if is_own answer.RefusedDown e = []
told_if is_own a e = event_if is_own e

-- an answer that names its worker is given by turns, or by a recovery
abbrev pub named_event : Program → WorkersCommand → Device → (worker : ℕ) → Answer → OwnEvent
named_event program (command.Turn workers) d worker a = Ended a
named_event program command.Finish d worker a = Ended a
named_event program (command.Power choice) d worker a =
    Recovered (worker_image program worker (powered choice d)) a
named_event program c d worker a = Stray

abbrev pub started_event : WorkersCommand → OwnEvent
started_event (command.Start worker name args) = Began name args
started_event c = Stray

-- an answer that names no worker, but answers a command that does
abbrev pub plain_event : Program → (worker : ℕ) → WorkersCommand → Device → Answer
    → List OwnEvent
plain_event program worker (command.Start w name args) d a =
    told_if (w == worker) a (Told (worker_image program w d) (session.Call name args) a)
plain_event program worker (command.Show w) d a =
    told_if (w == worker) a (Told (worker_image program w d) session.Show a)
plain_event program worker (command.Last w) d a =
    told_if (w == worker) a (Told (worker_image program w d) session.Last a)
plain_event program worker c d a = []

abbrev pub barred_event : (worker : ℕ) → WorkersCommand → List OwnEvent
barred_event worker (command.Start w name args) = event_if (w == worker) (Barred name)
barred_event worker c = []

-- what a line of a command tells of this worker, where the command found this device
abbrev pub own_event : Program → (worker : ℕ) → WorkersCommand → Device → WorkersLine
    → List OwnEvent
own_event program worker c d (line.Own w a) =
    event_if (w == worker) (named_event program c d w a)
own_event program worker c d (line.Started w) = event_if (w == worker) (started_event c)
own_event program worker c d (line.Plain a) = plain_event program worker c d a
own_event program worker c d (line.RefusedWorker w) = event_if (w == worker) Stray
own_event program worker c d (line.RefusedBusy w) = event_if (w == worker) Busy
own_event program worker c d line.RefusedAbort = barred_event worker c

abbrev pub own_events_of : Program → (worker : ℕ) → WorkersCommand → Device → List WorkersLine
    → List OwnEvent
own_events_of program worker c d [] = []
own_events_of program worker c d (l ∷ lines) =
    own_event program worker c d l ++ own_events_of program worker c d lines

-- the worker's own lines of a run, in their order; and of one that breaks off
abbrev pub own_events_in : (program : Program) (worker : ℕ) (commands : List WorkersCommand)
    (x : Instant) (w : Option (List ℕ)) (y : Instant) (w' : Option (List ℕ))
    → RanWorkers program commands x w y w' → List OwnEvent
own_events_in program worker [] x w y w' ran = []
own_events_in program worker (c ∷ commands) x w y w' ran =
    own_events_of program worker c x.scene.device ran.0
    ++ own_events_in program worker commands ran.1 ran.2 y w' ran.5

abbrev pub own_events_before : (program : Program) (worker : ℕ) (commands : List WorkersCommand)
    (x : Instant) (w : Option (List ℕ)) (y : Instant) (w' : Option (List ℕ))
    → BrokeOff program commands x w y w' → List OwnEvent
own_events_before program worker [] x w y w' broke = []
own_events_before program worker (c ∷ commands) x w y w' (inl broke) =
    own_events_of program worker c x.scene.device broke.0
own_events_before program worker (c ∷ commands) x w y w' (inr broke) =
    own_events_of program worker c x.scene.device broke.0
    ++ own_events_before program worker commands broke.1 broke.2 y w' broke.5

-- As if alone: whatever other workers do, a worker's own lines lead from its first state to its
-- last; also where the run breaks off.
abbrev pub AloneLaw : Type 0
AloneLaw =
    (program : Program) (commands : List WorkersCommand) (x : Instant) (w : Option (List ℕ))
    (y : Instant) (w' : Option (List ℕ)) (ran : RanWorkers program commands x w y w')
    (worker : ℕ) → Agrees program → AllHold program x → worker < length x.scene.workers.tasks →
    AloneChain program (own_events_in program worker commands x w y w' ran) (x.states worker)
    (y.states worker)

abbrev pub AlonePartLaw : Type 0
AlonePartLaw =
    (program : Program) (commands : List WorkersCommand) (x : Instant) (w : Option (List ℕ))
    (y : Instant) (w' : Option (List ℕ)) (broke : BrokeOff program commands x w y w')
    (worker : ℕ) → Agrees program → AllHold program x → worker < length x.scene.workers.tasks →
    AloneChain program (own_events_before program worker commands x w y w' broke) (x.states worker)
    (y.states worker)

-- the end of a call that was begun, as in a session; or the power went, and it was interrupted
abbrev pub EndsAsCall : Program → SourceState → Words → (tx : ℕ) → List ℤ → Answer → SourceState
    → Type 0
EndsAsCall program s image tx args (answer.Stopped at) t = IsCutOff s tx args t
EndsAsCall program s image tx args a t =
    RunsAs (looks_of program tx) false program s image tx args a t

-- A transaction that was begun is the call of a session that has the compartment alone, whatever
-- image the call finds: it is answered as it ends, and until then it is one that was interrupted.
pub record IsAsCall (program : Program) (name : List ℕ) (args : List ℤ) (s r : SourceState)
    (image : Words) : Type 0 where
  pub tx : ℕ
  pub named : call_number program name ≡ Some tx
  pub interrupted : IsCutOff s tx args r
  pub ended : (a : Answer) (t : SourceState) → AloneStep program (Ended a) r t
      → EndsAsCall program s image tx args a t
  pub called : (a : Answer) (t : SourceState)
      → RunsAs (looks_of program tx) false program s image tx args a t
      → Answers program s image (session.Call name args) a t

abbrev pub AsCallLaw : Type 0
AsCallLaw =
    (program : Program) (name : List ℕ) (args : List ℤ) (s r : SourceState) (image : Words) →
    AloneStep program (Began name args) s r → IsAsCall program name args s r image
