-- The history of each worker: the transactions that it finished, by its own lines alone. None is
-- lost and none is done twice, and its compartment's heap holds the pool to which its history
-- leads.
use Rattle.std.specs.Prelude.{ℕ, suc, ◌<◌, ◌≡◌, ◌≢◌, ◌⊎◌, false, List, [], ◌∷◌, ◌++◌, length}
use Rattle.std.specs.Prelude.{Option, Some, pos, if◌then◌else◌}
use Rattle.cache_model.specs.Cache.{Words}
use Rattle.pmem.specs.Device.{Device}
use Rattle.pool_layout.specs.declared.places.TheConstants.{SEAL}
use Rattle.pm_machine.specs.Runs.{heap_in}
use Rattle.pool_workers.specs.Crew.{compartment}
use Rattle.cnvm_session.specs.declared.answer.Answer.{Answer}
use Rattle.cnvm_session.specs.declared.program.Program.{Program}
use Rattle.cnvm_session.specs.Commands.{call_number}
use Rattle.cnvm_session.specs.Marks.{rolls_back_of, looks_of}
use Rattle.cnvm_session.specs.Pool.{sizes_of}
use Rattle.workers_script.specs.declared.command.WorkersCommand.{WorkersCommand}
use Rattle.session_law.specs.Source.{source_pool}
use Rattle.session_law.specs.Agrees.{Agrees}
use Rattle.session_law.specs.State.{Pending, Ready, Down, SourceState, standing_as, created}
use Rattle.session_law.specs.Answers.{HasSeal, IsConcluded}
use Rattle.session_law.specs.History.{LeadsTo, waiting_of, call_to, counted, called_by}
use Rattle.session_law.specs.History.{recovered_by, IsPart, HasDone}
use Rattle.session_law.specs.Law.{IsCompleted}
use Rattle.workers_source_law.specs.Law.{Instant, AllHold, RanWorkers, first_instant, last_instant}
use Rattle.workers_source_law.specs.Law.{RanNew}
use Rattle.workers_source_law.specs.Alone.{OwnEvent, Began, Ended, Recovered, AloneStep, AloneChain}
use Rattle.workers_source_law.specs.Alone.{own_events_in}

-- the transactions that a worker began
abbrev pub begun_by : Program → OwnEvent → List Pending
begun_by program (Began name args) = call_to (call_number program name) args
begun_by program e = []

abbrev pub begun_in : Program → List OwnEvent → List Pending
begun_in program [] = []
begun_in program (e ∷ events) = begun_by program e ++ begun_in program events

-- those that don't only look
abbrev pub storing : Program → List Pending → List Pending
storing program [] = []
storing program (call ∷ calls) =
    if looks_of program call.tx then storing program calls else call ∷ storing program calls

-- What a step finishes: what was owed, if it is answered with a value and doesn't only look, or as
-- a recovery shows.
abbrev pub own_finished : Program → SourceState → OwnEvent → List Pending
own_finished program s (Ended a) = called_by (storing program (waiting_of s.standing)) a
own_finished program s (Recovered image a) = recovered_by s image a
own_finished program s e = []

-- the worker's history: the transactions that its chain finishes, in order
abbrev pub history_of : (program : Program) (events : List OwnEvent) (s t : SourceState)
    → AloneChain program events s t → List Pending
history_of program [] s t chain = []
history_of program (e ∷ events) s t chain =
    own_finished program s e ++ history_of program events chain.0 t chain.2

-- Exactly if sealed: where the recovery of the worker's compartment is completed, what it owed is
-- finished if the image that the power cut left of the compartment has its seal; else nothing is.
abbrev pub OwnSealedLaw : Type 0
OwnSealedLaw =
    (program : Program) (owed : Pending) (s t : SourceState) (image : Words) (a : Answer) →
    s.standing ≡ Down (Some owed) → IsCompleted a → AloneStep program (Recovered image a) s t →
    (HasSeal s image × (own_finished program s (Recovered image a) ≡ owed ∷ [])
    × IsConcluded (rolls_back_of program owed.tx) program owed s Ready t)
    ⊎ ((image SEAL ≢ pos (suc s.done)) × (own_finished program s (Recovered image a) ≡ [])
    × (t ≡ standing_as Ready s))

-- the transactions that were answered with a value, where these are owed; but for those that only
-- look
abbrev pub answered_from : Program → List Pending → List OwnEvent → List Pending
answered_from program owed [] = []
answered_from program owed (Began name args ∷ events) =
    answered_from program (call_to (counted program (call_number program name)) args) events
answered_from program owed (Ended a ∷ events) =
    called_by owed a ++ answered_from program owed events
answered_from program owed (e ∷ events) = answered_from program owed events

-- The pool is the one to which the history leads, each of its transactions is counted, and each was
-- begun, in order, at most once; and those that were answered with a value are among them.
pub record HasHistory (program : Program) (events : List OwnEvent) (s t : SourceState)
    (history : List Pending) : Type 0 where
  pub does : HasDone program s t history (begun_in program events)
  pub answered : IsPart (answered_from program [] events) history

-- Never lost and never twice, of each worker, from a state that takes calls.
abbrev pub OwnHistoryLaw : Type 0
OwnHistoryLaw =
    (program : Program) (events : List OwnEvent) (s t : SourceState)
    (chain : AloneChain program events s t) → s.standing ≡ Ready →
    HasHistory program events s t (history_of program events s t chain)

-- a chain of this worker's events, and its history
abbrev pub IsAlone : Program → List OwnEvent → (s t : SourceState) → Type 0
IsAlone program events s t =
    (chain : AloneChain program events s t)
    × HasHistory program events s t (history_of program events s t chain)

-- Where the worker takes calls again, its compartment's own heap holds the pool to which its
-- history leads.
abbrev pub OwnPoolLaw : Type 0
OwnPoolLaw =
    (program : Program) (commands : List WorkersCommand) (x : Instant) (w : Option (List ℕ))
    (y : Instant) (w' : Option (List ℕ)) (ran : RanWorkers program commands x w y w')
    (worker : ℕ)
    (chain : AloneChain program (own_events_in program worker commands x w y w' ran)
    (x.states worker) (y.states worker)) →
    AllHold program x → worker < length x.scene.workers.tasks → y.scene.workers.down ≡ false
    → (x.states worker).standing ≡ Ready → (y.states worker).standing ≡ Ready →
    LeadsTo program (x.states worker).pool
    (history_of program (own_events_in program worker commands x w y w' ran) (x.states worker)
    (y.states worker) chain)
    (source_pool program
    (heap_in (sizes_of program) (compartment program.image worker y.scene.device).cache))

-- So it is of each worker of a run on new compartments, from the empty pool on.
abbrev pub AloneNewLaw : Type 0
AloneNewLaw =
    (program : Program) (count : ℕ) (commands : List WorkersCommand) (w w' : Option (List ℕ))
    (d d' : Device) (k k' : ℕ) (ran : RanNew program count commands w w' d d' k k')
    (worker : ℕ) → Agrees program → worker < count →
    IsAlone program
    (own_events_in program worker commands (first_instant program count ran.0 k) w
    (last_instant ran.1 d' k' ran.2) w' ran.5)
    (created program) (ran.2 worker)
