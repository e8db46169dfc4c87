-- The meaning of the lines of a command by the source alone, and what the source knows of each
-- worker after it. Of the device it looks only at the images that a power cut leaves of the
-- compartments. The order of turns and their number don't matter, only the lines.
use Rattle.std.specs.Prelude.{ℕ, suc, ◌≡◌, ◌⊎◌, Bool, true, false, List, [], ◌∷◌, length, Some, ℤ}
use Rattle.std.specs.Prelude.{pos}
use Rattle.cache_model.specs.Cache.{Words, view}
use Rattle.pmem.specs.Device.{Device, powered}
use Rattle.pool_map.specs.PoolText.{pool_text}
use Rattle.c_types.specs.Shapes.{shapes_of}
use Rattle.pool_workers.specs.Crew.{compartment}
use Rattle.cnvm_session.specs.declared.answer.Answer.{Answer}
use Rattle.cnvm_session.specs.declared.answer.Answer.TheVariants as answer
use Rattle.cnvm_session.specs.declared.program.Program.{Program}
use Rattle.cnvm_session.specs.Commands.{call_number}
use Rattle.cnvm_session.specs.Marks.{rolls_back_of, looks_of}
use Rattle.workers_script.specs.declared.command.WorkersCommand.{WorkersCommand}
use Rattle.workers_script.specs.declared.command.WorkersCommand.TheVariants as command
use Rattle.workers_session.specs.declared.line.WorkersLine.{WorkersLine}
use Rattle.workers_session.specs.declared.line.WorkersLine.TheVariants as line
use Rattle.session_law.specs.Source.{source_parameters}
use Rattle.session_law.specs.State.{Pending, Ready, Down, Unusable, SourceState, standing_as}
use Rattle.session_law.specs.Answers.{IsDoneWith, TrapsAs, Looks, Powers}
use Rattle.workers_source_law.specs.States.{States, RestStays}

-- The worker's compartment takes calls, and from now on it owes this transaction of the source,
-- which takes these arguments and isn't marked.
pub record Owes (program : Program) (worker : ℕ) (name : List ℕ) (args : List ℤ) (s t : States) :
    Type 0 where
  pub tx : ℕ
  pub named : call_number program name ≡ Some tx
  pub takes : source_parameters program tx ≡ Some (length args)
  pub plain : rolls_back_of program tx ≡ false
  pub ready : (s worker).standing ≡ Ready
  pub owed : t worker ≡ standing_as (Down (Some (record { tx = tx; args = args }))) (s worker)
  pub others : RestStays worker s t

-- `start` begins the transaction, or is refused and changes nothing
abbrev pub StartLines : Program → (worker : ℕ) → (name : List ℕ) → List ℤ → List WorkersLine
    → (s t : States) → Type 0
StartLines program worker name args (line.Started w ∷ []) s t =
    (w ≡ worker) × Owes program worker name args s t
StartLines program worker name args (l ∷ []) s t = t ≡ s
StartLines program worker name args lines s t = ⊥

-- An owed transaction is done, with the value, the logged stores and the pool that the source gives
-- on the compartment's own pool; one that only looks is answered as in a session.
abbrev pub IsEndedWith : (looks : Bool) → Program → Pending → (value : ℤ) → (unsigned : Bool)
    → (logged : ℕ) → (s t : SourceState) → Type 0
IsEndedWith true program call value unsigned logged s t =
    Looks program (standing_as Ready s) call.tx call.args (answer.Done value unsigned logged) t
IsEndedWith false program call value unsigned logged s t =
    IsDoneWith false program s call.tx call.args value unsigned logged Ready t

-- The end of an owed transaction: it is done; or it comes to a trap, which is all the same to a
-- compartment that it only looked at; or the power went, and it is still owed.
abbrev pub Ends : Program → Pending → Answer → (s t : SourceState) → Type 0
Ends program call (answer.Done value unsigned logged) s t =
    IsEndedWith (looks_of program call.tx) program call value unsigned logged s t
Ends program call (answer.Trap kind) s t =
    TrapsAs false program s call.tx call.args kind × (t ≡ standing_as (Unusable kind) s)
    × (looks_of program call.tx ≡ false)
Ends program call (answer.Aborted kind) s t =
    (looks_of program call.tx ≡ true)
    × Looks program (standing_as Ready s) call.tx call.args (answer.Aborted kind) t
Ends program call (answer.Stopped at) s t = t ≡ s
Ends program call a s t = ⊥

-- A line of turns: the transaction that a worker owes has ended, and no other worker's state
-- changes; or no transaction has ended.
abbrev pub TurnLine : Program → WorkersLine → (s t : States) → Type 0
TurnLine program (line.Own worker a) s t =
    (call : Pending) × ((s worker).standing ≡ Down (Some call))
    × Ends program call a (s worker) (t worker) × RestStays worker s t
TurnLine program l s t = t ≡ s

-- the lines of turns, one after another
abbrev pub TurnLines : Program → List WorkersLine → (s t : States) → Type 0
TurnLines program [] s t = t ≡ s
TurnLines program (l ∷ lines) s t =
    (r : States) × TurnLine program l s r × TurnLines program lines r t

-- the image that a power cut leaves of a worker's compartment
abbrev pub worker_image : Program → (worker : ℕ) → Device → Words
worker_image program worker cut = view (compartment program.image worker cut).cache

-- The recoveries of compartments with these images, from this worker on, each with a line: each is
-- answered as that of a session would be, from the worker's own state and the image of its own
-- compartment.
abbrev pub RecoveryLines : Program → (images : ℕ → Words) → (worker : ℕ) → List WorkersLine
    → (s t : States) → Type 0
RecoveryLines program images worker [] s t = t ≡ s
RecoveryLines program images worker (l ∷ lines) s t =
    (a : Answer) × (r : States) × (l ≡ line.Own worker a)
    × Powers program (s worker) (images worker) a (r worker)
    × RestStays worker s r × RecoveryLines program images (suc worker) lines r t

-- a pick that doesn't fit changes nothing
abbrev pub PowerLines : Program → (cut : Device) → List WorkersLine → (s t : States) → Type 0
PowerLines program cut lines s t =
    ((at : ℕ) × (lines ≡ line.Plain (answer.RefusedPick at) ∷ []) × (t ≡ s))
    ⊎ RecoveryLines program (λ worker. worker_image program worker cut) 0 lines s t

-- what `show` and `last` tell of a worker's state; any other line tells nothing of it
abbrev pub TellsState : Program → SourceState → List WorkersLine → Type 0
TellsState program s (line.Plain (answer.Shown text) ∷ []) =
    (text ≡ pool_text (shapes_of program.typed) s.pool) × (s.standing ≡ Ready)
TellsState program s (line.Plain (answer.Last done value) ∷ []) =
    (done ≡ pos s.done) × (value ≡ s.last) × (s.standing ≡ Ready)
TellsState program s lines = Unit {0}

-- The lines of a command, from what the source knew of the workers to what it knows after them.
abbrev pub LinesMean : Program → WorkersCommand → Device → List WorkersLine → (s t : States)
    → Type 0
LinesMean program (command.Start worker name args) d lines s t =
    StartLines program worker name args lines s t
LinesMean program (command.Turn workers) d lines s t = TurnLines program lines s t
LinesMean program command.Finish d lines s t = TurnLines program lines s t
LinesMean program (command.Stop left) d lines s t = (lines ≡ []) × (t ≡ s)
LinesMean program (command.Fault at) d lines s t = (lines ≡ []) × (t ≡ s)
LinesMean program (command.Power choice) d lines s t =
    PowerLines program (powered choice d) lines s t
LinesMean program (command.Show worker) d lines s t =
    TellsState program (s worker) lines × (t ≡ s)
LinesMean program (command.Last worker) d lines s t =
    TellsState program (s worker) lines × (t ≡ s)
