-- A session of a program does what the program's source says.
use Rattle.std.specs.Prelude.{ℕ, suc, ◌+◌, ◌*◌, ◌<◌, ◌≤◌, ◌≡◌, ◌≢◌, ◌⊎◌, List, [], ◌∷◌, ◌++◌}
use Rattle.std.specs.Prelude.{length, Some, None, Ok, ℤ, pos, slice_index_or, Bool, true, false}
use Rattle.std.specs.Prelude.{nat_lt}
use Rattle.std.specs.List.{AllByRecursion}
use Rattle.cache_model.specs.Image.{Images}
use Rattle.cache_model.specs.declared.choice.Choice.{Choice}
use Rattle.cache_model.specs.Cache.{view, Words}
use Rattle.pmem.specs.Device.{Device, powered, blanked}
use Rattle.pmem.specs.Played.{PlaysAll}
use Rattle.pmem.specs.declared.answer.Phase.{Phase}
use Rattle.pmem.specs.declared.answer.Phase.TheVariants as phase
use Rattle.pool_layout.specs.declared.places.TheConstants.{LAST, SEAL}
use Rattle.pool_layout.specs.Sizes.{heap_words, pool_lines}
use Rattle.pool_layout.specs.Image.{image_words}
use Rattle.pool_layout.specs.Good.{sizes_words}
use Rattle.pool_layout.specs.Opened.{IsOpened}
use Rattle.pool_map.specs.declared.trap.TrapKind.{TrapKind}
use Rattle.pool_map.specs.declared.trap.TrapKind.TheVariants.{LogFull}
use Rattle.pool_map.specs.PoolMap.{PoolMap, empty_pool}
use Rattle.clobber_log.specs.Logs.{count_in}
use Rattle.pm_machine.specs.declared.effect.Effect.{Effect}
use Rattle.pm_machine.specs.declared.effect.End.{End}
use Rattle.pm_machine.specs.Effects.{heap_end, records_end}
use Rattle.pm_machine.specs.Machine.{Finished}
use Rattle.pm_machine.specs.Logging.{tx_run}
use Rattle.pm_machine.specs.Runs.{heap_in}
use Rattle.cut_law.specs.Steps.{run_steps}
use Rattle.cnvm_script.specs.declared.command.Command.{Command}
use Rattle.cnvm_script.specs.declared.command.Command.TheVariants as command
use Rattle.cnvm_script.specs.Commands.{script_meaning}
use Rattle.cnvm_session.specs.declared.answer.Answer.{Answer}
use Rattle.cnvm_session.specs.declared.answer.Answer.TheVariants as answer
use Rattle.cnvm_session.specs.declared.mode.Mode.{Mode}
use Rattle.cnvm_session.specs.declared.mode.Mode.TheVariants.{Ready}
use Rattle.cnvm_session.specs.declared.program.Program.{Program}
use Rattle.cnvm_session.specs.Commands.{call_number, tx_parameters, Commanded}
use Rattle.cnvm_session.specs.Marks.{rolls_back_of, looks_of, policy_of}
use Rattle.cnvm_session.specs.Steps.{most_of_program}
use Rattle.cnvm_session.specs.Laws.{IsRefused}
use Rattle.cnvm_session.specs.Outcomes.{Opens}
use Rattle.cnvm_session.specs.Pool.{sizes_of, wanted_of}
use Rattle.args_log.specs.Created.{creation_events}
use Rattle.c_meaning.specs.Transaction.{Outcome, Trap}
use Rattle.ir.specs.declared.function.IrFunction.{IrFunction}
use Rattle.session_law.specs.Logged.{StoreAt, TakeRecords, FillsLog}
use Rattle.session_law.specs.Source.{LogsBy, ComesBy, source_pool}
use Rattle.session_law.specs.Words.{AreWords}
use Rattle.session_law.specs.Agrees.{Agrees, Matches, RunsAs}
use Rattle.session_law.specs.State.{Pending, Down, SourceState, standing_as, created}
use Rattle.session_law.specs.State as state
use Rattle.session_law.specs.Answers.{HasSeal, IsConcluded, Runs, Redoes, Answers}
use Rattle.session_law.specs.Opened.{opened}
use Rattle.session_law.specs.Holds.{HoldsPool, OwesBy, Holds}
use Rattle.session_law.specs.History.{recovered_by, LeadsTo, calls_in, answered_in, IsPart, HasDone}
use Rattle.session_law.specs.Ran.{found_by, Moment, SessionStep, Ran, fresh_moment, OpenStep}

-- the arguments of a command are words
abbrev pub IsWordCommand : Command → Type 0
IsWordCommand (command.Call name args) = AreWords args
IsWordCommand c = Unit {0}

-- The commands of each script have words as arguments, since a script's argument fits a word.
abbrev pub ScriptLaw : Type 0
ScriptLaw = (text : List ℕ) (commands : List Command) → script_meaning text ≡ Ok commands
    → AllByRecursion IsWordCommand commands

-- The program, the pool and the arguments determine how many stores a transaction logs, marked or
-- not, and what it comes to.
abbrev pub DeterminedLaw : Type 0
DeterminedLaw =
    (marked : Bool) (program : Program) (pool : PoolMap) (tx : ℕ) (args : List ℤ) (n m : ℕ)
    (o p : Outcome) →
    ComesBy marked program pool tx args n o → ComesBy marked program pool tx args m p →
    (n ≡ m) × (o ≡ p)

-- the trap is a full log exactly if there are more logged stores than records
abbrev pub IsFullAt : (records logged : ℕ) → TrapKind → Type 0
IsFullAt records logged kind =
    (kind ≡ LogFull → records < logged) × (records < logged → kind ≡ LogFull)

-- A transaction comes to a full log exactly if it has more logged stores than the log has records;
-- and exactly then its call, or its recovery, is answered so. So `aborted logfull` is no answer
-- where the records have room. A call that only looks takes no record, and is never answered so.
abbrev pub FullLogLaw : Type 0
FullLogLaw =
    ((marked : Bool) (program : Program) (pool : PoolMap) (tx : ℕ) (args : List ℤ) (logged : ℕ)
    (outcome : Outcome) → ComesBy marked program pool tx args logged outcome →
    (outcome ≡ Trap LogFull → (sizes_of program).records < logged)
    × ((sizes_of program).records < logged → outcome ≡ Trap LogFull))
    × ((program : Program) (s t : SourceState) (image : Words) (tx : ℕ) (args : List ℤ) (logged : ℕ)
    (kind : TrapKind) → looks_of program tx ≡ false →
    LogsBy (rolls_back_of program tx) program s.pool tx args logged →
    Runs program s image tx args (answer.Aborted kind) t ⊎
    Runs program s image tx args (answer.Trap kind) t →
    IsFullAt (sizes_of program).records logged kind)
    × ((program : Program) (owed : Pending) (s t : SourceState) (image : Words) (logged : ℕ)
    (kind : TrapKind) →
    LogsBy (rolls_back_of program owed.tx) program s.pool owed.tx owed.args logged →
    Redoes program owed s image (answer.RecoveredAborted kind) t ⊎
    Redoes program owed s image (answer.RecoveredTrap kind) t →
    IsFullAt (sizes_of program).records logged kind)
    × ((program : Program) (s t : SourceState) (image : Words) (tx : ℕ) (args : List ℤ)
    (kind : TrapKind) → looks_of program tx ≡ true →
    Runs program s image tx args (answer.Aborted kind) t ⊎
    Runs program s image tx args (answer.Trap kind) t → kind ≢ LogFull)

-- The first pool and the finished transactions determine the pool to which these lead.
abbrev pub LedLaw : Type 0
LedLaw =
    (program : Program) (p q r : PoolMap) (calls : List Pending) →
    LeadsTo program p calls q → LeadsTo program p calls r → q ≡ r

-- In a run more words take a record than the log has records exactly if one of its stores, before
-- the run's end, takes one more.
abbrev pub FullLaw : Type 0
FullLaw =
    (rolls : Bool) (functions : List IrFunction) (stores : List StoreAt) (n records : ℕ) →
    TakeRecords rolls functions [] stores n →
    (records < n → FillsLog rolls functions [] records stores)
    × (FillsLog rolls functions [] records stores → records < n)

-- The machine's run of a transaction, with its log, ends as this outcome says. It takes this number
-- of records, unless the log has fewer.
abbrev pub EndsAs : (marked : Bool) → Program → Words → (tx : ℕ) → List ℤ → (logged : ℕ) → Outcome
    → Type 0
EndsAs marked program h tx args logged outcome =
    (end : End) × (es : List Effect)
    × (tx_run (policy_of marked) program.image program.image.parts.most h tx args
    ≡ Finished end es)
    × Matches program outcome end (heap_end h es)
    × (nat_lt (sizes_of program).records logged ≡ false → records_end 0 es ≡ logged)

-- A transaction's run from a heap on which the image agrees with its source ends as the source says
-- on the heap's pool: with a full log exactly if more words take a record than the log has records.
-- Else it takes just those.
abbrev pub ExactLaw : Type 0
ExactLaw =
    (marked : Bool) (program : Program) (h : Words) (tx : ℕ) (args : List ℤ) (logged : ℕ)
    (outcome : Outcome) →
    RunsAs program h tx args →
    ComesBy marked program (source_pool program h) tx args logged outcome →
    EndsAs marked program h tx args logged outcome

-- So it runs from each heap that holds the pool that the source knows: that of a device at rest,
-- and the one on which an owed transaction began.
abbrev pub HeldRunLaw : Type 0
HeldRunLaw =
    (marked : Bool) (program : Program) (h : Words) (s : SourceState) (tx : ℕ) (args : List ℤ)
    (logged : ℕ) (outcome : Outcome) →
    Agrees program → HoldsPool program h s → AreWords args
    → tx_parameters program.image tx ≡ Some (length args)
    → ComesBy marked program s.pool tx args logged outcome
    → EndsAs marked program h tx args logged outcome

-- Each answer to a command whose arguments are words is one that the source gives, and the device
-- then holds what the source knows.
abbrev pub SessionLaw : Type 0
SessionLaw =
    (program : Program) (super : Words) (c : Command) (m n : Mode) (d b : Device) (s : SourceState)
    (a : Answer) (k k1 : ℕ) →
    Agrees program → IsWordCommand c → Holds program super m d s
    → Commanded program c m d a n b k k1 →
    (t : SourceState) × Answers program s (found_by c d) c a t × Holds program super n b t

-- the recovery came to its end, and the pool takes calls again
abbrev pub IsCompleted : Answer → Type 0
IsCompleted answer.RecoveredNone = Unit {0}
IsCompleted (answer.RecoveredRedone value unsigned logged) = Unit {0}
IsCompleted (answer.RecoveredAborted kind) = Unit {0}
IsCompleted a = ⊥

-- Exactly if sealed: if the image that the power cut left has the seal of the owed transaction, the
-- history has it after the next completed recovery: done or, if it is marked and aborted, rolled
-- back. Else nothing of it is done, and the history is unchanged.
abbrev pub SealedLaw : Type 0
SealedLaw =
    (program : Program) (super : Words) (choice : Choice) (owed : Pending) (x y : Moment)
    (a : Answer) →
    x.state.standing ≡ Down (Some owed) → IsCompleted a →
    SessionStep program super (command.Power choice) x a y →
    (HasSeal x.state (view (powered choice x.device).cache) × (y.history ≡ x.history ++ owed ∷ [])
    × IsConcluded (rolls_back_of program owed.tx) program owed x.state state.Ready y.state)
    ⊎ ((view (powered choice x.device).cache SEAL ≢ pos (suc x.state.done))
    × (y.history ≡ x.history) × (y.state ≡ standing_as state.Ready x.state))

-- what the phase of a stopped call says of an image that a power cut leaves
abbrev pub HasPhase : Phase → SourceState → Words → Type 0
HasPhase phase.Unsealed s image = image SEAL ≢ pos (suc s.done)
HasPhase phase.Sealing s image = Unit {0}
HasPhase phase.Sealed s image = HasSeal s image

-- After a call that was stopped in phase sealed each image has the seal, and in phase unsealed none
-- has it.
abbrev pub PhaseLaw : Type 0
PhaseLaw =
    (program : Program) (super : Words) (name : List ℕ) (args : List ℤ) (m n : Mode) (d b : Device)
    (s : SourceState) (at : Phase) (k k1 : ℕ) →
    Agrees program → AreWords args → Holds program super m d s
    → Commanded program (command.Call name args) m d (answer.Stopped at) n b k k1 →
    Images (HasPhase at s) b.cache

-- The same of a recovery that was stopped, after a power cut and of an opened image.
abbrev pub RecoveryPhaseLaw : Type 0
RecoveryPhaseLaw =
    ((program : Program) (super : Words) (choice : Choice) (x y : Moment) (at : Phase) →
    Agrees program → Holds program super x.mode x.device x.state →
    SessionStep program super (command.Power choice) x (answer.Stopped at) y →
    Images (HasPhase at y.state) y.device.cache)
    × ((program : Program) (words : List ℤ) (d : Device) (k : ℕ) (y : Moment) (at : Phase) →
    Agrees program → AreWords words → IsOpened (wanted_of program) words →
    OpenStep program words d k (answer.Stopped at) y → Images (HasPhase at y.state) y.device.cache)

-- The device holds this heap, word for word, and this last value.
pub record IsRolledBack (program : Program) (h : Words) (last : ℤ) (b : Device) : Type 0 where
  pub heap : (w : ℕ) → w < heap_words (sizes_of program)
      → heap_in (sizes_of program) b.cache w ≡ h w
  pub last_is : view b.cache LAST ≡ last

-- the transaction was rolled back
abbrev pub IsRollback : Answer → Type 0
IsRollback (answer.Aborted kind) = Unit {0}
IsRollback (answer.RecoveredAborted kind) = Unit {0}
IsRollback a = ⊥

-- Each step of a chain finishes no transaction, or is answered that it was rolled back.
abbrev pub OnlyRollsBack : (program : Program) (super : Words) (commands : List Command)
    (answers : List Answer) (x y : Moment) → Ran program super commands answers x y → Type 0
OnlyRollsBack program super [] [] x y ran = Unit {0}
OnlyRollsBack program super [] (a ∷ answers) x y ran = ⊥
OnlyRollsBack program super (c ∷ commands) [] x y ran = ⊥
OnlyRollsBack program super (c ∷ commands) (a ∷ answers) x y ran =
    ((ran.0.history ≡ x.history) ⊎ IsRollback a)
    × OnlyRollsBack program super commands answers ran.0 y ran.2

-- The source's pool and last value are those of an earlier moment; where calls are taken, so are
-- the device's heap, word for word, and its last value.
pub record IsAsBefore (program : Program) (x y : Moment) : Type 0 where
  pub pool : y.state.pool ≡ x.state.pool
  pub last : y.state.last ≡ x.state.last
  pub device : y.state.standing ≡ state.Ready
      → IsRolledBack program (heap_in (sizes_of program) x.device.cache) x.state.last y.device

-- A script that finishes only transactions that it rolls back leaves pool and heap as they were,
-- however often power is cut. It begins where calls are taken.
abbrev pub RollbackChainLaw : Type 0
RollbackChainLaw =
    (program : Program) (super : Words) (commands : List Command) (answers : List Answer)
    (x y : Moment) →
    Agrees program → AllByRecursion IsWordCommand commands →
    Holds program super x.mode x.device x.state → x.state.standing ≡ state.Ready →
    (ran : Ran program super commands answers x y) →
    OnlyRollsBack program super commands answers x y ran → IsAsBefore program x y

-- Rollback: an aborted call leaves the heap word for word as it was before the call, and an aborted
-- recovery as it was before the owed transaction. The last value stays. The third law says so of a
-- whole script.
abbrev pub RollbackLaw : Type 0
RollbackLaw =
    ((program : Program) (super : Words) (name : List ℕ) (args : List ℤ) (m n : Mode) (d b : Device)
    (s : SourceState) (kind : TrapKind) (k k1 : ℕ) →
    Agrees program → AreWords args → Holds program super m d s →
    Commanded program (command.Call name args) m d (answer.Aborted kind) n b k k1 →
    IsRolledBack program (heap_in (sizes_of program) d.cache) s.last b)
    × ((program : Program) (super : Words) (choice : Choice) (owed : Pending) (m n : Mode)
    (d b : Device) (s : SourceState) (kind : TrapKind) (k k1 : ℕ) →
    Agrees program → rolls_back_of program owed.tx ≡ true →
    (owes : OwesBy true program super owed d s) →
    Commanded program (command.Power choice) m d (answer.RecoveredAborted kind) n b k k1 →
    IsRolledBack program owes.heap s.last b) × RollbackChainLaw

-- the owed transaction was run to its end
abbrev pub IsRedone : Answer → Type 0
IsRedone (answer.RecoveredRedone value unsigned logged) = Unit {0}
IsRedone (answer.RecoveredTrap kind) = Unit {0}
IsRedone (answer.RecoveredAborted kind) = Unit {0}
IsRedone a = ⊥

-- the called transaction was run to its end
abbrev pub RanToEnd : Answer → Type 0
RanToEnd (answer.Done value unsigned logged) = Unit {0}
RanToEnd (answer.Trap kind) = Unit {0}
RanToEnd (answer.Aborted kind) = Unit {0}
RanToEnd a = ⊥

-- The steps of the machine's run of a transaction on a heap: one for each instruction, of which the
-- last has no effect; and, if it is rolled back, one for each of its records.
abbrev pub TakesBy : (marked : Bool) → Program → Words → (tx : ℕ) → List ℤ → ℕ → Type 0
TakesBy marked program h tx args n =
    (end : End) × (effects : List Effect)
    × (tx_run (policy_of marked) program.image program.image.parts.most h tx args
    ≡ Finished end effects)
    × (n ≡ run_steps (policy_of marked) end effects)

-- A recovery that redoes a transaction takes one step for each valid record, and the steps of its
-- run.
abbrev pub RecoveryStepsLaw : Type 0
RecoveryStepsLaw =
    (marked : Bool) (program : Program) (super : Words) (choice : Choice) (owed : Pending)
    (m n : Mode) (d b : Device) (s : SourceState) (a : Answer) (k k1 : ℕ) →
    Agrees program → rolls_back_of program owed.tx ≡ marked →
    (owes : OwesBy marked program super owed d s) → IsRedone a
    → Commanded program (command.Power choice) m d a n b k k1 →
    k1 ≡ k + (count_in (sizes_of program) (view (powered choice d).cache)
    + run_steps (policy_of marked) owes.end owes.effects)

-- Steps of a call that runs its transaction to its end: those of the machine's run on the heap that
-- the call finds.
abbrev pub CallStepsLaw : Type 0
CallStepsLaw =
    (program : Program) (super : Words) (name : List ℕ) (args : List ℤ) (tx : ℕ) (m n : Mode)
    (d b : Device) (s : SourceState) (a : Answer) (k k1 : ℕ) →
    Agrees program → AreWords args → Holds program super m d s
    → call_number program name ≡ Some tx → RanToEnd a
    → Commanded program (command.Call name args) m d a n b k k1 →
    (taken : ℕ)
    × TakesBy (rolls_back_of program tx) program (heap_in (sizes_of program) d.cache) tx args taken
    × (k1 ≡ k + taken)

-- Steps exact, of calls and of recoveries, with and without the mark.
abbrev pub StepsLaw : Type 0
StepsLaw = RecoveryStepsLaw × CallStepsLaw

-- the words of lines 0 and 1 of a new pool
abbrev pub super_words : Program → Words
super_words program k =
    slice_index_or
    (sizes_words (sizes_of program)
    ++ pos 0 ∷ pos 0 ∷ slice_index_or program.digest 0 (pos 0)
    ∷ slice_index_or program.digest 1 (pos 0) ∷ slice_index_or program.digest 2 (pos 0)
    ∷ slice_index_or program.digest 3 (pos 0) ∷ [])
    k (pos 0)

-- A new pool holds the empty pool.
abbrev pub CreatedLaw : Type 0
CreatedLaw =
    (program : Program) (d b : Device) →
    PlaysAll (blanked (pool_lines (sizes_of program)) d)
    (creation_events (sizes_of program) program.digest) b →
    Holds program (super_words program) Ready b (created program)

-- A pool opened from an image of words is recovered as the source says, starting from what the
-- source knows of the image.
abbrev pub OpenedLaw : Type 0
OpenedLaw =
    (program : Program) (words : List ℤ) (n : Mode) (d b : Device) (a : Answer) (k k1 : ℕ) →
    Agrees program → AreWords words → IsOpened (wanted_of program) words
    → Opens program words d a n b k k1 →
    (t : SourceState)
    × OpenStep program words d k a
    (record {
      mode = n;
      device = b;
      steps = k1;
      state = t;
      history = recovered_by (opened program (image_words words)) (image_words words) a;
    })

-- The commands of a session run one after another, with their answers.
abbrev pub RunsAll : Program → List Command → List Answer → Mode → Device → ℕ → Mode → Device
    → ℕ → Type 0
RunsAll program [] [] m d k n b k1 = (n ≡ m) × (b ≡ d) × (k1 ≡ k)
RunsAll program [] (a ∷ answers) m d k n b k1 = ⊥
RunsAll program (c ∷ commands) [] m d k n b k1 = ⊥
RunsAll program (c ∷ commands) (a ∷ answers) m d k n b k1 =
    (m1 : Mode) × (d1 : Device) × (k2 : ℕ) × Commanded program c m d a m1 d1 k k2
    × RunsAll program commands answers m1 d1 k2 n b k1

-- A session's commands are a chain of steps, each answered as the source says.
abbrev pub SessionRunLaw : Type 0
SessionRunLaw =
    (program : Program) (super : Words) (commands : List Command) (answers : List Answer)
    (x : Moment) (n : Mode) (b : Device) (k1 : ℕ) →
    Agrees program → AllByRecursion IsWordCommand commands →
    Holds program super x.mode x.device x.state →
    RunsAll program commands answers x.mode x.device x.steps n b k1 →
    (t : SourceState) × (history : List Pending)
    × Ran program super commands answers x
    (record { mode = n; device = b; steps = k1; state = t; history = history })

-- At the end of each chain the device holds what the source knows.
abbrev pub KeptLaw : Type 0
KeptLaw =
    (program : Program) (super : Words) (commands : List Command) (answers : List Answer)
    (x y : Moment) →
    Holds program super x.mode x.device x.state → Ran program super commands answers x y →
    Holds program super y.mode y.device y.state

-- What a chain has done: the history has grown by these transactions, and each call that was
-- answered with a value is among them, but for those that only look.
pub record HasGrown (program : Program) (commands : List Command) (answers : List Answer)
    (x y : Moment) : Type 0 where
  pub done : List Pending
  pub history : y.history ≡ x.history ++ done
  pub does : HasDone program x.state y.state done (calls_in program commands)
  pub answered : IsPart (answered_in program commands answers) done

-- Never twice: each call adds at most one entry to the history, and adds one if it was answered
-- with a value. One that only looks adds none.
abbrev pub HistoryLaw : Type 0
HistoryLaw =
    (program : Program) (super : Words) (commands : List Command) (answers : List Answer)
    (x y : Moment) →
    Ran program super commands answers x y → HasGrown program commands answers x y

-- The history leads from the first pool to the one that the source knows, and each transaction of
-- the history is counted.
abbrev pub IsAfter : Program → (first : PoolMap) → (count : ℕ) → Moment → Type 0
IsAfter program first count x =
    LeadsTo program first x.history x.state.pool
    × (x.state.done ≡ count + length x.history)

-- Whole or not at all: whenever a session takes calls, the device's own heap holds the pool to
-- which the history leads.
abbrev pub WholeLaw : Type 0
WholeLaw =
    (program : Program) (super : Words) (first : PoolMap) (count : ℕ) (commands : List Command)
    (answers : List Answer) (x y : Moment) →
    Holds program super x.mode x.device x.state → IsAfter program first count x →
    Ran program super commands answers x y →
    IsAfter program first count y
    × (y.state.standing ≡ state.Ready → LeadsTo program first y.history
    (source_pool program (heap_in (sizes_of program) y.device.cache)))

-- Both first moments: a new pool is the empty one with nothing done; an opened one is what the
-- source gives from the image's pool.
abbrev pub BegunLaw : Type 0
BegunLaw =
    ((program : Program) (d : Device) (k : ℕ)
    → IsAfter program (empty_pool (sizes_of program).root_words (sizes_of program).slots) 0
    (fresh_moment program d k))
    × ((program : Program) (words : List ℤ) (d : Device) (k : ℕ) (a : Answer) (y : Moment) →
    OpenStep program words d k a y →
    IsAfter program (opened program (image_words words)).pool
    (opened program (image_words words)).done y)

-- A refused command, including a power cut whose pick doesn't fit, changes nothing: neither the
-- device, nor what the source knows, nor the history, nor the count of steps.
abbrev pub UnchangedLaw : Type 0
UnchangedLaw =
    (program : Program) (super : Words) (c : Command) (x : Moment) (a : Answer) (y : Moment) →
    IsRefused c a → SessionStep program super c x a y →
    (y.device ≡ x.device) × (y.state ≡ x.state) × (y.history ≡ x.history) × (y.steps ≡ x.steps)

-- A chain takes at most `most_of_program` steps for each of its commands.
abbrev pub BoundLaw : Type 0
BoundLaw =
    (program : Program) (super : Words) (commands : List Command) (answers : List Answer)
    (x y : Moment) →
    Ran program super commands answers x y →
    y.steps ≤ x.steps + length commands * most_of_program program

-- Looking changes nothing: a call of a transaction that only looks leaves the device as it was, the
-- history, and what the source knows; so nothing is owed after it, and no trap ends the pool. Only
-- where there was no memory for it is the session down.
pub record IsLooked (x : Moment) (a : Answer) (y : Moment) : Type 0 where
  pub device : y.device ≡ x.device
  pub history : y.history ≡ x.history
  pub state : (y.state ≡ x.state)
      ⊎ ((a ≡ answer.NoMemory) × (y.state ≡ standing_as (Down None) x.state))
  pub pool : y.state.pool ≡ x.state.pool
  pub done : y.state.done ≡ x.state.done
  pub last : y.state.last ≡ x.state.last

abbrev pub LookLaw : Type 0
LookLaw =
    (program : Program) (super : Words) (name : List ℕ) (args : List ℤ) (tx : ℕ) (x y : Moment)
    (a : Answer) →
    call_number program name ≡ Some tx → looks_of program tx ≡ true →
    SessionStep program super (command.Call name args) x a y → IsLooked x a y
