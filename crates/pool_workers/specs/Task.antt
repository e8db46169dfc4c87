-- An unfinished transaction of a worker: the next piece of its due list, and the transaction after
-- that piece.
use Rattle.std.specs.Prelude.{ℕ, ◌-◌, ◌^◌, ◌<◌, ◌≤◌, ◌≡◌, ◌==◌, if◌then◌else◌, List, [], length}
use Rattle.std.specs.Prelude.{Option, Some, None, ℤ, Bool, true, false}
use Rattle.cache_model.specs.Event.{CacheEvent}
use Rattle.cache_model.specs.Cache.{Words, Cache, view}
use Rattle.cache_model.specs.Play.{play}
use Rattle.pmem.specs.Device.{Device}
use Rattle.pmem.specs.Played.{PlaysAll, PlaysPart}
use Rattle.pmem.specs.declared.answer.Phase.{Phase}
use Rattle.pmem.specs.declared.answer.Phase.TheVariants.{Unsealed, Sealing, Sealed}
use Rattle.pmem.specs.declared.answer.Refusal.{Refusal}
use Rattle.pmem.specs.declared.answer.Refusal.TheVariants as refusal
use Rattle.pool_layout.specs.Sizes.{heap_words}
use Rattle.pool_map.specs.declared.trap.TrapKind.TheVariants.{Steps}
use Rattle.clobber_log.specs.Logs.{attempt_in}
use Rattle.args_log.specs.Seal.{sealing_events}
use Rattle.pm_machine.specs.declared.effect.End.{End}
use Rattle.pm_machine.specs.declared.effect.End.TheVariants.{Halted, Trapped}
use Rattle.pm_machine.specs.declared.image.Image.{Image}
use Rattle.pm_machine.specs.declared.machine.Machine.{Machine}
use Rattle.pm_machine.specs.declared.records.Policy.TheVariants.{EndPool}
use Rattle.pm_machine.specs.Logging.{Logging, Turn, Plays, Stops, turn_of, blank}
use Rattle.pm_machine.specs.Machine.{State, start}
use Rattle.pm_machine.specs.Runs.{heap_in, AreLines, logging_on, due_step}
use Rattle.tx_run.specs.Due.{tail_events, due_seal, due_unsealed}
use Rattle.tx_run.specs.Called.{WentIn}
use Rattle.pool_workers.specs.declared.answer.TurnAnswer.{TurnAnswer}
use Rattle.pool_workers.specs.declared.answer.TurnAnswer.TheVariants as answer
use Rattle.pool_workers.specs.declared.task.Task.{Task}
use Rattle.pool_workers.specs.declared.task.Task.TheVariants.{Begun, Running, Ending, Cut}
use Rattle.pool_workers.specs.declared.task.Task.TheVariants.{Looking}
use Rattle.pool_workers.specs.declared.look.Look.{Look}
use Rattle.pool_workers.specs.declared.look.Look.TheVariants.{Fresh, Going, Seen}
use Rattle.pool_workers.specs.Look.{going_look, going_past, look_told, look_ticks, HasLeft}

-- a run in this state, with these records
abbrev pub machine_at : State → Logging → Machine
machine_at s g = record { processor = s; records = g }

-- the machine at the first place of a transaction, without a record
abbrev pub first_machine : Image → (tx : ℕ) → List ℤ → Machine
first_machine image tx args = machine_at (start image tx args) (blank EndPool)

-- a transaction at its start, by whether it only looks
abbrev pub first_task : (looks : Bool) → Image → (tx : ℕ) → List ℤ → Task
first_task true image tx args = Looking tx (Fresh (first_machine image tx args))
first_task false image tx args = Begun tx args (first_machine image tx args)

-- how far the seal has come, as `phase` answers it
abbrev pub task_phase : Task → Phase
task_phase (Begun tx args m) = Unsealed
task_phase (Running tx m a k) = Sealed
task_phase (Ending tx end l) = Sealed
task_phase (Looking tx l) = Unsealed
task_phase (Cut p) = p

-- the number of its transaction; 0 once a turn was refused
abbrev pub task_tx : Task → ℕ
task_tx (Begun tx args m) = tx
task_tx (Running tx m a k) = tx
task_tx (Ending tx end l) = tx
task_tx (Looking tx l) = tx
task_tx (Cut p) = 0

-- A run that goes on. If no more instructions are allowed it ends as if it had no tick left.
abbrev pub going : (tx : ℕ) → Machine → (a k : ℕ) → Task
going tx m a k =
    if k == 0 then Ending tx (Trapped Steps) (length m.records.words) else Running tx m a k

-- after the seal, with the attempt and the records that the pool then has
abbrev pub sealed_task : Image → (tx : ℕ) → Machine → Cache → Task
sealed_task image tx m c =
    going tx (machine_at m.processor (logging_on EndPool image.parts.sizes c))
    (attempt_in image.parts.sizes (view c)) image.parts.most

-- after a turn of the run, with k instructions left before it
abbrev pub stepped_task : (tx a k : ℕ) → Logging → Turn → Task
stepped_task tx a k g (Plays es h t) = going tx (machine_at t h) a (k - 1)
stepped_task tx a k g (Stops end) = Ending tx end (length g.words)

-- The next piece of the due list, on the cache of the worker's compartment: the seal, an
-- instruction with its record, or the end. One that only looks has no event.
abbrev pub piece_of : Image → Task → Cache → List CacheEvent
piece_of image (Begun tx args m) c = due_seal tx args c
piece_of image (Running tx m a k) c = due_step image a m.records m.processor c
piece_of image (Ending tx end l) c = tail_events EndPool image.parts.sizes end c
piece_of image (Looking tx l) c = []
piece_of image (Cut p) c = []

-- a look after its next turn, on this heap
abbrev pub look_past : Image → (tx : ℕ) → Look → Words → Option Task
look_past image tx (Fresh m) heap = Some (Looking tx (going_look m image.parts.most))
look_past image tx (Going m k) heap = Some (Looking tx (going_past image m k heap))
look_past image tx (Seen end) heap = None

-- the transaction after the whole piece
abbrev pub task_past : Image → Task → Cache → Option Task
task_past image (Begun tx args m) c = Some (sealed_task image tx m (play c (due_seal tx args c)))
task_past image (Running tx m a k) c =
    Some (stepped_task tx a k m.records
    (turn_of image m.records m.processor (heap_in image.parts.sizes c)))
task_past image (Ending tx end l) c = None
task_past image (Looking tx l) c = look_past image tx l (heap_in image.parts.sizes c)
task_past image (Cut p) c = Some (Cut p)

-- the answer of a turn that played the whole piece
abbrev pub end_answer : End → ℕ → TurnAnswer
end_answer (Halted v) l = answer.Done v l
end_answer (Trapped k) l = answer.Trap k

abbrev pub answer_past : Task → TurnAnswer
answer_past (Begun tx args m) = answer.Went
answer_past (Running tx m a k) = answer.Went
answer_past (Ending tx end l) = end_answer end l
answer_past (Looking tx l) = look_told l
answer_past (Cut p) = answer.Off

-- the number of instructions of a turn
abbrev pub ticks_of : Task → ℕ
ticks_of (Begun tx args m) = 0
ticks_of (Running tx m a k) = 1
ticks_of (Ending tx end l) = 0
ticks_of (Looking tx l) = look_ticks l
ticks_of (Cut p) = 0

-- The power went during a piece. In a seal it went before the store of the seal was done, or
-- between it and the end of the seal; in any other piece the call is sealed.
abbrev pub CutAt : Image → Task → Phase → (d b : Device) → Type 0
CutAt image (Begun tx args m) Unsealed d b =
    PlaysPart refusal.Off d (due_unsealed tx args d.cache) b
CutAt image (Begun tx args m) Sealing d b =
    WentIn d b (due_unsealed tx args d.cache) sealing_events
CutAt image (Begun tx args m) Sealed d b = ⊥
CutAt image t p d b = p ≡ Sealed

abbrev pub IsCutAt : Image → Task → Option Task → (d b : Device) → Type 0
IsCutAt image t None d b = ⊥
IsCutAt image t (Some (Cut p)) d b = CutAt image t p d b
IsCutAt image t (Some o) d b = ⊥

-- A turn that played its whole piece has this answer and leaves this transaction.
abbrev pub WentWhole : TurnAnswer → Image → Task → Option Task → (d b : Device) → Type 0
WentWhole a image t o d b =
    (a ≡ answer_past t) × (o ≡ task_past image t d.cache) × PlaysAll d (piece_of image t d.cache) b

-- A turn that failed or found no memory leaves the transaction cut, in the phase that it had.
abbrev pub WasRefused : Refusal → Image → Task → Option Task → (d b : Device) → Type 0
WasRefused why image t o d b =
    PlaysPart why d (piece_of image t d.cache) b × (o ≡ Some (Cut (task_phase t)))

-- The answer of a turn of a transaction, on a device that is on.
abbrev pub Turned : TurnAnswer → Image → Task → Option Task → (d b : Device) → Type 0
Turned answer.Idle image t o d b = ⊥
Turned answer.Went image t o d b = WentWhole answer.Went image t o d b
Turned (answer.Done v l) image t o d b = WentWhole (answer.Done v l) image t o d b
Turned (answer.Trap k) image t o d b = WentWhole (answer.Trap k) image t o d b
Turned (answer.Aborted k) image t o d b = WentWhole (answer.Aborted k) image t o d b
Turned answer.Off image t o d b =
    PlaysPart refusal.Off d (piece_of image t d.cache) b × IsCutAt image t o d b
Turned answer.Failed image t o d b = WasRefused refusal.Failed image t o d b
Turned answer.NoMemory image t o d b = WasRefused refusal.NoMemory image t o d b

-- The invariant of a transaction of the image.
abbrev pub IsTask : Image → Task → Type 0
IsTask image (Begun tx args m) = m ≡ first_machine image tx args
IsTask image (Running tx m a k) =
    AreLines (heap_words image.parts.sizes) m.processor.dirty × (a ≤ 2 ^ 63 - 2) × (0 < k)
IsTask image (Ending tx end l) = Unit {0}
IsTask image (Looking tx l) = HasLeft l
IsTask image (Cut p) = Unit {0}

abbrev pub IsTaskOr : Image → Option Task → Type 0
IsTaskOr image None = Unit {0}
IsTaskOr image (Some t) = IsTask image t

-- no turn of it was refused
abbrev pub IsUncut : Task → Type 0
IsUncut (Begun tx args m) = Unit {0}
IsUncut (Running tx m a k) = Unit {0}
IsUncut (Ending tx end l) = Unit {0}
IsUncut (Looking tx l) = Unit {0}
IsUncut (Cut p) = ⊥

abbrev pub IsUncutOr : Option Task → Type 0
IsUncutOr None = Unit {0}
IsUncutOr (Some t) = IsUncut t

-- the turn wasn't refused
abbrev pub IsGoing : TurnAnswer → Type 0
IsGoing answer.Idle = Unit {0}
IsGoing answer.Went = Unit {0}
IsGoing (answer.Done v l) = Unit {0}
IsGoing (answer.Trap k) = Unit {0}
IsGoing (answer.Aborted k) = Unit {0}
IsGoing answer.Off = ⊥
IsGoing answer.Failed = ⊥
IsGoing answer.NoMemory = ⊥
