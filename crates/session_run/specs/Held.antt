-- A run on the pool of a file: its lines lie in a device that is mirrored in the file. It ends as a
-- run on an image's pool does; or the file refused something, and the run ended there.
use Rattle.std.specs.Prelude.{ℕ, ℤ, List, ◌++◌, Option, ◌≡◌, ◌⊎◌, ◌≢◌, Result}
use Rattle.std.specs.Prelude.{◌*◌, codes, Bool, true, false}
use Rattle.std.specs.Prelude.{Ok, Err}
use Rattle.std.specs.Io.KnownBytes.{Appends}
use Rattle.pmem.specs.Device.{Device}
use Rattle.file_pmem.specs.declared.link.MirrorState.{MirrorState}
use Rattle.file_pmem.specs.declared.link.MirrorState.TheVariants.{Awake}
use Rattle.cnvm_script.specs.declared.command.Command.{Command}
use Rattle.cnvm_session.specs.declared.answer.Answer.{Answer}
use Rattle.args_log.specs.Created.{creation_events}
use Rattle.cache_model.specs.Cache.{view}
use Rattle.pm_machine.specs.HeapPool.{words_from}
use Rattle.pool_layout.specs.Sizes.{pool_lines}
use Rattle.cnvm_session.specs.declared.creating.StartFault.{StartFault}
use Rattle.cnvm_session.specs.declared.creating.StartFault.TheVariants as start
use Rattle.cnvm_session.specs.declared.mode.Mode.{Mode}
use Rattle.cnvm_session.specs.declared.mode.Mode.TheVariants.{Ready}
use Rattle.cnvm_session.specs.Pool.{sizes_of}
use Rattle.cnvm_session.specs.Unmade.{IsUnmade}
use Rattle.session_run.specs.Made.{Created}
use Rattle.cnvm_session.specs.declared.program.Program.{Program}
use Rattle.cnvm_session.specs.AnswerText.{answer_text}
use Rattle.cnvm_session.specs.Outcomes.{Opens}
use Rattle.nvm_base.specs.Parts.{AppendsPart}
use Rattle.session_run.specs.declared.held.Unheld.{Unheld}
use Rattle.session_run.specs.declared.held.Unheld.TheVariants as unheld
use Rattle.session_run.specs.declared.status.Status.{Status}
use Rattle.session_run.specs.declared.status.Status.TheVariants as status
use Rattle.session_run.specs.Commands.{RunsAndWrites, RunsPart, OpenedAs}
use Rattle.session_run.specs.Strict.{answered_status, IsAnswered}

-- Some first commands are answered, perhaps all or none.
abbrev pub RunsSome : Program → List Command → Mode → Device → Option (List ℕ) → ℕ → Bool → Device
    → Option (List ℕ) → ℕ → Type 0
RunsSome program commands m d w k u d' w' k' =
    (first : List Command) × (rest : List Command) × (commands ≡ first ++ rest) × (u' : Bool)
    × RunsAndWrites program first m d w k u d' w' k' u'

-- the pool is opened, its answer is written, and some first commands are answered
abbrev pub OpensSome : Program → List Command → List ℤ → Option (List ℕ) → Option (List ℕ)
    → Device → Device → (k k' : ℕ) → Type 0
OpensSome program commands words w w' d d' k k' =
    (answer : Answer) × (m : Mode) × (b : Device) × (w1 : Option (List ℕ)) × (k1 : ℕ)
    × Opens program words d answer m b k k1
    × Appends w w1 (answer_text answer) × RunsSome program commands m b w1 k1 false d' w' k'

-- how the answer at hand is written where a run ends at it, with the file in this state
abbrev pub EndsAt : Unheld → MirrorState → Option (List ℕ) → Option (List ℕ) → List ℕ → Type 0
EndsAt unheld.NoMemory s w w' text = AppendsPart w w' text
EndsAt unheld.WriteFault s w w' text = AppendsPart w w' text
EndsAt unheld.GivenUp s w w' text = Appends w w' text × (s ≢ Awake)

-- The commands aren't all answered, for this cause: a part of the lines of one is written; or all
-- of them are, and the file has refused something.
abbrev pub BreaksOff : Unheld → MirrorState → Program → List Command → Mode → Device
    → Option (List ℕ) → ℕ → Device → Option (List ℕ) → ℕ → Type 0
BreaksOff unheld.NoMemory s program commands m d w k d' w' k' =
    RunsPart program commands m d w k d' w' k'
BreaksOff unheld.WriteFault s program commands m d w k d' w' k' =
    RunsPart program commands m d w k d' w' k'
BreaksOff unheld.GivenUp s program commands m d w k d' w' k' =
    RunsSome program commands m d w k false d' w' k' × (s ≢ Awake)

-- the status of commands that are all answered, or not
abbrev pub status_of : Result Bool Unheld → Status
status_of (Ok unmet) = answered_status unmet
status_of (Err unheld.NoMemory) = status.NoMemory
status_of (Err unheld.WriteFault) = status.WriteFault
status_of (Err unheld.GivenUp) = status.DeviceFault

-- the pool of these words is opened, its answer is written, and the file mirrors the device
abbrev pub OpensTold : Program → List ℤ → Mode → MirrorState → Option (List ℕ) → Option (List ℕ)
    → Device → Device → (k k' : ℕ) → Type 0
OpensTold program words m s w w' d d' k k' =
    (answer : Answer) × Opens program words d answer m d' k k'
    × Appends w w' (answer_text answer) × (s ≡ Awake)

-- The commands are all answered, or a part, or some until the file refused something.
abbrev pub AnswersAs : Program → List Command → Mode → Status → MirrorState → Option (List ℕ)
    → Option (List ℕ) → Device → Device → (k k' : ℕ) → Type 0
AnswersAs program commands m status.Done s w w' d d' k k' =
    RunsAndWrites program commands m d w k false d' w' k' false × (s ≡ Awake)
AnswersAs program commands m status.Unmet s w w' d d' k k' =
    RunsAndWrites program commands m d w k false d' w' k' true × (s ≡ Awake)
AnswersAs program commands m status.NoMemory s w w' d d' k k' =
    RunsPart program commands m d w k d' w' k'
AnswersAs program commands m status.WriteFault s w w' d d' k k' =
    RunsPart program commands m d w k d' w' k'
AnswersAs program commands m status.DeviceFault s w w' d d' k k' =
    RunsSome program commands m d w k false d' w' k' × (s ≢ Awake)
AnswersAs program commands m _ s w w' d d' k k' = ⊥

-- How a run on the pool of a file ends, which holds these words, by its status and the file's
-- state. After status 0 or 10 the file mirrors the device.
abbrev pub HeldAs : Program → List Command → List ℤ → Status → MirrorState → Option (List ℕ)
    → Option (List ℕ) → Device → Device → (k k' : ℕ) → Type 0
HeldAs program commands words result s w w' d d' k k' =
    (IsAnswered result → s ≡ Awake)
    × (OpenedAs program commands words result w w' d d' k k'
    ⊎ ((result ≡ status.DeviceFault) × (s ≢ Awake)
    × OpensSome program commands words w w' d d' k k'))

-- What a run writes first where a pool's file was made.
abbrev pub created_line : List ℕ
created_line = codes "created\n"

-- Commands are answered on a pool whose file was just made: this line is written, and then all of
-- them are answered, or a part, or some until the file refused something. `none` says that no
-- command was run.
abbrev pub FirstTold : (all : (unmet : Bool) → (told : Option (List ℕ)) → Type 0)
    → (part some : (told : Option (List ℕ)) → Type 0) → (none : Type 0) → Status
    → Option (List ℕ) → Option (List ℕ) → Type 0
FirstTold all part some none status.Done w w' =
    (told : Option (List ℕ)) × Appends w told created_line × all false told
FirstTold all part some none status.Unmet w w' =
    (told : Option (List ℕ)) × Appends w told created_line × all true told
FirstTold all part some none status.NoMemory w w' =
    (told : Option (List ℕ)) × Appends w told created_line × part told
FirstTold all part some none status.WriteFault w w' =
    (AppendsPart w w' created_line × none)
    ⊎ ((told : Option (List ℕ)) × Appends w told created_line × part told)
FirstTold all part some none status.DeviceFault w w' =
    (told : Option (List ℕ)) × Appends w told created_line × some told
FirstTold all part some none _ w w' = ⊥

-- how a run on a new pool ends whose lines lie on this device, by its status and the file's state
abbrev pub NewAs : Program → List Command → Status → MirrorState → Option (List ℕ)
    → Option (List ℕ) → Device → Device → (k k' : ℕ) → Type 0
NewAs program commands result s w w' d d' k k' =
    FirstTold
    (λ unmet told. RunsAndWrites program commands Ready d told k false d' w' k' unmet
    × (s ≡ Awake))
    (λ told. RunsPart program commands Ready d told k d' w' k')
    (λ told. RunsSome program commands Ready d told k false d' w' k' × (s ≢ Awake))
    ((d' ≡ d) × (k' ≡ k)) result w w'

-- A pool is created in memory, and these are its words; or it couldn't be, for this cause; or it
-- is created, and there was no memory for its words.
abbrev pub CreatesWords : Program → Result (Mode × List ℤ) StartFault → Device → Device → Type 0
CreatesWords program (Ok made) d d' =
    Created program d d' × (made.0 ≡ Ready) × (made.1 ≡ words_from (view d'.cache) 0 (8 * d'.lines))
CreatesWords program (Err why) d d' =
    IsUnmade why (pool_lines (sizes_of program))
    (creation_events (sizes_of program) program.digest) d d'
    ⊎ ((why ≡ start.NoMemory) × Created program d d')
