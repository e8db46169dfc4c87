-- A run of a script's commands: each is answered, and its lines are written, before the next. It
-- begins on a new pool, or on that of an image, whose recovery is answered first.
use Rattle.std.specs.Prelude.{ℕ, ℤ, List, [], ◌∷◌, Option, ◌≡◌, ◌⊎◌, Bool, false, ◌||◌}
use Rattle.std.specs.Io.KnownBytes.{Appends}
use Rattle.nvm_base.specs.Parts.{AppendsPart}
use Rattle.pmem.specs.Device.{Device}
use Rattle.cnvm_script.specs.declared.command.Command.{Command}
use Rattle.cnvm_session.specs.declared.answer.Answer.{Answer}
use Rattle.cnvm_session.specs.declared.mode.Mode.{Mode}
use Rattle.cnvm_session.specs.declared.mode.Mode.TheVariants.{Ready}
use Rattle.cnvm_session.specs.declared.program.Program.{Program}
use Rattle.cnvm_session.specs.AnswerText.{answer_text}
use Rattle.cnvm_session.specs.Commands.{Commanded}
use Rattle.cnvm_session.specs.Outcomes.{Opens}
use Rattle.session_run.specs.declared.status.Status.{Status}
use Rattle.session_run.specs.AsStatus.{AsStatus}
use Rattle.session_run.specs.Made.{Created, Uncreated, Unopened}
use Rattle.session_run.specs.Strict.{is_refused}

-- All commands are answered: from a mode, a device, the bytes that the sink shows, a count of steps
-- and whether an answer was refused to the device, bytes and count after them, and whether one was.
abbrev pub RunsAndWrites : Program → List Command → Mode → Device → Option (List ℕ) → ℕ → Bool
    → Device → Option (List ℕ) → ℕ → Bool → Type 0
RunsAndWrites program [] m d w k u d' w' k' u' =
    (d' ≡ d) × (w' ≡ w) × (k' ≡ k) × (u' ≡ u)
RunsAndWrites program (command ∷ commands) m d w k u d' w' k' u' =
    (answer : Answer) × (m1 : Mode) × (d1 : Device) × (w1 : Option (List ℕ)) × (k1 : ℕ)
    × Commanded program command m d answer m1 d1 k k1
    × Appends w w1 (answer_text answer)
    × RunsAndWrites program commands m1 d1 w1 k1 (u || is_refused answer) d' w' k' u'

-- The first commands are answered, and a part of the next one's lines is written, perhaps none.
abbrev pub RunsPart : Program → List Command → Mode → Device → Option (List ℕ) → ℕ → Device
    → Option (List ℕ) → ℕ → Type 0
RunsPart program [] m d w k d' w' k' = ⊥
RunsPart program (command ∷ commands) m d w k d' w' k' =
    ((answer : Answer) × (m1 : Mode) × Commanded program command m d answer m1 d' k k'
    × AppendsPart w w' (answer_text answer))
    ⊎ ((answer : Answer) × (m1 : Mode) × (d1 : Device) × (w1 : Option (List ℕ)) × (k1 : ℕ)
    × Commanded program command m d answer m1 d1 k k1
    × Appends w w1 (answer_text answer) × RunsPart program commands m1 d1 w1 k1 d' w' k')

-- How commands end that are run from a mode and a device, by the status.
abbrev pub CommandsEnd : Program → List Command → Status → Mode → Device → Option (List ℕ) → ℕ
    → Device → Option (List ℕ) → ℕ → Type 0
CommandsEnd program commands result m d w k d' w' k' =
    AsStatus (λ why. ⊥) (RunsPart program commands m d w k d' w' k')
    (λ unmet. RunsAndWrites program commands m d w k false d' w' k' unmet)
    (RunsPart program commands m d w k d' w' k') result

abbrev pub CreatedAll : Program → List Command → (unmet : Bool) → Option (List ℕ)
    → Option (List ℕ) → Device → Device → (k k' : ℕ) → Type 0
CreatedAll program commands unmet w w' d d' k k' = (b : Device) × Created program d b
    × RunsAndWrites program commands Ready b w k false d' w' k' unmet

abbrev pub CreatedPart : Program → List Command → Option (List ℕ) → Option (List ℕ) → Device
    → Device → (k k' : ℕ) → Type 0
CreatedPart program commands w w' d d' k k' = (b : Device) × Created program d b
    × RunsPart program commands Ready b w k d' w' k'

-- How a run on a new pool ends, by its status.
abbrev pub RanAs : Program → List Command → Status → Option (List ℕ) → Option (List ℕ) → Device
    → Device → (k k' : ℕ) → Type 0
RanAs program commands result w w' d d' k k' =
    AsStatus (λ why. Uncreated program why w w' d d' k k')
    (CreatedPart program commands w w' d d' k k')
    (λ unmet. CreatedAll program commands unmet w w' d d' k k')
    (CreatedPart program commands w w' d d' k k') result

-- the pool is opened, its answer is written, and all commands are answered
abbrev pub OpensAll : Program → List Command → List ℤ → (unmet : Bool) → Option (List ℕ)
    → Option (List ℕ) → Device → Device → (k k' : ℕ) → Type 0
OpensAll program commands words unmet w w' d d' k k' =
    (answer : Answer) × (m : Mode) × (b : Device) × (w1 : Option (List ℕ)) × (k1 : ℕ)
    × Opens program words d answer m b k k1
    × Appends w w1 (answer_text answer)
    × RunsAndWrites program commands m b w1 k1 false d' w' k' unmet

-- the pool is opened, and a part of its answer is written; or all of it is, and some of the
-- commands are answered
abbrev pub OpensPart : Program → List Command → List ℤ → Option (List ℕ) → Option (List ℕ) → Device
    → Device → (k k' : ℕ) → Type 0
OpensPart program commands words w w' d d' k k' =
    ((answer : Answer) × (m : Mode) × Opens program words d answer m d' k k'
    × AppendsPart w w' (answer_text answer))
    ⊎ ((answer : Answer) × (m : Mode) × (b : Device) × (w1 : Option (List ℕ)) × (k1 : ℕ)
    × Opens program words d answer m b k k1
    × Appends w w1 (answer_text answer) × RunsPart program commands m b w1 k1 d' w' k')

-- How a run on the pool of an image's words ends, by its status.
abbrev pub OpenedAs : Program → List Command → List ℤ → Status → Option (List ℕ)
    → Option (List ℕ) → Device → Device → (k k' : ℕ) → Type 0
OpenedAs program commands words result w w' d d' k k' =
    AsStatus (λ why. Unopened program words why w w' d d' k k')
    (OpensPart program commands words w w' d d' k k')
    (λ unmet. OpensAll program commands words unmet w w' d d' k k')
    (OpensPart program commands words w w' d d' k k') result
