-- Serving begins with the opening of the pool, whose answer is written first.
use Rattle.std.specs.Prelude.{ℕ, ℤ, List, ◌++◌, Option, Result, Ok, Err, ◌≡◌, ◌⊎◌, codes}
use Rattle.std.specs.Io.KnownBytes.{Appends}
use Rattle.nvm_base.specs.Parts.{AppendsPart}
use Rattle.pmem.specs.Device.{Device}
use Rattle.file_pmem.specs.declared.link.MirrorState.{MirrorState}
use Rattle.file_pmem.specs.declared.link.MirrorState.TheVariants.{Awake}
use Rattle.cnvm_session.specs.declared.answer.Answer.{Answer}
use Rattle.cnvm_session.specs.declared.creating.StartFault.{StartFault}
use Rattle.cnvm_session.specs.declared.mode.Mode.{Mode}
use Rattle.cnvm_session.specs.declared.mode.Mode.TheVariants.{Ready}
use Rattle.cnvm_session.specs.declared.program.Program.{Program}
use Rattle.cnvm_session.specs.AnswerText.{answer_text}
use Rattle.cnvm_session.specs.Outcomes.{Opens}
use Rattle.session_run.specs.Made.{Created, Uncreated, Unopened}
use Rattle.session_serve.specs.Serves.{ServingEnds, ServesTo, ServesPart}
use Rattle.session_serve.specs.declared.serving.Served.{Served}
use Rattle.session_serve.specs.declared.serving.Served.TheVariants as served

-- serving ends at its first answer
abbrev pub EndsFirst : Served → (text : List ℕ) → (w w' : Option (List ℕ)) → Type 0
EndsFirst served.NoMemory text w w' = AppendsPart w w' text
EndsFirst served.WriteFault text w w' = AppendsPart w w' text
EndsFirst served.GivenUp text w w' = Appends w w' text
EndsFirst _ text w w' = ⊥

-- The first answer, a text, is written, and then lines are served. Or serving ends at it, and
-- `none` holds.
abbrev pub EndsAfter : Served → (text : List ℕ) → (left left' w w' : Option (List ℕ))
    → (none : Type 0) → (all : (told : Option (List ℕ)) → List (List ℕ) → Type 0)
    → (part : (told : Option (List ℕ)) → List (List ℕ) → List ℕ → Type 0) → Type 0
EndsAfter end text left left' w w' none all part =
    (EndsFirst end text w w' × none)
    ⊎ ((told : Option (List ℕ)) × Appends w told text
    × ServingEnds end left left' (all told) (part told))

-- the answer of an opening that makes a pool
abbrev pub created_text : List ℕ
created_text = codes "created\n\n"

-- the text of an answer that ends by an empty line
abbrev pub ended_text : Answer → List ℕ
ended_text answer = answer_text answer ++ codes "\n"

-- the same, from a mode on a device
abbrev pub ServedAfter : Served → (text : List ℕ) → (left left' : Option (List ℕ)) → Program
    → Mode → Device → Option (List ℕ) → (k : ℕ) → Device → Option (List ℕ) → (k' : ℕ) → Type 0
ServedAfter end text left left' program m d w k d' w' k' =
    EndsAfter end text left left' w w' ((d' ≡ d) × (k' ≡ k))
    (λ told. ServesTo program m d told k d' w' k') (λ told. ServesPart program m d told k d' w' k')

-- on a new pool that lies on this device
abbrev pub NewServed : Served → (left left' : Option (List ℕ)) → Program → Device
    → Option (List ℕ) → (k : ℕ) → Device → Option (List ℕ) → (k' : ℕ) → Type 0
NewServed end left left' program d w k d' w' k' =
    ServedAfter end created_text left left' program Ready d w k d' w' k'

-- on a new pool in memory, which may fail to be made
abbrev pub CreatedServed : Result Served StartFault → (left left' : Option (List ℕ)) → Program
    → Device → Option (List ℕ) → (k : ℕ) → Device → Option (List ℕ) → (k' : ℕ) → Type 0
CreatedServed (Ok end) left left' program d w k d' w' k' =
    (b : Device) × Created program d b × NewServed end left left' program b w k d' w' k'
CreatedServed (Err why) left left' program d w k d' w' k' = Uncreated program why w w' d d' k k'

-- on a pool of these words, which may fail to be opened
abbrev pub OpenedServed : Result Served StartFault → (left left' : Option (List ℕ)) → Program
    → List ℤ → Device → Option (List ℕ) → (k : ℕ) → Device → Option (List ℕ) → (k' : ℕ) → Type 0
OpenedServed (Ok end) left left' program words d w k d' w' k' =
    (answer : Answer) × (m : Mode) × (b : Device) × (k1 : ℕ)
    × Opens program words d answer m b k k1
    × ServedAfter end (ended_text answer) left left' program m b w k1 d' w' k'
OpenedServed (Err why) left left' program words d w k d' w' k' =
    Unopened program words why w w' d d' k k'

-- The pool of these words is opened, its answer is written, and the file mirrors the device.
abbrev pub OpensTold : Program → List ℤ → Mode → MirrorState → Option (List ℕ) → Option (List ℕ)
    → Device → Device → (k k' : ℕ) → Type 0
OpensTold program words m s w w' d d' k k' =
    (answer : Answer) × Opens program words d answer m d' k k'
    × Appends w w' (ended_text answer) × (s ≡ Awake)

-- serving ends so at the opening of these words
abbrev pub OpeningEnds : Result Served StartFault → Program → List ℤ → Option (List ℕ)
    → Option (List ℕ) → Device → Device → (k k' : ℕ) → Type 0
OpeningEnds (Ok end) program words w w' d d' k k' =
    (answer : Answer) × (m : Mode) × Opens program words d answer m d' k k'
    × EndsFirst end (ended_text answer) w w'
OpeningEnds (Err why) program words w w' d d' k k' = Unopened program words why w w' d d' k k'
