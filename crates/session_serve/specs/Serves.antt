-- Serving: the lines of an input are answered one after another. The answer of a line is a text:
-- the lines of its command's answer and an empty line; an empty line alone for a line without words
-- and for a remark; `refused line` and an empty line for a bad line. The latter two change nothing.
use Rattle.std.specs.Prelude.{ℕ, ◌-◌, ◌^◌, ◌<◌, ◌≤◌, List, [], ◌∷◌, ◌++◌, length, Option, None}
use Rattle.std.specs.Prelude.{Some, ◌≡◌, ◌⊎◌, IfSome, codes}
use Rattle.std.specs.Io.KnownBytes.{Appends, IsAtEnd, prepend_known}
use Rattle.nvm_base.specs.Parts.{AppendsPart}
use Rattle.pmem.specs.Device.{Device}
use Rattle.cnvm_script.specs.declared.read.TheConstants.{SCRIPT_BYTES}
use Rattle.cnvm_script.specs.declared.command.Command.{Command}
use Rattle.cnvm_script.specs.Commands.{line_meaning}
use Rattle.cnvm_script.specs.Lines.{lines}
use Rattle.cnvm_session.specs.declared.answer.Answer.{Answer}
use Rattle.cnvm_session.specs.declared.mode.Mode.{Mode}
use Rattle.cnvm_session.specs.declared.program.Program.{Program}
use Rattle.cnvm_session.specs.AnswerText.{answer_text}
use Rattle.cnvm_session.specs.Commands.{Commanded}
use Rattle.session_serve.specs.LineSize.{line_size}
use Rattle.session_serve.specs.declared.serving.Served.{Served}
use Rattle.session_serve.specs.declared.serving.Served.TheVariants as served

-- What a line of this meaning does, and the text of its answer: from a mode, a device and a count
-- of steps to those after it.
abbrev pub DoesMeaning : Option (Option Command) → Program → Mode → Device → (k : ℕ)
    → (text : List ℕ) → Mode → Device → (k1 : ℕ) → Type 0
DoesMeaning (Some (Some command)) program m d k text m1 d1 k1 =
    (answer : Answer) × Commanded program command m d answer m1 d1 k k1
    × (text ≡ answer_text answer ++ codes "\n")
DoesMeaning (Some None) program m d k text m1 d1 k1 =
    (text ≡ codes "\n") × (m1 ≡ m) × (d1 ≡ d) × (k1 ≡ k)
DoesMeaning None program m d k text m1 d1 k1 =
    (text ≡ codes "refused line\n\n") × (m1 ≡ m) × (d1 ≡ d) × (k1 ≡ k)

-- All of these lines are answered: from a mode, a device, the bytes that the sink shows and a count
-- of steps to those after them.
abbrev pub Serves : Program → List (List ℕ) → Mode → Device → Option (List ℕ) → ℕ → Mode → Device
    → Option (List ℕ) → ℕ → Type 0
Serves program [] m d w k m' d' w' k' = (m' ≡ m) × (d' ≡ d) × (w' ≡ w) × (k' ≡ k)
Serves program (line ∷ lines) m d w k m' d' w' k' =
    (text : List ℕ) × (m1 : Mode) × (d1 : Device) × (w1 : Option (List ℕ)) × (k1 : ℕ)
    × DoesMeaning (line_meaning line) program m d k text m1 d1 k1
    × Appends w w1 text × Serves program lines m1 d1 w1 k1 m' d' w' k'

-- these lines are answered, whatever the mode is then
abbrev pub ServesTo : Program → Mode → Device → Option (List ℕ) → (k : ℕ) → Device
    → Option (List ℕ) → (k' : ℕ) → List (List ℕ) → Type 0
ServesTo program m d w k d' w' k' given =
    (m' : Mode) × Serves program given m d w k m' d' w' k'

-- These lines are answered; what the next one says is done, and a part of its answer is written,
-- perhaps nothing.
abbrev pub ServesPart : Program → Mode → Device → Option (List ℕ) → (k : ℕ) → Device
    → Option (List ℕ) → (k' : ℕ) → List (List ℕ) → (next : List ℕ) → Type 0
ServesPart program m d w k d' w' k' given next =
    (m1 : Mode) × (d1 : Device) × (w1 : Option (List ℕ)) × (k1 : ℕ)
    × Serves program given m d w k m1 d1 w1 k1
    × (text : List ℕ) × (m' : Mode)
    × DoesMeaning (line_meaning next) program m1 d1 k1 text m' d' k' × AppendsPart w1 w' text

-- These lines are taken from the front of an input. Of one that doesn't tell its bytes nothing is
-- said.
abbrev pub TakesLines : Option (List ℕ) → List (List ℕ) → Option (List ℕ) → Type 0
TakesLines None given new = Unit {0}
TakesLines (Some text) given None = ⊥
TakesLines (Some text) given (Some more) = lines text ≡ given ++ lines more

-- The next line is taken too: what it says is done, and its answer is written in part.
abbrev pub EndsInLine : (left left' : Option (List ℕ))
    → (part : List (List ℕ) → (next : List ℕ) → Type 0) → Type 0
EndsInLine left left' part =
    (given : List (List ℕ)) × (next : List ℕ) × (ahead : List ℕ)
    × TakesLines left (given ++ next ∷ []) (prepend_known ahead left') × part given next

-- How serving ends, by the cause: which lines were taken from the input, and what is true of them.
-- `ahead` was read, and isn't in a line that was taken. When a read fails, no whole line is ahead:
-- so, whenever a read is made, each whole line that was read before it is answered.
abbrev pub ServingEnds : Served → (left left' : Option (List ℕ)) → (all : List (List ℕ) → Type 0)
    → (part : List (List ℕ) → (next : List ℕ) → Type 0) → Type 0
ServingEnds served.Done left left' all part =
    (given : List (List ℕ)) × IfSome left (λ text. given ≡ lines text) × IsAtEnd left' × all given
ServingEnds served.ReadFault left left' all part =
    (given : List (List ℕ)) × (ahead : List ℕ) × (line_size ahead ≡ length ahead)
    × TakesLines left given (prepend_known ahead left') × all given
ServingEnds served.LongLine left left' all part =
    (given : List (List ℕ)) × IfSome left (λ text. (more : List ℕ)
    × (lines text ≡ given ++ lines more) × (SCRIPT_BYTES < line_size more)) × all given
ServingEnds served.ManyLines left left' all part =
    (given : List (List ℕ)) × (ahead : List ℕ) × (2 ^ 64 - 1 ≤ length given)
    × TakesLines left given (prepend_known ahead left') × all given
ServingEnds served.NoMemory left left' all part =
    ((given : List (List ℕ)) × (unread : List (List ℕ)) × (ahead : List ℕ)
    × (length unread ≤ 1) × TakesLines left (given ++ unread) (prepend_known ahead left')
    × all given)
    ⊎ EndsInLine left left' part
ServingEnds served.WriteFault left left' all part = EndsInLine left left' part
ServingEnds served.GivenUp left left' all part =
    (given : List (List ℕ)) × (ahead : List ℕ) × (1 ≤ length given)
    × TakesLines left given (prepend_known ahead left') × all given

-- how serving ends that begins in a mode on a device
abbrev pub ServedAs : Served → (left left' : Option (List ℕ)) → Program → Mode → Device
    → Option (List ℕ) → (k : ℕ) → Device → Option (List ℕ) → (k' : ℕ) → Type 0
ServedAs end left left' program m d w k d' w' k' =
    ServingEnds end left left' (ServesTo program m d w k d' w' k')
    (ServesPart program m d w k d' w' k')
