-- One line: it is taken from the input and answered.
use Rattle.std.specs.Prelude.{ℕ, ◌<◌, List, [], ◌∷◌, ◌++◌, Option, None, Some, Result, Ok, Err}
use Rattle.std.specs.Prelude.{◌≡◌, ◌⊎◌, IfSome}
use Rattle.std.specs.Io.KnownBytes.{Appends, Keeps}
use Rattle.nvm_base.specs.Parts.{AppendsPart}
use Rattle.pmem.specs.Device.{Device}
use Rattle.cnvm_script.specs.declared.command.Command.{Command}
use Rattle.cnvm_script.specs.declared.read.TheConstants.{SCRIPT_BYTES}
use Rattle.cnvm_script.specs.Commands.{line_meaning}
use Rattle.cnvm_script.specs.Lines.{lines}
use Rattle.cnvm_session.specs.declared.mode.Mode.{Mode}
use Rattle.cnvm_session.specs.declared.program.Program.{Program}
use Rattle.session_serve.specs.LineSize.{line_size}
use Rattle.session_serve.specs.declared.answering.Unanswered.{Unanswered}
use Rattle.session_serve.specs.declared.answering.Unanswered.TheVariants.{Unread, Untold}
use Rattle.session_serve.specs.declared.answering.Unanswered.TheVariants.{Unwritten}
use Rattle.session_serve.specs.declared.serving.Served.{Served}
use Rattle.session_serve.specs.declared.serving.Served.TheVariants as served
use Rattle.session_serve.specs.Serves.{DoesMeaning, TakesLines}

-- the line's answer is written, whole or in part; or it wasn't read, and nothing has changed
abbrev pub AnsweredAs : {A : Type 0} → Result A Unanswered → Option (Option Command) → Program
    → Mode → Device → Option (List ℕ) → ℕ → Mode → Device → Option (List ℕ) → ℕ → Type 0
AnsweredAs (Ok _) meaning program m d w k m' d' w' k' =
    (text : List ℕ) × DoesMeaning meaning program m d k text m' d' k' × Appends w w' text
AnsweredAs (Err Unread) meaning program m d w k m' d' w' k' =
    (m' ≡ m) × (d' ≡ d) × (w' ≡ w) × (k' ≡ k)
AnsweredAs (Err Untold) meaning program m d w k m' d' w' k' =
    (text : List ℕ) × DoesMeaning meaning program m d k text m' d' k' × (w' ≡ w)
AnsweredAs (Err Unwritten) meaning program m d w k m' d' w' k' =
    (text : List ℕ) × DoesMeaning meaning program m d k text m' d' k' × AppendsPart w w' text

-- nothing has changed
abbrev pub StaysSo : Mode → Device → Option (List ℕ) → ℕ → Mode → Device → Option (List ℕ) → ℕ
    → Type 0
StaysSo m d w k m' d' w' k' = (m' ≡ m) × (d' ≡ d) × (w' ≡ w) × (k' ≡ k)

-- the next line is taken, and its answer is written in part
abbrev pub NextPart : (left left' : Option (List ℕ)) → Program → Mode → Device
    → Option (List ℕ) → ℕ → Mode → Device → Option (List ℕ) → ℕ → Type 0
NextPart left left' program m d w k m' d' w' k' =
    (line : List ℕ) × TakesLines left (line ∷ []) left'
    × (text : List ℕ) × DoesMeaning (line_meaning line) program m d k text m' d' k'
    × AppendsPart w w' text

-- The next line is taken, and answered before the next read; or serving ends. What is left counts
-- what was read and is in no line yet.
abbrev pub NextAs : Option Served → (left left' : Option (List ℕ)) → Program → Mode → Device
    → Option (List ℕ) → ℕ → Mode → Device → Option (List ℕ) → ℕ → Type 0
NextAs None left left' program m d w k m' d' w' k' =
    (line : List ℕ) × TakesLines left (line ∷ []) left'
    × (text : List ℕ) × DoesMeaning (line_meaning line) program m d k text m' d' k'
    × Appends w w' text
NextAs (Some served.Done) left left' program m d w k m' d' w' k' =
    IfSome left (λ text. lines text ≡ []) × StaysSo m d w k m' d' w' k'
NextAs (Some served.ReadFault) left left' program m d w k m' d' w' k' =
    Keeps left left' × StaysSo m d w k m' d' w' k'
NextAs (Some served.LongLine) left left' program m d w k m' d' w' k' =
    Keeps left left' × IfSome left (λ text. SCRIPT_BYTES < line_size text)
    × StaysSo m d w k m' d' w' k'
NextAs (Some served.NoMemory) left left' program m d w k m' d' w' k' =
    (Keeps left left' × StaysSo m d w k m' d' w' k')
    ⊎ (((line : List ℕ) × TakesLines left (line ∷ []) left' × StaysSo m d w k m' d' w' k')
    ⊎ NextPart left left' program m d w k m' d' w' k')
NextAs (Some served.WriteFault) left left' program m d w k m' d' w' k' =
    NextPart left left' program m d w k m' d' w' k'
NextAs (Some _) left left' program m d w k m' d' w' k' = ⊥
