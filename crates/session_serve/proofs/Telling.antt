-- A command is done, and its answer is written, whole or in part.
use Rattle.std.proofs.Common.{◌≡◌, ℕ, ◌++◌, List, Option, Some, Result, Ok, Err, refl}
use Rattle.std.specs.Prelude.{OnOk, OnErr, IsErrOf, codes}
use Rattle.std.specs.Io.KnownBytes.{Appends}
use Rattle.nvm_base.specs.Parts.{AppendsPart}
use Rattle.pmem.specs.Device.{Device}
use Rattle.cnvm_script.specs.declared.command.Command.{Command}
use Rattle.cnvm_session.specs.declared.answer.Answer.{Answer}
use Rattle.cnvm_session.specs.declared.mode.Mode.{Mode}
use Rattle.cnvm_session.specs.declared.program.Program.{Program}
use Rattle.cnvm_session.specs.Commands.{Commanded}
use Rattle.session_serve.specs.Begins.{ended_text}
use Rattle.session_serve.specs.declared.answering.Unanswered.{Unanswered}
use Rattle.session_serve.specs.declared.answering.Unanswered.TheVariants.{Unread, Untold}
use Rattle.session_serve.specs.declared.answering.Unanswered.TheVariants.{Unwritten}
use Rattle.session_serve.specs.inside.Next.{AnsweredAs}

pub told_as : {A : Type 0} (r : Result A Unanswered) (program : Program) (command : Command)
    (answer : Answer) (m m' : Mode) (d d' : Device) (w w' : Option (List ℕ)) (k k' : ℕ)
    → Commanded program command m d answer m' d' k k'
    → OnOk r (Appends w w' (ended_text answer)) → OnErr r (AppendsPart w w' (ended_text answer))
    → (IsErrOf r Untold → w' ≡ w) → (IsErrOf r Unread → ⊥)
    → AnsweredAs r (Some (Some command)) program m d w k m' d' w' k'
told_as (Ok a) program command answer m m' d d' w w' k k' does whole part untold read =
    (ended_text answer, (answer, does, refl), whole)
told_as (Err Unread) program command answer m m' d d' w w' k k' does whole part untold read =
    absurd (read refl)
told_as (Err Untold) program command answer m m' d d' w w' k k' does whole part untold read =
    (ended_text answer, (answer, does, refl), untold refl)
told_as (Err Unwritten) program command answer m m' d d' w w' k k' does whole part untold read =
    (ended_text answer, (answer, does, refl), part)
