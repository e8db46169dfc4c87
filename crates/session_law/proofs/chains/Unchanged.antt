-- A refused command changes nothing.
use Rattle.std.proofs.Common.{◌≡◌, ℕ, ◌==◌, Bool, true, false, List, [], ◌++◌, length, Option, Some}
use Rattle.std.proofs.Common.{None, ℤ, refl, ap, ◌∙◌, append-nil, subst, ⊎_elim}
use Rattle.cache_model.specs.Cache.{Words}
use Rattle.cnvm_script.specs.declared.command.Command.{Command}
use Rattle.cnvm_script.specs.declared.command.Command.TheVariants as command
use Rattle.cnvm_session.specs.declared.answer.Answer.{Answer}
use Rattle.cnvm_session.specs.declared.answer.Answer.TheVariants as answer
use Rattle.cnvm_session.specs.declared.program.Program.{Program}
use Rattle.cnvm_session.specs.Commands.{call_number}
use Rattle.cnvm_session.specs.Marks.{rolls_back_of, looks_of}
use Rattle.cnvm_session.specs.Laws.{IsRefusal, IsBadPick, IsRefused}
use Rattle.cnvm_session.proofs.Refusing.{command_kept}
use Rattle.session_law.specs.Source.{source_parameters}
use Rattle.session_law.specs.State.{Pending, Standing, Ready, Down, Unusable, SourceState}
use Rattle.session_law.specs.Answers.{RunsBy, RunsAs, CallsWith, CallsTo, CallsNamed, Calls}
use Rattle.session_law.specs.Answers.{Tells, Shows, ShowsDead, Lasts, Powers, Answers}
use Rattle.session_law.specs.History.{call_to, counted, called_by, recovered_by, done_by}
use Rattle.session_law.specs.Ran.{found_by}
use Rattle.session_law.specs.Law.{UnchangedLaw}
use Rattle.session_law.proofs.answers.Looking.{looked_state}

none_called : (call : List Pending) (a : Answer) → IsRefusal a → called_by call a ≡ []
none_called call answer.Silent is = absurd is
none_called call (answer.Done value unsigned logged) is = absurd is
none_called call (answer.Trap kind) is = absurd is
none_called call (answer.Aborted kind) is = absurd is
none_called call (answer.Stopped p) is = absurd is
none_called call answer.DeviceFault is = absurd is
none_called call answer.RecoveredNone is = absurd is
none_called call (answer.RecoveredRedone value unsigned logged) is = absurd is
none_called call (answer.RecoveredTrap kind) is = absurd is
none_called call (answer.RecoveredAborted kind) is = absurd is
none_called call (answer.Shown text) is = absurd is
none_called call (answer.ShownDead trap text) is = absurd is
none_called call (answer.Last n value) is = absurd is
none_called call answer.NoMemory is = absurd is
none_called call answer.RefusedDown is = refl
none_called call (answer.RefusedUnusable kind) is = refl
none_called call answer.RefusedUnknown is = refl
none_called call answer.RefusedArity is = refl
none_called call answer.RefusedNumbers is = refl
none_called call (answer.RefusedPick line) is = absurd is

module _ (program : Program) (s t : SourceState) (image : Words) where
  by_same : (tx : ℕ) (args : List ℤ) (marked : Bool) (a : Answer) → IsRefusal a →
      RunsBy marked program s image tx args a t → t ≡ s
  by_same tx args marked answer.Silent refused is = absurd refused
  by_same tx args marked (answer.Done value unsigned logged) refused is = absurd refused
  by_same tx args marked (answer.Trap kind) refused is = absurd refused
  by_same tx args marked (answer.Aborted kind) refused is = absurd refused
  by_same tx args marked (answer.Stopped p) refused is = absurd refused
  by_same tx args marked answer.DeviceFault refused is = absurd refused
  by_same tx args marked answer.RecoveredNone refused is = absurd refused
  by_same tx args marked (answer.RecoveredRedone value unsigned logged) refused is = absurd refused
  by_same tx args marked (answer.RecoveredTrap kind) refused is = absurd refused
  by_same tx args marked (answer.RecoveredAborted kind) refused is = absurd refused
  by_same tx args marked (answer.Shown text) refused is = absurd refused
  by_same tx args marked (answer.ShownDead trap text) refused is = absurd refused
  by_same tx args marked (answer.Last n value) refused is = absurd refused
  by_same tx args marked answer.NoMemory refused is = absurd refused
  by_same tx args marked answer.RefusedDown refused is = absurd is
  by_same tx args marked (answer.RefusedUnusable kind) refused is = absurd is
  by_same tx args marked answer.RefusedUnknown refused is = absurd is
  by_same tx args marked answer.RefusedArity refused is = absurd is
  by_same tx args marked answer.RefusedNumbers refused is = is.1
  by_same tx args marked (answer.RefusedPick line) refused is = absurd refused

  runs_same : (tx : ℕ) (args : List ℤ) (looks marked : Bool) (a : Answer) → IsRefusal a →
      RunsAs looks marked program s image tx args a t → t ≡ s
  runs_same tx args true marked a refused is =
      ⊎_elim (λ same. same) (λ down. absurd (subst IsRefusal down.0 refused))
      (looked_state program s t tx args a is)
  runs_same tx args false marked a refused is = by_same tx args marked a refused is

  with_same : (tx : ℕ) (args : List ℤ) (same : Bool) (a : Answer) → IsRefusal a →
      CallsWith same program s image tx args a t → t ≡ s
  with_same tx args true a refused is =
      runs_same tx args (looks_of program tx) (rolls_back_of program tx) a refused is
  with_same tx args false a refused is = is.1

  to_same : (tx : ℕ) (args : List ℤ) (count : Option ℕ) (a : Answer) → IsRefusal a →
      CallsTo count program s image tx args a t → t ≡ s
  to_same tx args None a refused is = is.1
  to_same tx args (Some count) a refused is = with_same tx args (count == length args) a refused is

  named_same : (args : List ℤ) (number : Option ℕ) (a : Answer) → IsRefusal a →
      CallsNamed number program s image args a t → t ≡ s
  named_same args None a refused is = is.1
  named_same args (Some tx) a refused is =
      to_same tx args (source_parameters program tx) a refused is

  calls_same : (name : List ℕ) (args : List ℤ) (st : Standing) (a : Answer) → IsRefusal a →
      Calls st program s image name args a t → t ≡ s
  calls_same name args Ready a refused is = named_same args (call_number program name) a refused is
  calls_same name args (Down owed) a refused is = is.1
  calls_same name args (Unusable kind) a refused is = is.1

  tells_same : (a : Answer) → IsRefusal a → Tells program s a t → t ≡ s
  tells_same answer.Silent refused is = absurd refused
  tells_same (answer.Done value unsigned logged) refused is = absurd refused
  tells_same (answer.Trap kind) refused is = absurd refused
  tells_same (answer.Aborted kind) refused is = absurd refused
  tells_same (answer.Stopped p) refused is = absurd refused
  tells_same answer.DeviceFault refused is = absurd refused
  tells_same answer.RecoveredNone refused is = absurd refused
  tells_same (answer.RecoveredRedone value unsigned logged) refused is = absurd refused
  tells_same (answer.RecoveredTrap kind) refused is = absurd refused
  tells_same (answer.RecoveredAborted kind) refused is = absurd refused
  tells_same (answer.Shown text) refused is = absurd refused
  tells_same (answer.ShownDead trap text) refused is = absurd refused
  tells_same (answer.Last n value) refused is = absurd refused
  tells_same answer.NoMemory refused is = absurd refused
  tells_same answer.RefusedDown refused is = absurd is
  tells_same (answer.RefusedUnusable kind) refused is = absurd is
  tells_same answer.RefusedUnknown refused is = absurd is
  tells_same answer.RefusedArity refused is = absurd is
  tells_same answer.RefusedNumbers refused is = absurd is
  tells_same (answer.RefusedPick line) refused is = absurd refused

  shows_same : (st : Standing) (a : Answer) → IsRefusal a → Shows st program s a t → t ≡ s
  shows_same Ready a refused is = tells_same a refused is
  shows_same (Down owed) a refused is = is.1
  shows_same (Unusable kind) a refused is = is.1

  deads_same : (st : Standing) (a : Answer) → IsRefusal a → ShowsDead st program s image a t
      → t ≡ s
  deads_same Ready a refused is = shows_same Ready a refused is
  deads_same (Down owed) a refused is = shows_same (Down owed) a refused is
  deads_same (Unusable kind) a refused is = is.1

  lasts_same : (st : Standing) (a : Answer) → Lasts st s a t → t ≡ s
  lasts_same Ready a is = is.1
  lasts_same (Down owed) a is = is.1
  lasts_same (Unusable kind) a is = is.1

  picks_same : (a : Answer) → IsBadPick a → Powers program s image a t →
      (t ≡ s) × (recovered_by s image a ≡ [])
  picks_same answer.Silent refused is = absurd refused
  picks_same (answer.Done value unsigned logged) refused is = absurd refused
  picks_same (answer.Trap kind) refused is = absurd refused
  picks_same (answer.Aborted kind) refused is = absurd refused
  picks_same (answer.Stopped p) refused is = absurd refused
  picks_same answer.DeviceFault refused is = absurd refused
  picks_same answer.RecoveredNone refused is = absurd refused
  picks_same (answer.RecoveredRedone value unsigned logged) refused is = absurd refused
  picks_same (answer.RecoveredTrap kind) refused is = absurd refused
  picks_same (answer.RecoveredAborted kind) refused is = absurd refused
  picks_same (answer.Shown text) refused is = absurd refused
  picks_same (answer.ShownDead trap text) refused is = absurd refused
  picks_same (answer.Last n value) refused is = absurd refused
  picks_same answer.NoMemory refused is = absurd refused
  picks_same answer.RefusedDown refused is = absurd refused
  picks_same (answer.RefusedUnusable kind) refused is = absurd refused
  picks_same answer.RefusedUnknown refused is = absurd refused
  picks_same answer.RefusedArity refused is = absurd refused
  picks_same answer.RefusedNumbers refused is = absurd refused
  picks_same (answer.RefusedPick line) refused is = (is, refl)

  answers_same : (c : Command) (a : Answer) → IsRefused c a → Answers program s image c a t →
      (t ≡ s) × (done_by program s image c a ≡ [])
  answers_same (command.Call name args) a refused is = (
    calls_same name args s.standing a refused is,
    none_called (call_to (counted program (call_number program name)) args) a refused,
  )
  answers_same (command.Stop left) a refused is = (is.1, refl)
  answers_same (command.Fault at) a refused is = (is.1, refl)
  answers_same (command.Power choice) a refused is = picks_same a refused is
  answers_same command.Show a refused is = (shows_same s.standing a refused is, refl)
  answers_same command.ShowDead a refused is = (deads_same s.standing a refused is, refl)
  answers_same command.Last a refused is = (lasts_same s.standing a is, refl)

pub step_unchanged : UnchangedLaw
step_unchanged program super c x a y refused step =
    let same = answers_same program x.state y.state (found_by c x.device) c a refused
    step.meant in
    let kept = command_kept program c x.mode y.mode x.device y.device a x.steps y.steps refused
    step.did in (
      kept.0,
      same.0,
      step.history ∙ ap (λ (ds : List Pending). x.history ++ ds) same.1 ∙ append-nil x.history,
      kept.2,
    )
