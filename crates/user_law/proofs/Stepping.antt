-- Each step of the machine's session is one of the user's, and so is each session.
use Rattle.std.proofs.Common.{◌≡◌, ◌⊎◌, inl, inr, ℕ, suc, ◌+◌, ◌==◌, ◌≤◌, Bool, true}
use Rattle.std.proofs.Common.{false, if◌then◌else◌, List, [], ◌∷◌, ◌++◌, length, Option, Some, None}
use Rattle.std.proofs.Common.{ℤ, refl, sym, ap, ◌∙◌, subst, arith}
use Rattle.nvm_base.proofs.Tests.{same_true}
use Rattle.cache_model.specs.Cache.{Words}
use Rattle.pmem.specs.Device.{Device}
use Rattle.cnvm_script.specs.declared.command.Command.{Command}
use Rattle.cnvm_script.specs.declared.command.Command.TheVariants as command
use Rattle.cnvm_session.specs.declared.answer.Answer.{Answer}
use Rattle.cnvm_session.specs.declared.answer.Answer.TheVariants as answer
use Rattle.cnvm_session.specs.declared.program.Program.{Program}
use Rattle.cnvm_session.specs.Commands.{call_number}
use Rattle.cnvm_session.specs.Marks.{looks_of}
use Rattle.session_law.specs.Agrees.{Agrees}
use Rattle.session_law.specs.State.{Pending, SourceState}
use Rattle.session_law.specs.Answers as machine
use Rattle.session_law.specs.Holds.{Holds}
use Rattle.session_law.specs.History.{call_to, counted, called_by, waiting_of, is_retired}
use Rattle.session_law.specs.History.{recovered_by}
use Rattle.session_law.specs.History.{done_by}
use Rattle.session_law.specs.Law.{IsWordCommand}
use Rattle.session_law.specs.Ran.{found_by, Moment, SessionStep}
use Rattle.session_law.proofs.chains.Histories.{answer_done}
use Rattle.user_law.specs.Source.{Source, Logs}
use Rattle.user_law.specs.State.{UserStanding, Ready, Idle, Owed, Unusable, UserState}
use Rattle.user_law.specs.History.{owed_in, subject_of, finished_by}
use Rattle.user_law.specs.Keeps.{UserKeeps}
use Rattle.user_law.specs.Ran.{UserMoment, UserStep}
use Rattle.user_law.specs.Seen.{source_in, plain, plain_standing, HasCounts, IsSeenAs, StepLaw}
use Rattle.user_law.specs.Seen.{RanLaw}
use Rattle.user_law.proofs.Keeping.{keeps_law}
use Rattle.user_law.proofs.Meaning.{meant_law}
use Rattle.user_law.proofs.Moving.{not_next}
use Rattle.user_law.proofs.Owing.{step_phased}
use Rattle.user_law.proofs.Picking.{pick_told}
use Rattle.user_law.proofs.Playing.{played_law}

-- the list is empty, or this one
abbrev NoneOrAll : List Pending → List Pending → Type 0
NoneOrAll call done = (done ≡ []) ⊎ (done ≡ call)

called_all : (call : List Pending) (a : Answer) → NoneOrAll call (called_by call a)
called_all call answer.Silent = inl refl
called_all call (answer.Done value unsigned logged) = inr refl
called_all call (answer.Trap kind) = inl refl
called_all call (answer.Aborted kind) = inr refl
called_all call (answer.Stopped at) = inl refl
called_all call answer.DeviceFault = inl refl
called_all call answer.RecoveredNone = inl refl
called_all call (answer.RecoveredRedone value unsigned logged) = inl refl
called_all call (answer.RecoveredTrap kind) = inl refl
called_all call (answer.RecoveredAborted kind) = inl refl
called_all call (answer.Shown text) = inl refl
called_all call (answer.ShownDead trap text) = inl refl
called_all call (answer.Last n value) = inl refl
called_all call answer.NoMemory = inl refl
called_all call answer.RefusedDown = inl refl
called_all call (answer.RefusedUnusable kind) = inl refl
called_all call answer.RefusedUnknown = inl refl
called_all call answer.RefusedArity = inl refl
called_all call answer.RefusedNumbers = inl refl
called_all call (answer.RefusedPick line) = inl refl

-- a call that isn't counted gives none
counted_all : (program : Program) (number : Option ℕ) (args : List ℤ) (a : Answer)
    → NoneOrAll (call_to number args) (called_by (call_to (counted program number) args) a)
counted_all program None args a = called_all [] a
counted_all program (Some tx) args a = by_mark (looks_of program tx)
  where
    none : NoneOrAll [] (called_by [] a) → called_by [] a ≡ []
    none (inl is) = is
    none (inr is) = is

    by_mark : (looks : Bool) → NoneOrAll (call_to (Some tx) args)
        (called_by (call_to (if looks then None else Some tx) args) a)
    by_mark true = inl (none (called_all [] a))
    by_mark false = called_all (call_to (Some tx) args) a

module _ (s : SourceState) (image : Words) where
  abbrev waiting : List Pending
  waiting = waiting_of s.standing

  retired_all : (b : Bool) → NoneOrAll waiting (if b then waiting else [])
  retired_all true = inr refl
  retired_all false = inl refl

  recovered_all : (a : Answer) → NoneOrAll waiting (recovered_by s image a)
  recovered_all answer.Silent = retired_all (is_retired s image)
  recovered_all (answer.Done value unsigned logged) = retired_all (is_retired s image)
  recovered_all (answer.Trap kind) = retired_all (is_retired s image)
  recovered_all (answer.Aborted kind) = retired_all (is_retired s image)
  recovered_all (answer.Stopped at) = retired_all (is_retired s image)
  recovered_all answer.DeviceFault = retired_all (is_retired s image)
  recovered_all answer.RecoveredNone = retired_all (is_retired s image)
  recovered_all (answer.RecoveredRedone value unsigned logged) = inr refl
  recovered_all (answer.RecoveredTrap kind) = retired_all (is_retired s image)
  recovered_all (answer.RecoveredAborted kind) = inr refl
  recovered_all (answer.Shown text) = retired_all (is_retired s image)
  recovered_all (answer.ShownDead trap text) = retired_all (is_retired s image)
  recovered_all (answer.Last n value) = retired_all (is_retired s image)
  recovered_all answer.NoMemory = retired_all (is_retired s image)
  recovered_all answer.RefusedDown = retired_all (is_retired s image)
  recovered_all (answer.RefusedUnusable kind) = inl refl
  recovered_all answer.RefusedUnknown = retired_all (is_retired s image)
  recovered_all answer.RefusedArity = retired_all (is_retired s image)
  recovered_all answer.RefusedNumbers = retired_all (is_retired s image)
  recovered_all (answer.RefusedPick line) = inl refl

waiting_is : (st : UserStanding) → waiting_of (plain_standing st) ≡ owed_in st
waiting_is Ready = refl
waiting_is Idle = refl
waiting_is (Owed call seal) = refl
waiting_is (Unusable kind) = refl

owed_few : (st : UserStanding) → length (owed_in st) ≤ 1
owed_few Ready = omega arith
owed_few Idle = omega arith
owed_few (Owed call seal) = omega arith
owed_few (Unusable kind) = omega arith

call_few : (number : Option ℕ) (args : List ℤ) → length (call_to number args) ≤ 1
call_few None args = omega arith
call_few (Some tx) args = omega arith

-- where the count says how many are finished, nothing or all of a list of at most one
module _ (before after : ℕ) where
  none_finished : (subject : List Pending) → after ≡ before + 0 →
      [] ≡ finished_by (after == before) subject
  none_finished subject is =
      let same : after ≡ before = omega (arith, is) in
      ap (λ (b : Bool). finished_by b subject)
      (sym (ap (λ (n : ℕ). n == before) same ∙ same_true before))

  any_empty : (b : Bool) → [] ≡ finished_by b []
  any_empty true = refl
  any_empty false = refl

  all_finished : (subject : List Pending) → length subject ≤ 1 →
      after ≡ before + length subject → subject ≡ finished_by (after == before) subject
  all_finished [] few is = any_empty (after == before)
  all_finished (call ∷ []) few is =
      let more : after ≡ suc before = omega (arith, is) in
      ap (λ (b : Bool). finished_by b (call ∷ []))
      (sym (ap (λ (n : ℕ). n == before) more ∙ not_next before))
  all_finished (call ∷ other ∷ calls) few is = absurd (omega (arith, few))

  finished_is : (done subject : List Pending) → length subject ≤ 1 → NoneOrAll subject done →
      after ≡ before + length done → done ≡ finished_by (after == before) subject
  finished_is done subject few (inl none) is =
      none ∙ none_finished subject (is ∙ ap (λ (xs : List Pending). before + length xs) none)
  finished_is done subject few (inr all) is =
      all ∙ all_finished subject few (is ∙ ap (λ (xs : List Pending). before + length xs) all)

module _ (program : Program) (logs : Logs) (s v : UserState) (image : Words) (a : Answer) where
  abbrev p : Source
  p = source_in program logs

  subject_few : (c : Command) → length (subject_of p s c) ≤ 1
  subject_few (command.Call name args) = call_few (call_number program name) args
  subject_few (command.Stop left) = omega arith
  subject_few (command.Fault at) = omega arith
  subject_few (command.Power choice) = owed_few s.standing
  subject_few command.Show = omega arith
  subject_few command.ShowDead = omega arith
  subject_few command.Last = omega arith

  done_all : (c : Command) → NoneOrAll (subject_of p s c) (done_by program (plain s) image c a)
  done_all (command.Call name args) = counted_all program (call_number program name) args a
  done_all (command.Stop left) = inl refl
  done_all (command.Fault at) = inl refl
  done_all (command.Power choice) =
      subst (λ (xs : List Pending). NoneOrAll xs (recovered_by (plain s) image a))
      (waiting_is s.standing) (recovered_all (plain s) image a)
  done_all command.Show = inl refl
  done_all command.ShowDead = inl refl
  done_all command.Last = inl refl

  pub history_is : (c : Command) → machine.Answers program (plain s) image c a (plain v) →
      done_by program (plain s) image c a ≡ finished_by (v.done == s.done) (subject_of p s c)
  history_is c is =
      finished_is s.done v.done (done_by program (plain s) image c a) (subject_of p s c)
      (subject_few c) (done_all c) (answer_done program (plain s) (plain v) image c a is).count

-- a step from a moment that the user sees
module _ (program : Program) (super : Words) (logs : Logs) (agrees : Agrees program)
    (count : HasCounts program logs) (c : Command) (words : IsWordCommand c) (x y : Moment)
    (a : Answer) (s : UserState) (holds : Holds program super x.mode x.device (plain s))
    (keeps : UserKeeps (source_in program logs) x.device s)
    (step : SessionStep program super c x a y) (state : x.state ≡ plain s) where
  abbrev image : Words
  image = found_by c x.device

  abbrev from : UserMoment
  from = record { device = x.device; state = s; history = x.history }

  abbrev Next : Type 0
  Next = (w : UserMoment) × IsSeenAs y w × UserStep (source_in program logs) c from a w

  answered : machine.Answers program (plain s) image c a y.state
  answered =
      subst (λ (z : SourceState). machine.Answers program z image c a y.state) state step.meant

  pub seen_step : Next
  seen_step =
      let meant = meant_law program logs s y.state image c a count answered in
      let v : UserState = meant.0 in
      let after : Holds program super y.mode y.device (plain v) =
      subst (λ (z : SourceState). Holds program super y.mode y.device z) meant.1 step.holds in
      let played = played_law program logs super c x.mode y.mode x.device y.device (plain s) a
      x.steps y.steps count holds step.did in (
        record { device = y.device; state = v; history = y.history },
        record { device = refl; state = meant.1; history = refl },
        record {
          events = played.0;
          few = played.1;
          played = played.2;
          picks = pick_told program c x.mode y.mode x.device y.device a x.steps y.steps step.did;
          meant = meant.2;
          kept = keeps_law program logs super y.mode y.device v after
              (step_phased program super logs agrees x.mode y.mode x.device y.device s x.steps
              y.steps holds keeps v a after c words step.did meant.2);
          history = step.history
              ∙ ap (λ (z : SourceState). x.history ++ done_by program z image c a) state
              ∙ ap (λ (done : List Pending). x.history ++ done)
              (history_is program logs s v image a c
              (subst (machine.Answers program (plain s) image c a) meant.1 answered));
        },
      )

pub step_law : StepLaw
step_law program super logs c a x y u agrees count words holds seen keeps step =
    let s : UserState = u.state in
    let from : UserMoment = record { device = x.device; state = s; history = x.history } in
    let same : from ≡ u =
    λ i. record { device = sym seen.device i; state = s; history = sym seen.history i } in
    subst (λ (w : UserMoment). (v : UserMoment) × IsSeenAs y v
    × UserStep (source_in program logs) c w a v) same
    (seen_step program super logs agrees count c words x y a s
    (subst (λ (z : SourceState). Holds program super x.mode x.device z) seen.state holds)
    (subst (λ (d : Device). UserKeeps (source_in program logs) d s) seen.device keeps) step
    seen.state)

pub ran_law : RanLaw
ran_law program super logs [] [] x y u agrees count words holds seen keeps same =
    (u, subst (λ (z : Moment). IsSeenAs z u) (sym same) seen, refl)
ran_law program super logs [] (a ∷ answers) x y u agrees count words holds seen keeps ran =
    absurd ran
ran_law program super logs (c ∷ commands) [] x y u agrees count words holds seen keeps ran =
    absurd ran
ran_law program super logs (c ∷ commands) (a ∷ answers) x y u agrees count words holds seen keeps
    ran =
    let one = step_law program super logs c a x ran.0 u agrees count words.0 holds seen keeps
    ran.1 in
    let rest = ran_law program super logs commands answers ran.0 y one.0 agrees count words.1
    ran.1.holds one.1 one.2.kept ran.2 in
    (rest.0, rest.1, (one.0, one.2, rest.2))
