-- Which calls only look, and that such a call changes nothing.
use Rattle.std.proofs.Common.{◌≡◌, ◌⊎◌, inl, inr, ℕ, zero, suc, ◌+◌, ◌*◌, ◌≤◌, ◌==◌, Bool, true}
use Rattle.std.proofs.Common.{false, if◌then◌else◌, List, [], ◌∷◌, length, Option, Some, None, ℤ}
use Rattle.std.proofs.Common.{refl, ap, subst, arith}
use Rattle.std.specs.Option.{option_map_or}
use Rattle.std.proofs.lemmas.Bool.{false≢true}
use Rattle.cache_model.specs.Cache.{Words}
use Rattle.cache_model.specs.Event.{CacheEvent}
use Rattle.pmem.specs.Device.{Device}
use Rattle.codegen.specs.Emit.{most_steps}
use Rattle.cnvm_script.specs.declared.command.Command.{Command}
use Rattle.cnvm_script.specs.declared.command.Command.TheVariants as command
use Rattle.cnvm_session.specs.declared.answer.Answer.{Answer}
use Rattle.cnvm_session.specs.declared.answer.Answer.TheVariants as answer
use Rattle.cnvm_session.specs.declared.program.Program.{Program}
use Rattle.cnvm_session.specs.Commands.{call_number}
use Rattle.cnvm_session.specs.Marks.{looks_of}
use Rattle.session_law.specs.State.{Pending}
use Rattle.session_law.specs.Ran.{found_by}
use Rattle.user_law.specs.Source.{Source, Logs, number_named, arity_of, looks}
use Rattle.user_law.specs.State.{UserStanding, Ready, Idle, Owed, Unusable, UserState, stands_as}
use Rattle.user_law.specs.Answers.{UserRunsAs, UserCallsWith, UserCallsTo, UserCallsNamed}
use Rattle.user_law.specs.Answers.{UserCalls}
use Rattle.user_law.specs.History.{subject_of}
use Rattle.user_law.specs.Played.{PlaysAs, only_looks}
use Rattle.user_law.specs.Ran.{UserMoment, UserStep}
use Rattle.user_law.specs.Seen.{source_in}
use Rattle.user_law.specs.Stays.{UserLookLaw}
use Rattle.user_law.proofs.Cases.{looks_by}
use Rattle.user_law.proofs.Moving.{stays_history}

-- the program's marks are the source's

pub looks_same : (program : Program) (logs : Logs) (tx : ℕ)
    → looks (source_in program logs) tx ≡ looks_of program tx
looks_same program logs zero = refl
looks_same program logs (suc i) = refl

-- the command calls a transaction of the program that only looks
abbrev pub calls_look : Program → Command → Bool
calls_look program (command.Call name args) =
    option_map_or (looks_of program) (call_number program name) false
calls_look program c = false

number_looks : (program : Program) (logs : Logs) (o : Option ℕ)
    → option_map_or (looks (source_in program logs)) o false
    ≡ option_map_or (looks_of program) o false
number_looks program logs None = refl
number_looks program logs (Some tx) = looks_same program logs tx

pub only_same : (program : Program) (logs : Logs) (c : Command)
    → only_looks (source_in program logs) c ≡ calls_look program c
only_same program logs (command.Call name args) =
    number_looks program logs (call_number program name)
only_same program logs (command.Stop left) = refl
only_same program logs (command.Fault at) = refl
only_same program logs (command.Power choice) = refl
only_same program logs command.Show = refl
only_same program logs command.ShowDead = refl
only_same program logs command.Last = refl

-- no event leaves the device
none_same : (a : Answer) (d b : Device) → PlaysAs a d [] b → b ≡ d
none_same answer.Silent d b is = is
none_same (answer.Done value unsigned logged) d b is = is
none_same (answer.Trap kind) d b is = is
none_same (answer.Aborted kind) d b is = is
none_same (answer.Stopped at) d b is = absurd is
none_same answer.DeviceFault d b is = absurd is
none_same answer.RecoveredNone d b is = is
none_same (answer.RecoveredRedone value unsigned logged) d b is = is
none_same (answer.RecoveredTrap kind) d b is = is
none_same (answer.RecoveredAborted kind) d b is = is
none_same (answer.Shown text) d b is = is
none_same (answer.ShownDead trap text) d b is = is
none_same (answer.Last n value) d b is = is
none_same answer.NoMemory d b (inl is) = is
none_same answer.NoMemory d b (inr is) = absurd is
none_same answer.RefusedDown d b is = is
none_same (answer.RefusedUnusable kind) d b is = is
none_same answer.RefusedUnknown d b is = is
none_same answer.RefusedArity d b is = is
none_same answer.RefusedNumbers d b is = is
none_same (answer.RefusedPick line) d b is = is

few_same : (a : Answer) (d b : Device) (es : List CacheEvent) → length es ≤ 0 → PlaysAs a d es b
    → b ≡ d
few_same a d b [] few is = none_same a d b is
few_same a d b (e ∷ es) few is = absurd (omega (arith, few))

module _ (p : Source) (s t : UserState) (image : Words) (a : Answer) where
  -- as before but for the standing
  abbrev Stands : Type 0
  Stands = (t ≡ s) ⊎ ((a ≡ answer.NoMemory) × (t ≡ stands_as Idle s))

  run_stands : (b : Bool) (call : Pending) → b ≡ true → UserRunsAs b p s image call a t → Stands
  run_stands true call only is = looks_by p s t image call a is
  run_stands false call only is = absurd (false≢true only)

  with_stands : (fits : Bool) (call : Pending) → looks p call.tx ≡ true
      → UserCallsWith fits p s image call a t → Stands
  with_stands true call only is = run_stands (looks p call.tx) call only is
  with_stands false call only is = inl is.1

  to_stands : (arity : Option ℕ) (call : Pending) → looks p call.tx ≡ true
      → UserCallsTo arity p s image call a t → Stands
  to_stands None call only is = inl is.1
  to_stands (Some count) call only is = with_stands (count == length call.args) call only is

  named_stands : (number : Option ℕ) (args : List ℤ)
      → option_map_or (looks p) number false ≡ true
      → UserCallsNamed number p s image args a t → Stands
  named_stands None args only is = inl is.1
  named_stands (Some tx) args only is =
      to_stands (arity_of p tx) (record { tx = tx; args = args }) only is

  calls_stand : (st : UserStanding) (name : List ℕ) (args : List ℤ)
      → only_looks p (command.Call name args) ≡ true
      → UserCalls st p s image name args a t → Stands
  calls_stand Ready name args only is = named_stands (number_named p name) args only is
  calls_stand Idle name args only is = inl is.1
  calls_stand (Owed call seal) name args only is = inl is.1
  calls_stand (Unusable kind) name args only is = inl is.1

history_same : (p : Source) (c : Command) (x y : UserMoment) (a : Answer) → UserStep p c x a y
    → Stands p x.state y.state (found_by c x.device) a → y.history ≡ x.history
history_same p c x y a step (inl same) =
    stays_history p x y (subject_of p x.state c) step.history
    (ap (λ (z : UserState). z.done) same, ap (λ (z : UserState). z.pool) same)
history_same p c x y a step (inr none) =
    stays_history p x y (subject_of p x.state c) step.history
    (ap (λ (z : UserState). z.done) none.1, ap (λ (z : UserState). z.pool) none.1)

pub look_law : UserLookLaw
look_law p (command.Call name args) x y a only step =
    let c : Command = command.Call name args in
    let few : length step.events ≤ 0 =
    subst (λ (b : Bool). length step.events ≤ (if b then 0
    else 10 * most_steps p.sizes p.tokens + 4 * p.sizes.records + 64)) only step.few in
    let device : y.device ≡ x.device =
    few_same a x.device y.device step.events few step.played in
    let stands : Stands p x.state y.state (found_by c x.device) a =
    calls_stand p x.state y.state (found_by c x.device) a x.state.standing name args only
    step.meant in
    record { device = device; history = history_same p c x y a step stands; state = stands }
look_law p (command.Stop left) x y a only step = absurd (false≢true only)
look_law p (command.Fault at) x y a only step = absurd (false≢true only)
look_law p (command.Power choice) x y a only step = absurd (false≢true only)
look_law p command.Show x y a only step = absurd (false≢true only)
look_law p command.ShowDead x y a only step = absurd (false≢true only)
look_law p command.Last x y a only step = absurd (false≢true only)
