-- Where no cut and no fault is armed, no command is cut off, and each call and each recovery comes
-- to an end, unless memory is wanting, a number is at its end, or a pick doesn't fit.
use Rattle.std.specs.Prelude.{ℤ, ℕ, ◌≡◌, true, List}
use Rattle.std.specs.List.{AllByRecursion}
use Rattle.cache_model.specs.declared.choice.Choice.{Choice}
use Rattle.pmem.specs.Device.{Device}
use Rattle.cnvm_script.specs.declared.command.Command.{Command}
use Rattle.cnvm_script.specs.declared.command.Command.TheVariants as command
use Rattle.cnvm_session.specs.declared.answer.Answer.{Answer}
use Rattle.cnvm_session.specs.declared.answer.Answer.TheVariants as answer
use Rattle.session_law.specs.Ends.{IsSafe, IsInterrupted, ArmsNothing}
use Rattle.user_law.specs.Source.{Source}
use Rattle.user_law.specs.State.{Ready, Unusable, UserState}
use Rattle.user_law.specs.Played.{prepared}
use Rattle.user_law.specs.Ran.{UserMoment, UserStep, UserRan}

-- the device is on, no stop is set, and it shows that no fault is armed
abbrev pub IsQuiet : Device → Type 0
IsQuiet d = (d.on ≡ true) × IsSafe d

-- No command is cut off on such a device, and it stays so.
abbrev pub UserUninterruptedLaw : Type 0
UserUninterruptedLaw =
    (p : Source) (c : Command) (x y : UserMoment) (a : Answer) →
    IsQuiet (prepared c a x.device) → UserStep p c x a y →
    (IsInterrupted a → ⊥) × IsQuiet y.device

-- So no command of a script that arms nothing is cut off.
abbrev pub QuietScriptLaw : Type 0
QuietScriptLaw =
    (p : Source) (commands : List Command) (answers : List Answer) (x y : UserMoment) →
    IsQuiet x.device → AllByRecursion ArmsNothing commands → UserRan p commands answers x y →
    AllByRecursion (λ a. IsInterrupted a → ⊥) answers × IsQuiet y.device

-- The call or the recovery came to an end: calls are taken again, or a trap has ended the pool.
-- Else a pick didn't fit, a number is at its end, or memory was wanting.
abbrev pub UserEndsAs : Answer → UserState → Type 0
UserEndsAs (answer.Done value unsigned logged) t = t.standing ≡ Ready
UserEndsAs (answer.Aborted kind) t = t.standing ≡ Ready
UserEndsAs (answer.Trap kind) t = t.standing ≡ Unusable kind
UserEndsAs answer.RefusedUnknown t = t.standing ≡ Ready
UserEndsAs answer.RefusedArity t = t.standing ≡ Ready
UserEndsAs answer.RecoveredNone t = t.standing ≡ Ready
UserEndsAs (answer.RecoveredRedone value unsigned logged) t = t.standing ≡ Ready
UserEndsAs (answer.RecoveredAborted kind) t = t.standing ≡ Ready
UserEndsAs (answer.RecoveredTrap kind) t = t.standing ≡ Unusable kind
UserEndsAs (answer.RefusedUnusable kind) t = t.standing ≡ Unusable kind
UserEndsAs (answer.RefusedPick line) t = Unit {0}
UserEndsAs answer.RefusedNumbers t = Unit {0}
UserEndsAs answer.NoMemory t = Unit {0}
UserEndsAs a t = ⊥

-- A call that is taken ends.
abbrev pub UserCallEndsLaw : Type 0
UserCallEndsLaw =
    (p : Source) (name : List ℕ) (args : List ℤ) (x y : UserMoment) (a : Answer) →
    IsQuiet x.device → x.state.standing ≡ Ready →
    UserStep p (command.Call name args) x a y → UserEndsAs a y.state

-- A recovery ends, whatever was owed and whatever the cut left.
abbrev pub UserRecoveryEndsLaw : Type 0
UserRecoveryEndsLaw =
    (p : Source) (choice : Choice) (x y : UserMoment) (a : Answer) →
    IsSafe x.device →
    UserStep p (command.Power choice) x a y → UserEndsAs a y.state
