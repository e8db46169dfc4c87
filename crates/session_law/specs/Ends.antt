-- Where neither the power nor the device fails, a command comes to its end.
use Rattle.std.specs.Prelude.{◌≡◌, None, Some}
use Rattle.cache_model.specs.Cache.{Words}
use Rattle.cache_model.specs.declared.choice.Choice.{Choice}
use Rattle.pmem.specs.Device.{Device}
use Rattle.cnvm_script.specs.declared.command.Command.{Command}
use Rattle.cnvm_script.specs.declared.command.Command.TheVariants as command
use Rattle.cnvm_session.specs.declared.answer.Answer.{Answer}
use Rattle.cnvm_session.specs.declared.answer.Answer.TheVariants as answer
use Rattle.cnvm_session.specs.declared.program.Program.{Program}
use Rattle.session_law.specs.Holds.{Holds}
use Rattle.session_law.specs.Ran.{Moment, SessionStep}

-- No stop is set, and the device shows that no fault is armed.
abbrev pub IsSafe : Device → Type 0
IsSafe d = (d.left ≡ None) × (d.armed ≡ Some None)

-- the power went off, or the device failed
abbrev pub IsInterrupted : Answer → Type 0
IsInterrupted (answer.Stopped at) = Unit {0}
IsInterrupted answer.DeviceFault = Unit {0}
IsInterrupted a = ⊥

-- the command sets neither a stop nor a fault
abbrev pub ArmsNothing : Command → Type 0
ArmsNothing (command.Stop left) = ⊥
ArmsNothing (command.Fault at) = ⊥
ArmsNothing c = Unit {0}

-- No command is interrupted where nothing is armed; and nothing is armed afterwards, unless the
-- command does it.
abbrev pub UninterruptedLaw : Type 0
UninterruptedLaw =
    (program : Program) (super : Words) (c : Command) (x : Moment) (a : Answer) (y : Moment) →
    Holds program super x.mode x.device x.state → IsSafe x.device →
    SessionStep program super c x a y →
    (IsInterrupted a → ⊥) × (ArmsNothing c → IsSafe y.device)

-- A recovery came to its end, or was refused for what the pool or the choice says, or there was no
-- memory for it.
abbrev pub IsRecoveryEnd : Answer → Type 0
IsRecoveryEnd answer.RecoveredNone = Unit {0}
IsRecoveryEnd (answer.RecoveredRedone value unsigned logged) = Unit {0}
IsRecoveryEnd (answer.RecoveredTrap kind) = Unit {0}
IsRecoveryEnd (answer.RecoveredAborted kind) = Unit {0}
IsRecoveryEnd (answer.RefusedUnusable kind) = Unit {0}
IsRecoveryEnd answer.RefusedNumbers = Unit {0}
IsRecoveryEnd (answer.RefusedPick line) = Unit {0}
IsRecoveryEnd answer.NoMemory = Unit {0}
IsRecoveryEnd a = ⊥

-- Where nothing is armed each recovery after a power cut comes to such an end.
abbrev pub RecoveryEndsLaw : Type 0
RecoveryEndsLaw =
    (program : Program) (super : Words) (choice : Choice) (x : Moment) (a : Answer) (y : Moment) →
    IsSafe x.device → SessionStep program super (command.Power choice) x a y → IsRecoveryEnd a

abbrev pub EndsLaw : Type 0
EndsLaw = UninterruptedLaw × RecoveryEndsLaw
