-- What each status says where nothing was refused. `Done` and `Unmet`: all holds, and says whether
-- something is unmet. A sink that failed leaves a part. The device fails only while the pool is
-- made. Want of memory comes then, or leaves what `starved` says. No other status comes.
use Rattle.std.specs.Prelude.{Bool, true, false}
use Rattle.std.specs.Prelude.{◌⊎◌}
use Rattle.cnvm_session.specs.declared.creating.StartFault.{StartFault}
use Rattle.cnvm_session.specs.declared.creating.StartFault.TheVariants as start
use Rattle.session_run.specs.declared.status.Status.{Status}
use Rattle.session_run.specs.declared.status.Status.TheVariants as status

-- nothing can be unmet of this
abbrev pub met : Type 0 → (unmet : Bool) → Type 0
met all false = all
met all true = ⊥

abbrev pub AsStatus : (unmade : StartFault → Type 0) → (starved : Type 0)
    → (all : (unmet : Bool) → Type 0) → (part : Type 0) → Status → Type 0
AsStatus unmade starved all part status.Done = all false
AsStatus unmade starved all part status.Unmet = all true
AsStatus unmade starved all part status.WriteFault = part
AsStatus unmade starved all part status.NoMemory = unmade start.NoMemory ⊎ starved
AsStatus unmade starved all part status.DeviceFault = unmade start.Failed
AsStatus unmade starved all part _ = ⊥
