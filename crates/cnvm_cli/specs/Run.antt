-- What is written of a refusal.
use Rattle.std.specs.Prelude.{ℕ, List, Option, ◌≡◌, Bool, true, false}
use Rattle.std.specs.Io.KnownBytes.{Keeps}
use Rattle.session_run.specs.declared.status.Status.{Status}
use Rattle.session_run.specs.Told.{TellsAs}
use Rattle.cnvm_cli.specs.declared.refused.Refused.{Refused}
use Rattle.cnvm_cli.specs.RefusalText.{refusal_line, refusal_status, has_line}

-- Nothing is written for a refusal that has no line.
abbrev pub ToldAs : Bool → Refused → Status → Option (List ℕ) → Option (List ℕ) → Type 0
ToldAs true why result w w' = TellsAs (refusal_status why) (refusal_line why) result w w'
ToldAs false why result w w' = (result ≡ refusal_status why) × Keeps w w'

abbrev pub RefusedAs : Refused → Status → Option (List ℕ) → Option (List ℕ) → Type 0
RefusedAs why result w w' = ToldAs (has_line why) why result w w'
