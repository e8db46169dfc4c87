-- Which answers are unmet: traps that end the use of a pool, refusals, a device that failed and
-- want of memory. A call that is rolled back or cut is as the program or the script asks for.
use Rattle.std.specs.Prelude.{List, [], ◌∷◌, Bool, true, false, ◌||◌, ◌≡◌, ◌⊎◌}
use Rattle.cnvm_session.specs.declared.answer.Answer.{Answer}
use Rattle.cnvm_session.specs.declared.answer.Answer.TheVariants as answer
use Rattle.session_run.specs.declared.status.Status.{Status}
use Rattle.session_run.specs.declared.status.Status.TheVariants as status

abbrev pub is_refused : Answer → Bool
is_refused answer.Silent = false
is_refused (answer.Done value unsigned logged) = false
is_refused (answer.Trap kind) = true
is_refused (answer.Aborted kind) = false
is_refused (answer.Stopped phase) = false
is_refused answer.DeviceFault = true
is_refused answer.RecoveredNone = false
is_refused (answer.RecoveredRedone value unsigned logged) = false
is_refused (answer.RecoveredTrap kind) = true
is_refused (answer.RecoveredAborted kind) = false
is_refused (answer.Shown text) = false
is_refused (answer.ShownDead kind text) = false
is_refused (answer.Last done value) = false
is_refused answer.NoMemory = true
is_refused answer.RefusedDown = true
is_refused (answer.RefusedUnusable kind) = true
is_refused answer.RefusedUnknown = true
is_refused answer.RefusedArity = true
is_refused answer.RefusedNumbers = true
is_refused (answer.RefusedPick line) = true

-- one of the answers is such
abbrev pub any_refused : List Answer → Bool
any_refused [] = false
any_refused (a ∷ answers) = is_refused a || any_refused answers

-- the status of commands that are all answered
abbrev pub answered_status : (unmet : Bool) → Status
answered_status false = status.Done
answered_status true = status.Unmet

-- all commands are answered
abbrev pub IsAnswered : Status → Type 0
IsAnswered s = (s ≡ status.Done) ⊎ (s ≡ status.Unmet)

-- The status of a run that ended with this one: without strictness unmet answers are as good as
-- others.
abbrev pub strict_status : (strict : Bool) → Status → Status
strict_status true ran = ran
strict_status false status.Unmet = status.Done
strict_status false ran = ran
