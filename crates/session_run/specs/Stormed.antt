-- The counts of a storm, and the line that tells them.
use Rattle.std.specs.Prelude.{ℕ, List, [], ◌++◌, codes, Bool, true, false, not, ◌&&◌, ◌==◌, pos}
use Rattle.std.specs.Prelude.{if◌then◌else◌}
use Rattle.std.specs.Ordering.{int_eq}
use Rattle.std.specs.Str.{bytes_eq}
use Rattle.std.specs.Fmt.{decimal}
use Rattle.nvm_base.specs.Rose.{raised}
use Rattle.cnvm_script.specs.declared.command.Command.{Command}
use Rattle.cnvm_script.specs.declared.command.Command.TheVariants as command
use Rattle.cnvm_session.specs.declared.answer.Answer.{Answer}
use Rattle.cnvm_session.specs.declared.answer.Answer.TheVariants as answer
use Rattle.session_run.specs.declared.storm.Tally.{Tally}

abbrev pub with_call : Tally → Tally
with_call t = record t { calls = raised t.calls }

abbrev pub with_done : Tally → Tally
with_done t = record t { done = raised t.done }

abbrev pub with_stopped : Tally → Tally
with_stopped t = record t { stopped = raised t.stopped }

abbrev pub with_redone : Tally → Tally
with_redone t = record t { redone = raised t.redone }

abbrev pub with_none : Tally → Tally
with_none t = record t { none = raised t.none }

abbrev pub with_trapped : Tally → Tally
with_trapped t = record t { trapped = raised t.trapped }

abbrev pub with_other : Tally → Tally
with_other t = record t { other = raised t.other }

abbrev pub with_aborted : Tally → Tally
with_aborted t = record t { aborted = raised t.aborted }

abbrev pub with_broken : Tally → Tally
with_broken t = record t { broken = raised t.broken }

-- counts a call
abbrev pub command_counted : Command → Tally → Tally
command_counted (command.Call name args) t = with_call t
command_counted (command.Stop left) t = t
command_counted (command.Fault at) t = t
command_counted (command.Power choice) t = t
command_counted command.Show t = t
command_counted command.ShowDead t = t
command_counted command.Last t = t

-- counts how a command was answered; an answer without a line doesn't count
abbrev pub answer_counted : Answer → Tally → Tally
answer_counted answer.Silent t = t
answer_counted (answer.Done value unsigned logged) t = with_done t
answer_counted (answer.Stopped phase) t = with_stopped t
answer_counted (answer.RecoveredRedone value unsigned logged) t = with_redone t
answer_counted answer.RecoveredNone t = with_none t
answer_counted (answer.Trap kind) t = with_trapped t
answer_counted (answer.RecoveredTrap kind) t = with_trapped t
answer_counted (answer.Aborted kind) t = with_aborted (with_other t)
answer_counted (answer.RecoveredAborted kind) t = with_other t
answer_counted answer.DeviceFault t = with_other t
answer_counted (answer.Shown text) t = with_other t
answer_counted (answer.ShownDead kind text) t = with_other t
answer_counted (answer.Last done value) t = with_other t
answer_counted answer.NoMemory t = with_other t
answer_counted answer.RefusedDown t = with_other t
answer_counted (answer.RefusedUnusable kind) t = with_other t
answer_counted answer.RefusedUnknown t = with_other t
answer_counted answer.RefusedArity t = with_other t
answer_counted answer.RefusedNumbers t = with_other t
answer_counted (answer.RefusedPick line) t = with_other t

-- a call of a transaction named `check`
abbrev pub is_check : Command → Bool
is_check (command.Call name args) = bytes_eq name (codes "check")
is_check _ = false

-- such a call that gave another value than 1
abbrev pub is_broken : Command → Answer → Bool
is_broken c (answer.Done value unsigned logged) = not (int_eq value (pos 1)) && is_check c
is_broken c _ = false

-- counts a broken check
abbrev pub broken_counted : Command → Answer → Tally → Tally
broken_counted c a t = if is_broken c a then with_broken t else t

abbrev pub counted : Command → Answer → Tally → Tally
counted c a t = broken_counted c a (answer_counted a (command_counted c t))

-- a check was broken
abbrev pub any_broken : Tally → Bool
any_broken t = not (t.broken == 0)

-- the name of a count, followed by the count
abbrev pub with_count : List ℕ → List ℕ → ℕ → List ℕ
with_count line name count = (line ++ name) ++ decimal count

-- the line of the counts
abbrev pub tally_text : Tally → List ℕ
tally_text t =
    let calls = with_count [] (codes "storm calls ") t.calls in
    let done = with_count calls (codes " done ") t.done in
    let stopped = with_count done (codes " stopped ") t.stopped in
    let redone = with_count stopped (codes " redone ") t.redone in
    let none = with_count redone (codes " none ") t.none in
    let trapped = with_count none (codes " trapped ") t.trapped in
    let other = with_count trapped (codes " other ") t.other in other ++ codes "\n"

-- a text, followed by the line of what is counted besides
abbrev pub with_plain : List ℕ → Tally → List ℕ
with_plain text t =
    let aborted = with_count text (codes "aborted ") t.aborted in
    with_count aborted (codes " broken ") t.broken ++ codes "\n"

-- the summary
abbrev pub summary_text : (plain : Bool) → Tally → List ℕ
summary_text false t = tally_text t
summary_text true t = with_plain (tally_text t) t

abbrev pub no_tally : Tally
no_tally = record {
  calls = 0;
  done = 0;
  stopped = 0;
  redone = 0;
  none = 0;
  trapped = 0;
  other = 0;
  aborted = 0;
  broken = 0;
}
