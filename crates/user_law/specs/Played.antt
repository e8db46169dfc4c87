-- What a user sees of the device: a list of stores, flushes and fences, which is played on cache
-- lines; where it is cut; and the most events that a command may have.
use Rattle.std.specs.Prelude.{ℕ, ◌+◌, ◌*◌, ◌≡◌, ◌⊎◌, Bool, false, if◌then◌else◌, List, Option}
use Rattle.std.specs.Prelude.{Some, None}
use Rattle.std.specs.Option.{option_or, option_map_or}
use Rattle.cache_model.specs.Collapse.{bad}
use Rattle.cache_model.specs.Event.{CacheEvent}
use Rattle.cache_model.specs.declared.choice.Choice.{Choice}
use Rattle.pmem.specs.Device.{Device, memory_of, powered, with_left, with_armed}
use Rattle.pmem.specs.Played.{PlaysAll, PlaysPart}
use Rattle.pmem.specs.declared.answer.Refusal.TheVariants as refusal
use Rattle.codegen.specs.Emit.{most_steps}
use Rattle.cnvm_script.specs.declared.command.Command.{Command}
use Rattle.cnvm_script.specs.declared.command.Command.TheVariants as command
use Rattle.cnvm_session.specs.declared.answer.Answer.{Answer}
use Rattle.cnvm_session.specs.declared.answer.Answer.TheVariants as answer
use Rattle.cnvm_session.specs.Commands.{fallen}
use Rattle.user_law.specs.Source.{Source, number_named, looks}

-- the device on which a command's events are played: a cut leaves one version of each line, and
-- `stop` and `fault` say when the power goes or the device fails
abbrev pub prepared : Command → Answer → Device → Device
prepared (command.Power choice) (answer.RefusedPick line) d = d
prepared (command.Power choice) a d = powered choice d
prepared (command.Stop left) a d = with_left left d
prepared (command.Fault at) a d = with_armed at d
prepared c a d = d

-- The line of the first pick that doesn't fit: its line isn't above that of the pick before it, or
-- the memory has no such line or version.
abbrev pub unfit : Choice → Device → Option ℕ
unfit choice d = option_or (fallen 0 choice.picks) (bad (memory_of d) choice.picks)

-- A power cut is refused for a pick exactly if one doesn't fit, with the line of the first.
abbrev pub TellsPick : Command → Answer → Device → Type 0
TellsPick (command.Power choice) (answer.RefusedPick line) d = unfit choice d ≡ Some line
TellsPick (command.Power choice) a d = unfit choice d ≡ None
TellsPick c a d = Unit {0}

-- All events are played where a transaction or a recovery came to its end; some first ones where
-- the power went, the device failed, or memory was wanting at the next; none else.
abbrev pub PlaysAs : Answer → Device → List CacheEvent → Device → Type 0
PlaysAs (answer.Done value unsigned logged) d es b = PlaysAll d es b
PlaysAs (answer.Trap kind) d es b = PlaysAll d es b
PlaysAs (answer.Aborted kind) d es b = PlaysAll d es b
PlaysAs answer.RecoveredNone d es b = PlaysAll d es b
PlaysAs (answer.RecoveredRedone value unsigned logged) d es b = PlaysAll d es b
PlaysAs (answer.RecoveredTrap kind) d es b = PlaysAll d es b
PlaysAs (answer.RecoveredAborted kind) d es b = PlaysAll d es b
PlaysAs (answer.Stopped at) d es b = PlaysPart refusal.Off d es b
PlaysAs answer.DeviceFault d es b = PlaysPart refusal.Failed d es b
PlaysAs answer.NoMemory d es b = (b ≡ d) ⊎ PlaysPart refusal.NoMemory d es b
PlaysAs a d es b = b ≡ d

-- the command calls a transaction that only looks
abbrev pub only_looks : Source → Command → Bool
only_looks p (command.Call name args) = option_map_or (looks p) (number_named p name) false
only_looks p c = false

-- The most events of a command: none if it only looks; else ten for each step of the longest run,
-- four for each log record, and those of the seal and of the end.
abbrev pub events_bound : Source → Command → ℕ
events_bound p c = if only_looks p c then 0
    else 10 * most_steps p.sizes p.tokens + 4 * p.sizes.records + 64
