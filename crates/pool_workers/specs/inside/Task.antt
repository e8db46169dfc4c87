-- What only bodies and proofs need beside `Task`.
use Rattle.std.specs.Prelude.{ℕ, if◌then◌else◌, Bool, true, false, Option, Some, None}
use Rattle.pmem.specs.declared.answer.LogAnswer.{LogAnswer}
use Rattle.pmem.specs.declared.answer.LogAnswer.TheVariants as log
use Rattle.pmem.specs.declared.answer.Phase.TheVariants.{Sealed}
use Rattle.pool_workers.specs.declared.answer.TurnAnswer.{TurnAnswer}
use Rattle.pool_workers.specs.declared.answer.TurnAnswer.TheVariants as answer
use Rattle.pool_workers.specs.declared.task.Task.{Task}
use Rattle.pool_workers.specs.declared.task.Task.TheVariants.{Begun, Running, Ending, Cut}
use Rattle.pool_workers.specs.declared.task.Task.TheVariants.{Looking}
use Rattle.pool_workers.specs.declared.look.Look.{Look}
use Rattle.pool_workers.specs.declared.look.Look.TheVariants.{Fresh, Going, Seen}
use Rattle.pool_workers.specs.Look.{going_look}
use Rattle.pm_machine.specs.declared.effect.End.{End}
use Rattle.pm_machine.specs.declared.image.Image.{Image}
use Rattle.pool_workers.specs.declared.task.Stepped.{Stepped}
use Rattle.pool_workers.specs.declared.task.Stepped.TheVariants.{On, Over, Refused}
use Rattle.pmem.specs.declared.answer.Refusal.{Refusal}
use Rattle.pmem.specs.declared.answer.Refusal.TheVariants as refusal
use Rattle.pm_machine.specs.declared.machine.Machine.{Machine}

-- the answer of the last turn, from the answer of its events
abbrev pub last_answer : LogAnswer → TurnAnswer → TurnAnswer
last_answer log.Done a = a
last_answer log.Off a = answer.Off
last_answer log.Failed a = answer.Failed
last_answer log.NoMemory a = answer.NoMemory

-- what the last turn leaves in the transaction's place
abbrev pub last_task : LogAnswer → Task → Task
last_task log.Done t = t
last_task log.Off t = Cut Sealed
last_task log.Failed t = Cut Sealed
last_task log.NoMemory t = Cut Sealed

-- whether a turn with this answer is the last one of its transaction
abbrev pub is_last : TurnAnswer → Bool
is_last answer.Idle = false
is_last answer.Went = false
is_last (answer.Done v l) = true
is_last (answer.Trap k) = true
is_last (answer.Aborted k) = true
is_last answer.Off = false
is_last answer.Failed = false
is_last answer.NoMemory = false

-- the transaction after a turn that left this one in its place
abbrev pub left_task : TurnAnswer → Task → Option Task
left_task a t = if is_last a then None else Some t

-- the transaction after an instruction, from the machine that it left in the place of a run with
-- this attempt
abbrev pub stepped_left : Stepped → (tx : ℕ) → Machine → (a k : ℕ) → Task
stepped_left On tx m a k = Running tx m a k
stepped_left (Over end l) tx m a k = Ending tx end l
stepped_left (Refused why) tx m a k = Cut Sealed

abbrev pub refused_answer : Refusal → TurnAnswer
refused_answer refusal.Off = answer.Off
refused_answer refusal.Failed = answer.Failed
refused_answer refusal.NoMemory = answer.NoMemory

abbrev pub stepped_answer : Stepped → TurnAnswer
stepped_answer On = answer.Went
stepped_answer (Over end l) = answer.Went
stepped_answer (Refused why) = refused_answer why

-- the transaction in the place of a run after an instruction, if it is still there
abbrev pub settled : Stepped → (tx : ℕ) → Task → Task
settled On tx t = t
settled (Over end l) tx t = Ending tx end l
settled (Refused why) tx t = Cut Sealed

-- its call isn't sealed
abbrev pub IsBegun : Task → Type 0
IsBegun (Begun tx args m) = Unit {0}
IsBegun (Running tx m a k) = ⊥
IsBegun (Ending tx end l) = ⊥
IsBegun (Looking tx l) = ⊥
IsBegun (Cut p) = ⊥

-- a look had no turn
abbrev pub IsFresh : Look → Type 0
IsFresh (Fresh m) = Unit {0}
IsFresh (Going m k) = ⊥
IsFresh (Seen end) = ⊥

-- a look after its first turn
abbrev pub fresh_past : Image → Look → Look
fresh_past image (Fresh m) = going_look m image.parts.most
fresh_past image (Going m k) = Going m k
fresh_past image (Seen end) = Seen end

-- a look in its place after an instruction, if it goes on, or at its end
abbrev pub settled_look : Option End → Look → Look
settled_look None l = l
settled_look (Some end) l = Seen end
