-- What only bodies and proofs need beside `WorkersCommands`.
use Rattle.std.specs.Prelude.{ℕ, zero, suc, ◌+◌, ◌≡◌, ◌++◌, List, [], ◌∷◌, Option, Some, None, Bool}
use Rattle.std.specs.Prelude.{true, false}
use Rattle.pool_workers.specs.declared.answer.BeginAnswer.{BeginAnswer}
use Rattle.pool_workers.specs.declared.answer.BeginAnswer.TheVariants as begins
use Rattle.pool_workers.specs.declared.task.Task.{Task}
use Rattle.pool_workers.specs.declared.look.Look.{Look}
use Rattle.pool_workers.specs.declared.look.Look.TheVariants.{Fresh, Going, Seen}
use Rattle.pool_workers.specs.declared.task.Task.TheVariants.{Begun, Running, Ending, Cut}
use Rattle.pool_workers.specs.declared.task.Task.TheVariants.{Looking}
use Rattle.pool_workers.specs.Crew.{Tasks, task_at}
use Rattle.cnvm_session.specs.declared.answer.Answer.TheVariants as answer
use Rattle.workers_session.specs.declared.line.WorkersLine.{WorkersLine}
use Rattle.workers_session.specs.declared.line.WorkersLine.TheVariants.{Plain, Started, RefusedBusy}

-- these lines were put at the end, unless there was no memory for one of all
abbrev pub Extends : Option (List WorkersLine) → Option (List WorkersLine) → List WorkersLine
    → Type 0
Extends told None lines = Unit {0}
Extends None (Some after) lines = ⊥
Extends (Some before) (Some after) lines = after ≡ before ++ lines

-- the line after a begin with this answer, and whether the workers are then down
abbrev pub begin_line : BeginAnswer → ℕ → WorkersLine
begin_line begins.Started worker = Started worker
begin_line begins.Busy worker = RefusedBusy worker
begin_line (begins.Unusable kind) worker = Plain (answer.RefusedUnusable kind)
begin_line begins.Numbers worker = Plain answer.RefusedNumbers
begin_line begins.Off worker = Plain answer.RefusedDown
begin_line begins.NoMemory worker = Plain answer.NoMemory

abbrev pub begin_runs_out : BeginAnswer → Bool
begin_runs_out begins.Started = false
begin_runs_out begins.Busy = false
begin_runs_out (begins.Unusable kind) = false
begin_runs_out begins.Numbers = false
begin_runs_out begins.Off = false
begin_runs_out begins.NoMemory = true

-- the turns that a look, and a transaction, has at most
abbrev pub look_turns : (most : ℕ) → Look → ℕ
look_turns most (Fresh m) = most + 2
look_turns most (Going m k) = k + 1
look_turns most (Seen end) = 1

abbrev pub turns_of : (most : ℕ) → Task → ℕ
turns_of most (Begun tx args m) = most + 2
turns_of most (Running tx m a k) = k + 1
turns_of most (Ending tx end l) = 1
turns_of most (Looking tx l) = look_turns most l
turns_of most (Cut p) = 0

abbrev pub turns_left : (most : ℕ) → Option Task → ℕ
turns_left most None = 0
turns_left most (Some t) = turns_of most t

abbrev pub turns_in : (most : ℕ) → Tasks → ℕ
turns_in most [] = 0
turns_in most (o ∷ os) = turns_left most o + turns_in most os

-- one for a worker that isn't idle, and their number among the first n
abbrev pub busy_one : Option Task → ℕ
busy_one None = 0
busy_one (Some t) = 1

abbrev pub busy_first : (n : ℕ) → Tasks → ℕ
busy_first zero ts = 0
busy_first (suc n) ts = busy_first n ts + busy_one (task_at ts n)
