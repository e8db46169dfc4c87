-- An unfinished transaction that only looks: it has no due events, and its turns do the
-- instructions of its run.
use Rattle.std.specs.Prelude.{ℕ, ◌-◌, ◌<◌, ◌==◌, if◌then◌else◌}
use Rattle.cache_model.specs.Cache.{Words}
use Rattle.pool_map.specs.declared.trap.TrapKind.TheVariants.{Steps, Depth}
use Rattle.pm_machine.specs.declared.effect.End.{End}
use Rattle.pm_machine.specs.declared.effect.End.TheVariants.{Halted, Trapped}
use Rattle.pm_machine.specs.declared.image.Image.{Image}
use Rattle.pm_machine.specs.declared.machine.Machine.{Machine}
use Rattle.pm_machine.specs.Logging.{Logging}
use Rattle.pm_machine.specs.Looking.{is_look}
use Rattle.pm_machine.specs.Machine.{StepOutcome, Goes, Ends, step}
use Rattle.pool_workers.specs.declared.answer.TurnAnswer.{TurnAnswer}
use Rattle.pool_workers.specs.declared.answer.TurnAnswer.TheVariants.{Went, Done, Aborted}
use Rattle.pool_workers.specs.declared.look.Look.{Look}
use Rattle.pool_workers.specs.declared.look.Look.TheVariants.{Fresh, Going, Seen}

-- A look that goes on. If no more instructions are allowed it ends as if it had no tick left.
abbrev pub going_look : Machine → (k : ℕ) → Look
going_look m k = if k == 0 then Seen (Trapped Steps) else Going m k

-- after an instruction, with k instructions left before it
abbrev pub looked : (k : ℕ) → Logging → StepOutcome → Look
looked k g (Ends end) = Seen end
looked k g (Goes e s) = if is_look e then going_look (record { processor = s; records = g }) (k - 1)
    else Seen (Trapped Depth)

-- after the next instruction, on this heap
abbrev pub going_past : Image → Machine → (k : ℕ) → Words → Look
going_past image m k heap = looked k m.records (step image m.processor heap)

-- the answer of a look with this end
abbrev pub seen_answer : End → TurnAnswer
seen_answer (Halted v) = Done v 0
seen_answer (Trapped k) = Aborted k

-- the answer of its next turn
abbrev pub look_told : Look → TurnAnswer
look_told (Fresh m) = Went
look_told (Going m k) = Went
look_told (Seen end) = seen_answer end

-- the number of instructions of its next turn
abbrev pub look_ticks : Look → ℕ
look_ticks (Fresh m) = 0
look_ticks (Going m k) = 1
look_ticks (Seen end) = 0

-- one that goes on has an instruction left
abbrev pub HasLeft : Look → Type 0
HasLeft (Fresh m) = Unit {0}
HasLeft (Going m k) = 0 < k
HasLeft (Seen end) = Unit {0}
