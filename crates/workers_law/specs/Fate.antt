-- The fate of a transaction: the end of its run, and how many words take a record in it.
use Rattle.std.specs.Prelude.{ℕ, ◌+◌, ◌-◌, ◌≡◌, Some, None, length, Bool, true, false}
use Rattle.cache_model.specs.Cache.{Words, Cache, view}
use Rattle.cache_model.specs.Play.{play}
use Rattle.clobber_log.specs.Logs.{count_in}
use Rattle.pool_map.specs.declared.trap.TrapKind.TheVariants.{Steps}
use Rattle.pm_machine.specs.declared.effect.End.{End}
use Rattle.pm_machine.specs.declared.effect.End.TheVariants.{Trapped}
use Rattle.pm_machine.specs.declared.image.Image.{Image}
use Rattle.pm_machine.specs.declared.records.Policy.TheVariants.{EndPool}
use Rattle.pm_machine.specs.Looking as looking
use Rattle.pm_machine.specs.Looking.{look_of}
use Rattle.pm_machine.specs.Runs.{heap_in, due, end_of, due_on}
use Rattle.tx_run.specs.Due.{due_seal}
use Rattle.pool_workers.specs.declared.answer.TurnAnswer.{TurnAnswer}
use Rattle.pool_workers.specs.declared.look.Look.{Look}
use Rattle.pool_workers.specs.declared.look.Look.TheVariants.{Fresh, Going, Seen}
use Rattle.pool_workers.specs.declared.task.Task.{Task}
use Rattle.pool_workers.specs.declared.task.Task.TheVariants.{Begun, Running, Ending, Cut}
use Rattle.pool_workers.specs.declared.task.Task.TheVariants.{Looking}
use Rattle.pool_workers.specs.Look.{seen_answer}
use Rattle.pool_workers.specs.Task.{piece_of, task_past, end_answer, answer_past, ticks_of, IsTask}
use Rattle.pool_workers.specs.Task.{IsUncut}

-- what is left of a look on this heap: its end, and its number of instructions
abbrev pub look_left : Image → Look → Words → looking.Look
look_left image (Fresh m) heap = look_of image image.parts.most m.processor heap
look_left image (Going m k) heap = look_of image k m.processor heap
look_left image (Seen end) heap = record { end = end; steps = 0 }

-- the look that a compartment's heap shows
abbrev pub look_in : Image → Look → Cache → looking.Look
look_in image l c = look_left image l (heap_in image.parts.sizes c)

abbrev pub fate_of : Image → Task → Cache → End
fate_of image (Begun tx args m) c =
    end_of (due_on EndPool image m.processor (play c (due_seal tx args c))).fate
fate_of image (Running tx m a k) c = end_of (due image a k m.records m.processor c).fate
fate_of image (Ending tx end l) c = end
fate_of image (Looking tx l) c = (look_in image l c).end
fate_of image (Cut p) c = Trapped Steps

abbrev pub task_logs : Image → Task → Cache → ℕ
task_logs image (Begun tx args m) c =
    (due_on EndPool image m.processor (play c (due_seal tx args c))).records
    - count_in image.parts.sizes (view (play c (due_seal tx args c)))
task_logs image (Running tx m a k) c =
    (due image a k m.records m.processor c).records + length m.records.words - m.records.count
task_logs image (Ending tx end l) c = l
task_logs image (Looking tx l) c = 0
task_logs image (Cut p) c = 0

-- the number of instructions that its turns still have
abbrev pub task_steps : Image → Task → Cache → ℕ
task_steps image (Begun tx args m) c =
    (due_on EndPool image m.processor (play c (due_seal tx args c))).steps
task_steps image (Running tx m a k) c = (due image a k m.records m.processor c).steps
task_steps image (Ending tx end l) c = 0
task_steps image (Looking tx l) c = (look_in image l c).steps
task_steps image (Cut p) c = 0

-- whether it only looks
abbrev pub is_looking : Task → Bool
is_looking (Begun tx args m) = false
is_looking (Running tx m a k) = false
is_looking (Ending tx end l) = false
is_looking (Looking tx l) = true
is_looking (Cut p) = false

-- the last answer of a transaction with this end
abbrev pub told_end : (looks : Bool) → End → ℕ → TurnAnswer
told_end true end l = seen_answer end
told_end false end l = end_answer end l

-- A whole turn doesn't change the end and the number of records, and uses up only its own
-- instruction. Fences of others change none of the three. The last turn answers the first two.
abbrev pub FateLaw : Type 0
FateLaw =
    ((image : Image) (t u : Task) (c : Cache) →
    IsTask image t → IsUncut t → task_past image t c ≡ Some u →
    (fate_of image u (play c (piece_of image t c)) ≡ fate_of image t c)
    × (task_logs image u (play c (piece_of image t c)) ≡ task_logs image t c)
    × (ticks_of t + task_steps image u (play c (piece_of image t c)) ≡ task_steps image t c))
    × ((image : Image) (t : Task) (c d : Cache) → view c ≡ view d →
    (fate_of image t c ≡ fate_of image t d)
    × (task_logs image t c ≡ task_logs image t d) × (task_steps image t c ≡ task_steps image t d))
    × ((image : Image) (t : Task) (c : Cache) → task_past image t c ≡ None →
    answer_past t ≡ told_end (is_looking t) (fate_of image t c) (task_logs image t c))
