-- The part of a transaction's due list that is left.
use Rattle.std.specs.Prelude.{ℕ, ◌++◌, List, [], Option, Some, None}
use Rattle.cache_model.specs.Event.{CacheEvent}
use Rattle.cache_model.specs.Cache.{Cache}
use Rattle.cache_model.specs.Play.{play}
use Rattle.pm_machine.specs.declared.image.Image.{Image}
use Rattle.pm_machine.specs.declared.records.Policy.TheVariants.{EndPool}
use Rattle.pm_machine.specs.Logging.{Logging}
use Rattle.pm_machine.specs.Machine.{State}
use Rattle.pm_machine.specs.Runs.{due, end_of}
use Rattle.tx_run.specs.Due.{tail_events, due_call}
use Rattle.pool_workers.specs.declared.task.Task.{Task}
use Rattle.pool_workers.specs.declared.task.Task.TheVariants.{Begun, Running, Ending, Cut}
use Rattle.pool_workers.specs.declared.task.Task.TheVariants.{Looking}

-- what is left of a run with at most k instructions, and of its end, with attempt a
abbrev pub run_left : Image → (a k : ℕ) → Logging → State → Cache → List CacheEvent
run_left image a k g s c =
    (due image a k g s c).events
    ++ tail_events EndPool image.parts.sizes (end_of (due image a k g s c).fate)
    (play c (due image a k g s c).events)

abbrev pub left_of : Image → Task → Cache → List CacheEvent
left_of image (Begun tx args m) c = due_call EndPool image tx args c
left_of image (Running tx m a k) c = run_left image a k m.records m.processor c
left_of image (Ending tx end l) c = tail_events EndPool image.parts.sizes end c
left_of image (Looking tx l) c = []
left_of image (Cut p) c = []

abbrev pub left_or : Image → Option Task → Cache → List CacheEvent
left_or image None c = []
left_or image (Some t) c = left_of image t c
