-- The answers of a run: what the definition says, with its events played, or the refusal of one of
-- them.
use Rattle.std.specs.Prelude.{ℕ, ◌+◌, ◌≡◌}
use Rattle.pmem.specs.Device.{Device}
use Rattle.pmem.specs.Played.{PlaysAll, PlaysPart}
use Rattle.pmem.specs.declared.answer.Refusal.TheVariants as refusal
use Rattle.cache_model.specs.Cache.{view}
use Rattle.clobber_log.specs.Logs.{count_in}
use Rattle.pm_machine.specs.declared.effect.End.{End}
use Rattle.pm_machine.specs.declared.effect.End.TheVariants as end
use Rattle.pm_machine.specs.declared.answer.RunAnswer.{RunAnswer}
use Rattle.pm_machine.specs.declared.answer.RunAnswer.TheVariants as run
use Rattle.pm_machine.specs.declared.image.Image.{Image}
use Rattle.pm_machine.specs.declared.records.Policy.{Policy}
use Rattle.pm_machine.specs.Machine.{State}
use Rattle.pm_machine.specs.Runs.{Due, end_of, due_on}

-- A due run, with n records at its start, came to this end: all its events were played, the step
-- counter rose from k to k1 by its steps, and it took l records.
pub record HasRun (e : End) (x : Due) (n l : ℕ) (d b : Device) (k k1 : ℕ) : Type 0 where
  pub fate : end_of x.fate ≡ e
  pub played : PlaysAll d x.events b
  pub steps : k1 ≡ k + x.steps
  pub logged : l + n ≡ x.records

-- The answer of a due run.
abbrev pub RunAnswered : RunAnswer → Due → (n l : ℕ) → (d b : Device) → (k k1 : ℕ) → Type 0
RunAnswered (run.Halted v) x n l d b k k1 = HasRun (end.Halted v) x n l d b k k1
RunAnswered (run.Trapped t) x n l d b k k1 = HasRun (end.Trapped t) x n l d b k k1
RunAnswered run.Off x n l d b k k1 = PlaysPart refusal.Off d x.events b
RunAnswered run.Failed x n l d b k k1 = PlaysPart refusal.Failed d x.events b
RunAnswered run.NoMemory x n l d b k k1 = PlaysPart refusal.NoMemory d x.events b

-- The answer of a run on a device that is on. It took l records, and the step counter rose from k
-- to k1.
abbrev pub RunsOn : RunAnswer → Policy → Image → State → (l : ℕ) → (d b : Device) → (k k1 : ℕ)
    → Type 0
RunsOn a p image s l d b k k1 =
    RunAnswered a (due_on p image s d.cache) (count_in image.parts.sizes (view d.cache)) l d b k k1
