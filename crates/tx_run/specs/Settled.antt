-- The answer of the part of a call after its seal.
use Rattle.std.specs.Prelude.{ℕ, ◌+◌, ◌≡◌}
use Rattle.pmem.specs.Device.{Device}
use Rattle.pmem.specs.Played.{PlaysAll, PlaysPart}
use Rattle.pmem.specs.declared.answer.Refusal.TheVariants as refusal
use Rattle.cache_model.specs.Cache.{Cache, view}
use Rattle.clobber_log.specs.Logs.{count_in}
use Rattle.pm_machine.specs.declared.effect.End.{End}
use Rattle.pm_machine.specs.declared.effect.End.TheVariants.{Halted, Trapped}
use Rattle.pm_machine.specs.declared.records.Policy.{Policy}
use Rattle.pm_machine.specs.declared.records.Policy.TheVariants.{EndPool, RollBack}
use Rattle.pm_machine.specs.declared.image.Image.{Image}
use Rattle.pm_machine.specs.Machine.{State}
use Rattle.pm_machine.specs.Runs.{end_of, due_on}
use Rattle.tx_run.specs.declared.answer.Settled.{Settled}
use Rattle.tx_run.specs.declared.answer.Settled.TheVariants as settled
use Rattle.tx_run.specs.Due.{due_run, run_steps}

-- The run from the machine's state s came to this end, and all due events after the seal were
-- played; the step counter rose from k to k1 by their steps.
pub record HasSettled (e : End) (p : Policy) (image : Image) (s : State) (d b : Device)
    (k k1 : ℕ) : Type 0 where
  pub fate : end_of (due_on p image s d.cache).fate ≡ e
  pub played : PlaysAll d (due_run p image s d.cache) b
  pub steps : k1 ≡ k + run_steps p image s d.cache

-- l records were taken
abbrev pub HasLogged : (l : ℕ) → Policy → Image → State → Cache → Type 0
HasLogged l p image s c = l + count_in image.parts.sizes (view c) ≡ (due_on p image s c).records

abbrev pub Settles : Settled → Policy → Image → State → (d b : Device) → (k k1 : ℕ) → Type 0
Settles (settled.Done v l) p image s d b k k1 = HasSettled (Halted v) p image s d b k k1
    × HasLogged l p image s d.cache
Settles (settled.Trap t) p image s d b k k1 =
    (p ≡ EndPool) × HasSettled (Trapped t) p image s d b k k1
Settles (settled.Aborted t) p image s d b k k1 =
    (p ≡ RollBack) × HasSettled (Trapped t) p image s d b k k1
Settles settled.Off p image s d b k k1 = PlaysPart refusal.Off d (due_run p image s d.cache) b
Settles settled.Failed p image s d b k k1 = PlaysPart refusal.Failed d (due_run p image s d.cache) b
Settles settled.NoMemory p image s d b k k1 =
    PlaysPart refusal.NoMemory d (due_run p image s d.cache) b
