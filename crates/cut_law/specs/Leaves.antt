-- The effect of a call and of a recovery on the device, by their answers, if the run is sound.
use Rattle.std.specs.Prelude.{ℕ, ◌+◌, ◌≡◌, List, ℤ}
use Rattle.cache_model.specs.Cache.{Words}
use Rattle.cache_model.specs.Image.{Images, HasOne}
use Rattle.pmem.specs.Device.{Device}
use Rattle.pm_machine.specs.declared.effect.Effect.{Effect}
use Rattle.pm_machine.specs.declared.effect.End.{End}
use Rattle.pm_machine.specs.declared.effect.End.TheVariants.{Halted, Trapped}
use Rattle.pm_machine.specs.declared.records.Policy.{Policy}
use Rattle.pm_machine.specs.declared.records.Policy.TheVariants.{EndPool, RollBack}
use Rattle.pm_machine.specs.declared.image.Image.{Image}
use Rattle.pm_machine.specs.Effects.{records_end}
use Rattle.pm_machine.specs.Runs.{heap_in}
use Rattle.tx_run.specs.declared.answer.CallAnswer.{CallAnswer}
use Rattle.tx_run.specs.declared.answer.CallAnswer.TheVariants as call
use Rattle.tx_run.specs.Called.{Called}
use Rattle.recovery.specs.declared.answer.RecoverAnswer.{RecoverAnswer}
use Rattle.recovery.specs.declared.answer.RecoverAnswer.TheVariants as recover
use Rattle.recovery.specs.Recovered.{Redid}
use Rattle.crash_law.specs.Pools.{last_of}
use Rattle.cut_law.specs.Steps.{run_steps}
use Rattle.cut_law.specs.Law.{pool_with, RunsSound, BeginsOn, OwesInImage, Finishes, CutImages}
use Rattle.cut_law.specs.Law.{RedoImages}

-- What the answer of a call says about its run and its effect: after a run that came to its end,
-- the number of records, the step counter, which rose from k to k1, and the fact that holds at the
-- end.
abbrev pub AnswerTells : CallAnswer → Policy → End → List Effect → Type 0 → (k k1 : ℕ) → Type 0
AnswerTells (call.Done v l) p end es ended k k1 =
    (end ≡ Halted v) × (l ≡ records_end 0 es) × ended × (k1 ≡ k + run_steps p end es)
AnswerTells (call.Trap t) p end es ended k k1 =
    (p ≡ EndPool) × (end ≡ Trapped t) × ended × (k1 ≡ k + run_steps p end es)
AnswerTells (call.Aborted t) p end es ended k k1 =
    (p ≡ RollBack) × (end ≡ Trapped t) × ended × (k1 ≡ k + run_steps p end es)
AnswerTells answer p end es ended k k1 = Unit {0}

-- What the answer of a recovery says about the run and its effect.
abbrev pub Retells : RecoverAnswer → Policy → End → List Effect → Type 0 → (k k1 : ℕ) → Type 0
Retells (recover.Redone v l) p end es ended k k1 =
    (end ≡ Halted v) × (l ≡ records_end 0 es) × ended × (k1 ≡ k + run_steps p end es)
Retells (recover.Trap t) p end es ended k k1 =
    (p ≡ EndPool) × (end ≡ Trapped t) × ended × (k1 ≡ k + run_steps p end es)
Retells (recover.Aborted t) p end es ended k k1 =
    (p ≡ RollBack) × (end ≡ Trapped t) × ended × (k1 ≡ k + run_steps p end es)
Retells answer p end es ended k k1 = Unit {0}

-- Cut call: whatever a call answers, every image is one that the law names; after Done, Trap and
-- Aborted it is the call's end, with the value, the records and the steps of the run from the
-- view's heap.
abbrev pub CallLeavesLaw : Type 0
CallLeavesLaw =
    (p : Policy) (image : Image) (super : Words) (tx : ℕ) (args : List ℤ) (d b : Device)
    (one : Words) (n : ℕ) (end : End) (es : List Effect) →
    BeginsOn image super tx n d.cache one →
    RunsSound p image tx args (heap_in image.parts.sizes d.cache) end es →
    (answer : CallAnswer) (k k1 : ℕ) → Called answer p image tx args d b k k1 →
    Images (CutImages p image super tx args n d.cache (last_of (pool_with image super) one) end es)
    b.cache
    × AnswerTells answer p end es (Images
    (Finishes p image super tx args n (heap_in image.parts.sizes d.cache)
    (last_of (pool_with image super) one) end es) b.cache) k k1

-- Cut recovery: whatever the recovery of an owed image with m valid records answers, in every image
-- the call is owed or has come to its end; after Redone, Trap and Aborted it has come to its end,
-- with the value, the records and the steps of the run from h, and a step for each record.
abbrev pub RedoLeavesLaw : Type 0
RedoLeavesLaw =
    (p : Policy) (image : Image) (super : Words) (tx : ℕ) (args : List ℤ) (d b : Device)
    (one : Words) (n : ℕ) (h : Words) (last : ℤ) (end : End) (es : List Effect) (m : ℕ) →
    HasOne d.cache one → OwesInImage p image super tx args n h last end es m one →
    RunsSound p image tx args h end es →
    (answer : RecoverAnswer) (k k1 : ℕ) → Redid answer p image tx args m d b k k1 →
    Images (RedoImages p image super tx args n h last end es) b.cache
    × Retells answer p end es (Images (Finishes p image super tx args n h last end es) b.cache)
    (k + m) k1
