-- The count of faults never falls in a call or a recovery, and Failed is answered only if it rose.
use Rattle.std.specs.Prelude.{ℕ, ◌≤◌, List, ℤ}
use Rattle.cache_model.specs.Event.{CacheEvent}
use Rattle.pmem.specs.Device.{Device, FaultsRose}
use Rattle.pm_machine.specs.declared.records.Policy.{Policy}
use Rattle.pm_machine.specs.declared.image.Image.{Image}
use Rattle.tx_run.specs.declared.answer.CallAnswer.{CallAnswer}
use Rattle.tx_run.specs.declared.answer.CallAnswer.TheVariants as call
use Rattle.tx_run.specs.Called.{Called}
use Rattle.recovery.specs.declared.answer.RecoverAnswer.{RecoverAnswer}
use Rattle.recovery.specs.declared.answer.RecoverAnswer.TheVariants as recover
use Rattle.recovery.specs.Recovered.{Cleaned, Redid}

abbrev pub CallFaults : Type 0
CallFaults =
    (p : Policy) (image : Image) (tx : ℕ) (args : List ℤ) (d b : Device) (k k1 : ℕ) →
    ((answer : CallAnswer) → Called answer p image tx args d b k k1 → d.faults ≤ b.faults)
    × (Called call.Failed p image tx args d b k k1 → FaultsRose d.faults b.faults)

abbrev pub RedoFaults : Type 0
RedoFaults =
    (p : Policy) (image : Image) (tx : ℕ) (args : List ℤ) (m : ℕ) (d b : Device) (k k1 : ℕ) →
    ((answer : RecoverAnswer) → Redid answer p image tx args m d b k k1 → d.faults ≤ b.faults)
    × (Redid recover.Failed p image tx args m d b k k1 → FaultsRose d.faults b.faults)

abbrev pub CleanFaults : Type 0
CleanFaults =
    (d b : Device) (es : List CacheEvent) →
    ((answer : RecoverAnswer) → Cleaned answer d es b → d.faults ≤ b.faults)
    × (Cleaned recover.Failed d es b → FaultsRose d.faults b.faults)
