-- A device's count of faults only rises, and it rises in each command that is answered with a fault
-- of the device.
use Rattle.std.proofs.Common.{◌≡◌, ◌≢◌, ◌≤◌, List, sym, ap, ◌∙◌}
use Rattle.cache_model.specs.Event.{CacheEvent}
use Rattle.pmem.specs.Device.{Device, FaultsRose}
use Rattle.pmem.specs.Played.{PlaysAll, PlaysPart}
use Rattle.pmem.specs.declared.answer.Refusal.{Refusal}
use Rattle.pmem.specs.declared.answer.Refusal.TheVariants as refusal
use Rattle.pmem.proofs.Parts.{same_rise, all_rise, part_rise, part_failed}
use Rattle.cnvm_session.specs.declared.answer.Answer.{Answer}
use Rattle.cnvm_session.specs.declared.answer.Answer.TheVariants as answer

-- the count didn't fall, and rose if the answer is a fault of the device
abbrev pub Counts : Answer → (d b : Device) → Type 0
Counts a d b = (d.faults ≤ b.faults) × (a ≡ answer.DeviceFault → FaultsRose d.faults b.faults)

pub counts_all : (a : Answer) (d : Device) (es : List CacheEvent) (b : Device)
    → a ≢ answer.DeviceFault → PlaysAll d es b → Counts a d b
counts_all a d es b none all = (all_rise es d b all, λ fault. absurd (none fault))

pub counts_part : (a : Answer) (why : Refusal) (d : Device) (es : List CacheEvent) (b : Device)
    → a ≢ answer.DeviceFault → PlaysPart why d es b → Counts a d b
counts_part a why d es b none part = (part_rise es why d b part, λ fault. absurd (none fault))

pub counts_failed : (a : Answer) (d : Device) (es : List CacheEvent) (b : Device)
    → PlaysPart refusal.Failed d es b → Counts a d b
counts_failed a d es b part =
    (part_rise es refusal.Failed d b part, λ fault. part_failed es d b part)

-- a device that is as it was
pub counts_same : {R : Type 0} (answers : R → Answer) (r s : R) (d b : Device) → r ≡ s
    → answers s ≢ answer.DeviceFault → b ≡ d → Counts (answers r) d b
counts_same answers r s d b is none same =
    (same_rise d b same, λ fault. absurd (none (ap answers (sym is) ∙ fault)))
