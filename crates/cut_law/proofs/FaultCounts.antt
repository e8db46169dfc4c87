-- The count of faults in a call and in a recovery.
use Rattle.std.proofs.Common.{⊎_elim, ℕ, ◌≤◌, List, ℤ}
use Rattle.cache_model.specs.Event.{CacheEvent}
use Rattle.pmem.specs.Device.{Device}
use Rattle.pmem.specs.declared.answer.Refusal.TheVariants.{Off, Failed, NoMemory}
use Rattle.pmem.specs.declared.answer.Phase.TheVariants as phase
use Rattle.pmem.proofs.Parts.{same_rise, all_rise, part_rise}
use Rattle.pm_machine.specs.declared.records.Policy.{Policy}
use Rattle.pm_machine.specs.declared.image.Image.{Image}
use Rattle.tx_run.specs.declared.answer.CallAnswer.{CallAnswer}
use Rattle.tx_run.specs.declared.answer.CallAnswer.TheVariants as call
use Rattle.tx_run.specs.Due as plays
use Rattle.tx_run.specs.Called.{Called}
use Rattle.recovery.specs.declared.answer.RecoverAnswer.{RecoverAnswer}
use Rattle.recovery.specs.declared.answer.RecoverAnswer.TheVariants as recover
use Rattle.recovery.specs.Due.{due_redo}
use Rattle.recovery.specs.Recovered.{Cleaned, Redid}

pub call_rise : (p : Policy) (image : Image) (tx : ℕ) (args : List ℤ) (d b : Device) (k k1 : ℕ)
    (answer : CallAnswer) → Called answer p image tx args d b k k1 → d.faults ≤ b.faults
call_rise p image tx args d b k k1 (call.Done v l) called =
    all_rise (plays.due_call p image tx args d.cache) d b called.0.played
call_rise p image tx args d b k k1 (call.Trap t) called =
    all_rise (plays.due_call p image tx args d.cache) d b called.1.played
call_rise p image tx args d b k k1 (call.Aborted t) called =
    all_rise (plays.due_call p image tx args d.cache) d b called.1.played
call_rise p image tx args d b k k1 (call.Off q) called =
    part_rise (plays.due_call p image tx args d.cache) Off d b called.0
call_rise p image tx args d b k k1 call.Failed called =
    part_rise (plays.due_call p image tx args d.cache) Failed d b called
call_rise p image tx args d b k k1 call.NoMemory called =
    part_rise (plays.due_call p image tx args d.cache) NoMemory d b called
call_rise p image tx args d b k k1 (call.Unusable t) called = absurd called
call_rise p image tx args d b k k1 call.Numbers called = absurd called

pub redo_rise : (p : Policy) (image : Image) (tx : ℕ) (args : List ℤ) (m : ℕ) (d b : Device)
    (k k1 : ℕ)
    (answer : RecoverAnswer) → Redid answer p image tx args m d b k k1 → d.faults ≤ b.faults
redo_rise p image tx args m d b k k1 (recover.Redone v l) redid =
    all_rise (due_redo p image tx args m d.cache) d b redid.0.played
redo_rise p image tx args m d b k k1 (recover.Trap t) redid =
    all_rise (due_redo p image tx args m d.cache) d b redid.1.played
redo_rise p image tx args m d b k k1 (recover.Aborted t) redid =
    all_rise (due_redo p image tx args m d.cache) d b redid.1.played
redo_rise p image tx args m d b k k1 (recover.Off phase.Sealed) redid =
    part_rise (due_redo p image tx args m d.cache) Off d b redid
redo_rise p image tx args m d b k k1 (recover.Off phase.Unsealed) redid = absurd redid
redo_rise p image tx args m d b k k1 (recover.Off phase.Sealing) redid = absurd redid
redo_rise p image tx args m d b k k1 recover.Failed redid =
    part_rise (due_redo p image tx args m d.cache) Failed d b redid
redo_rise p image tx args m d b k k1 recover.NoMemory redid =
    ⊎_elim (λ same. same_rise d b same.0)
    (λ q. part_rise (due_redo p image tx args m d.cache) NoMemory d b q) redid
redo_rise p image tx args m d b k k1 recover.Clean redid = absurd redid
redo_rise p image tx args m d b k k1 (recover.Unusable t) redid = absurd redid
redo_rise p image tx args m d b k k1 recover.Numbers redid = absurd redid

pub clean_rise : (d b : Device) (es : List CacheEvent) (answer : RecoverAnswer)
    → Cleaned answer d es b → d.faults ≤ b.faults
clean_rise d b es recover.Clean cleaned = all_rise es d b cleaned
clean_rise d b es (recover.Off phase.Unsealed) cleaned = part_rise es Off d b cleaned
clean_rise d b es (recover.Off phase.Sealing) cleaned = absurd cleaned
clean_rise d b es (recover.Off phase.Sealed) cleaned = absurd cleaned
clean_rise d b es recover.Failed cleaned = part_rise es Failed d b cleaned
clean_rise d b es recover.NoMemory cleaned = part_rise es NoMemory d b cleaned
clean_rise d b es (recover.Redone v l) cleaned = absurd cleaned
clean_rise d b es (recover.Trap t) cleaned = absurd cleaned
clean_rise d b es (recover.Aborted t) cleaned = absurd cleaned
clean_rise d b es (recover.Unusable t) cleaned = absurd cleaned
clean_rise d b es recover.Numbers cleaned = absurd cleaned
