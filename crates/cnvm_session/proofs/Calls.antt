-- The count of faults in a call, and in a look.
use Rattle.std.proofs.Common.{ℕ, Bool, List, ℤ, ◌≡◌, ◌≤◌, ◌∙◌, sym}
use Rattle.pmem.specs.Device.{Device, FaultsRose}
use Rattle.pmem.proofs.Parts.{same_rise}
use Rattle.pmem.specs.declared.answer.Phase.TheVariants as phase
use Rattle.pmem.specs.declared.answer.Refusal.TheVariants as refusal
use Rattle.pm_machine.specs.declared.records.Policy.{Policy}
use Rattle.pm_machine.specs.declared.image.Image.{Image}
use Rattle.tx_run.specs.Called.{Called, IsTxCalled}
use Rattle.tx_run.specs.declared.answer.CallAnswer.{CallAnswer}
use Rattle.tx_run.specs.declared.answer.CallAnswer.TheVariants as called
use Rattle.tx_run.specs.declared.looking.LookAnswer.{LookAnswer}
use Rattle.tx_run.specs.declared.looking.LookAnswer.TheVariants as looked
use Rattle.cnvm_session.specs.declared.answer.Answer.{Answer}
use Rattle.cnvm_session.specs.declared.answer.Answer.TheVariants as answer
use Rattle.cnvm_session.specs.Outcomes.{answer_of_call, answer_of_look}
use Rattle.cnvm_session.proofs.Cases.{by_standing}
use Rattle.cnvm_session.proofs.Faults.{Counts, counts_all, counts_part, counts_failed, counts_same}

called_counts : (u : Bool) (r : CallAnswer) (p : Policy) (image : Image) (tx : ℕ) (args : List ℤ)
    (d b : Device) (k k1 : ℕ) → Called r p image tx args d b k k1 → Counts (answer_of_call u r) d b
called_counts u (called.Done v l) p image tx args d b k k1 h =
    counts_all _ d _ b (λ e. absurd cc) h.0.played
called_counts u (called.Trap t) p image tx args d b k k1 h =
    counts_all _ d _ b (λ e. absurd cc) h.1.played
called_counts u (called.Aborted t) p image tx args d b k k1 h =
    counts_all _ d _ b (λ e. absurd cc) h.1.played
called_counts u (called.Off q) p image tx args d b k k1 h =
    counts_part _ refusal.Off d _ b (λ e. absurd cc) h.0
called_counts u called.Failed p image tx args d b k k1 h = counts_failed _ d _ b h
called_counts u called.NoMemory p image tx args d b k k1 h =
    counts_part _ refusal.NoMemory d _ b (λ e. absurd cc) h
called_counts u (called.Unusable t) p image tx args d b k k1 h = absurd h
called_counts u called.Numbers p image tx args d b k k1 h = absurd h

pub call_counts : (u : Bool) (r : CallAnswer) (p : Policy) (image : Image) (tx : ℕ) (args : List ℤ)
    (d b : Device) (k k1 : ℕ) → IsTxCalled r p image tx args d b k k1
    → Counts (answer_of_call u r) d b
call_counts u r p image tx args d b k k1 h =
    by_standing (Counts (answer_of_call u r) d b) d
    (λ on is. called_counts u r p image tx args d b k k1 (h.ready on is))
    (λ kind on is. let same = h.unusable kind on is in
    counts_same (answer_of_call u) r (called.Unusable kind) d b same.0 (λ e. absurd cc) same.1)
    (λ on is. let same = h.numbers on is in
    counts_same (answer_of_call u) r called.Numbers d b same.0 (λ e. absurd cc) same.1)
    (λ off. let same = h.off off in
    counts_same (answer_of_call u) r (called.Off phase.Unsealed) d b same.0 (λ e. absurd cc) same.1)

never_failed : (u : Bool) (r : LookAnswer) → answer_of_look u r ≡ answer.DeviceFault → ⊥
never_failed u (looked.Done v) is = absurd cc
never_failed u (looked.Aborted t) is = absurd cc
never_failed u looked.Off is = absurd cc
never_failed u looked.NoMemory is = absurd cc

-- a look is never answered with a fault of the device
pub look_no_fault : (u : Bool) (r : LookAnswer) (a : Answer) → a ≡ answer_of_look u r
    → a ≡ answer.DeviceFault → ⊥
look_no_fault u r a is fault = never_failed u r (sym is ∙ fault)

-- so its device's count of faults did what any call's does
pub look_counts : (d b : Device) → b ≡ d → d.faults ≤ b.faults
look_counts d b same = same_rise d b same

pub look_rises : (a : Answer) (d b : Device) → (a ≡ answer.DeviceFault → ⊥)
    → a ≡ answer.DeviceFault → FaultsRose d.faults b.faults
look_rises a d b never fault = absurd (never fault)
