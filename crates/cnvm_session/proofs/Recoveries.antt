-- The count of faults in a recovery.
use Rattle.std.proofs.Common.{ℕ, Bool, ⊎_elim, List, [], ℤ}
use Rattle.cache_model.specs.Event.{CacheEvent}
use Rattle.cache_model.specs.Cache.{view}
use Rattle.pmem.specs.Device.{Device}
use Rattle.pmem.specs.declared.answer.Phase.TheVariants as phase
use Rattle.pmem.specs.declared.answer.Refusal.TheVariants as refusal
use Rattle.pool_layout.specs.declared.places.TheConstants.{MARK}
use Rattle.pm_machine.specs.declared.records.Policy.{Policy}
use Rattle.pm_machine.specs.declared.image.Image.{Image}
use Rattle.tx_run.specs.Standing.{trap_of_mark}
use Rattle.recovery.specs.Recovered.{Cleaned, Redid, IsRecovered}
use Rattle.recovery.specs.declared.answer.RecoverAnswer.{RecoverAnswer}
use Rattle.recovery.specs.declared.answer.RecoverAnswer.TheVariants as recovered
use Rattle.cnvm_session.specs.Outcomes.{answer_of_recovery}
use Rattle.cnvm_session.proofs.Cases.{by_found}
use Rattle.cnvm_session.proofs.Faults.{Counts, counts_all, counts_part, counts_failed, counts_same}

cleaned_counts : (u : Bool) (r : RecoverAnswer) (d : Device) (es : List CacheEvent) (b : Device)
    → Cleaned r d es b → Counts (answer_of_recovery u r) d b
cleaned_counts u recovered.Clean d es b h = counts_all _ d es b (λ e. absurd cc) h
cleaned_counts u (recovered.Off phase.Unsealed) d es b h =
    counts_part _ refusal.Off d es b (λ e. absurd cc) h
cleaned_counts u (recovered.Off phase.Sealing) d es b h = absurd h
cleaned_counts u (recovered.Off phase.Sealed) d es b h = absurd h
cleaned_counts u recovered.Failed d es b h = counts_failed _ d es b h
cleaned_counts u recovered.NoMemory d es b h =
    counts_part _ refusal.NoMemory d es b (λ e. absurd cc) h
cleaned_counts u (recovered.Redone v l) d es b h = absurd h
cleaned_counts u (recovered.Trap t) d es b h = absurd h
cleaned_counts u (recovered.Aborted t) d es b h = absurd h
cleaned_counts u (recovered.Unusable t) d es b h = absurd h
cleaned_counts u recovered.Numbers d es b h = absurd h

redid_counts : (u : Bool) (r : RecoverAnswer) (p : Policy) (image : Image) (tx : ℕ) (args : List ℤ)
    (n : ℕ) (d b : Device) (k k1 : ℕ) → Redid r p image tx args n d b k k1
    → Counts (answer_of_recovery u r) d b
redid_counts u (recovered.Redone v l) p image tx args n d b k k1 h =
    counts_all _ d _ b (λ e. absurd cc) h.0.played
redid_counts u (recovered.Trap t) p image tx args n d b k k1 h =
    counts_all _ d _ b (λ e. absurd cc) h.1.played
redid_counts u (recovered.Aborted t) p image tx args n d b k k1 h =
    counts_all _ d _ b (λ e. absurd cc) h.1.played
redid_counts u (recovered.Off phase.Sealed) p image tx args n d b k k1 h =
    counts_part _ refusal.Off d _ b (λ e. absurd cc) h
redid_counts u (recovered.Off phase.Unsealed) p image tx args n d b k k1 h = absurd h
redid_counts u (recovered.Off phase.Sealing) p image tx args n d b k k1 h = absurd h
redid_counts u recovered.Failed p image tx args n d b k k1 h = counts_failed _ d _ b h
redid_counts u recovered.NoMemory p image tx args n d b k k1 h =
    ⊎_elim (λ same. counts_all _ d [] b (λ e. absurd cc) same.0)
    (λ part. counts_part _ refusal.NoMemory d _ b (λ e. absurd cc) part) h
redid_counts u recovered.Clean p image tx args n d b k k1 h = absurd h
redid_counts u (recovered.Unusable t) p image tx args n d b k k1 h = absurd h
redid_counts u recovered.Numbers p image tx args n d b k k1 h = absurd h

pub recovery_counts : (u : Bool) (r : RecoverAnswer) (p : Policy) (image : Image) (d b : Device)
    (k k1 : ℕ) → IsRecovered r p image d b k k1 → Counts (answer_of_recovery u r) d b
recovery_counts u r p image d b k k1 h =
    by_found (Counts (answer_of_recovery u r) d b) image d
    (λ on mark. let same = h.unusable on mark in
    counts_same (answer_of_recovery u) r (recovered.Unusable (trap_of_mark (view d.cache MARK))) d b
    same.0 (λ e. absurd cc) same.1)
    (λ on mark out. let same = h.numbers on mark out in
    counts_same (answer_of_recovery u) r recovered.Numbers d b same.0 (λ e. absurd cc) same.1)
    (λ on mark fit unsealed. cleaned_counts u r d _ b (h.clean on mark fit unsealed))
    (λ on mark fit sealed named. redid_counts u r p image _ _ _ d b k k1
    (h.redid on mark fit sealed named))
    (λ on mark fit sealed unnamed. let same = h.unnamed on mark fit sealed unnamed in
    counts_same (answer_of_recovery u) r recovered.Numbers d b same.0 (λ e. absurd cc) same.1)
    (λ off. let same = h.off off in
    counts_same (answer_of_recovery u) r (recovered.Off phase.Unsealed) d b same.0 (λ e. absurd cc)
    same.1)
