-- How a recovery is answered: by the mark, the numbers and the record that the pool holds, and then
-- by its due events.
use Rattle.std.specs.Prelude.{ℕ, ◌+◌, ◌≤◌, ◌≡◌, ◌≢◌, ◌⊎◌, Bool, true, false, List, ℤ, pos}
use Rattle.cache_model.specs.Event.{CacheEvent}
use Rattle.cache_model.specs.Cache.{Cache, view}
use Rattle.cache_model.specs.Play.{play}
use Rattle.pmem.specs.Device.{Device}
use Rattle.pmem.specs.Played.{PlaysAll, PlaysPart}
use Rattle.pmem.specs.declared.answer.Phase.TheVariants as phase
use Rattle.pmem.specs.declared.answer.Refusal.TheVariants as refusal
use Rattle.pool_layout.specs.declared.places.TheConstants.{MARK, FUNCTION}
use Rattle.pool_layout.specs.Image.{is_sealed}
use Rattle.clobber_log.specs.Logs.{attempt_in, count_in}
use Rattle.args_log.specs.Pending.{tx_number}
use Rattle.pm_machine.specs.declared.effect.End.{End}
use Rattle.pm_machine.specs.declared.effect.End.TheVariants.{Halted, Trapped}
use Rattle.pm_machine.specs.declared.records.Policy.{Policy}
use Rattle.pm_machine.specs.declared.records.Policy.TheVariants.{EndPool, RollBack}
use Rattle.pm_machine.specs.declared.image.Image.{Image}
use Rattle.pm_machine.specs.Machine.{start}
use Rattle.pm_machine.specs.Runs.{Due, end_of, due_on}
use Rattle.tx_run.specs.Due.{run_steps, most_steps}
use Rattle.tx_run.specs.Standing.{trap_of_mark}
use Rattle.tx_run.specs.Settled.{HasLogged}
use Rattle.recovery.specs.declared.answer.RecoverAnswer.{RecoverAnswer}
use Rattle.recovery.specs.declared.answer.RecoverAnswer.TheVariants.{Clean, Redone, Trap, Aborted}
use Rattle.recovery.specs.declared.answer.RecoverAnswer.TheVariants.{Off, Failed, Unusable}
use Rattle.recovery.specs.declared.answer.RecoverAnswer.TheVariants.{Numbers, NoMemory}
use Rattle.recovery.specs.Due.{due_clean, due_back, due_redo}
use Rattle.recovery.specs.Found.{has_numbers, names_tx, recorded}

-- on a device that is on, of a pool without a mark that isn't sealed, with these events
abbrev pub Cleaned : RecoverAnswer → Device → List CacheEvent → Device → Type 0
Cleaned Clean d es b = PlaysAll d es b
Cleaned (Off phase.Unsealed) d es b = PlaysPart refusal.Off d es b
Cleaned (Off phase.Sealing) d es b = ⊥
Cleaned (Off phase.Sealed) d es b = ⊥
Cleaned Failed d es b = PlaysPart refusal.Failed d es b
Cleaned NoMemory d es b = PlaysPart refusal.NoMemory d es b
Cleaned (Redone v l) d es b = ⊥
Cleaned (Trap t) d es b = ⊥
Cleaned (Aborted t) d es b = ⊥
Cleaned (Unusable t) d es b = ⊥
Cleaned Numbers d es b = ⊥

-- the cache after n valid records are restored
abbrev pub after_back : Image → (n : ℕ) → Cache → Cache
after_back image n c = play c (due_back image.parts.sizes n c)

-- the run of a sealed call with n valid records, on the cache after they are restored
abbrev pub redo_run : Policy → Image → (tx : ℕ) → List ℤ → (n : ℕ) → Device → Due
redo_run p image tx args n d = due_on p image (start image tx args) (after_back image n d.cache)

-- the steps of a recovery that is played to its end: one for each valid record, and those of the
-- call
abbrev pub redo_steps : Policy → Image → (tx : ℕ) → List ℤ → (n : ℕ) → Device → ℕ
redo_steps p image tx args n d =
    n + run_steps p image (start image tx args) (after_back image n d.cache)

-- how many records of the pool are valid
abbrev pub valid_in : Image → Device → ℕ
valid_in image d = count_in image.parts.sizes (view d.cache)

-- whether the pool has valid records and its attempts are at their end
abbrev pub numbers_out : Image → Device → Bool
numbers_out image d = has_numbers (valid_in image d) (attempt_in image.parts.sizes (view d.cache))

-- the transaction that the pool's record names, and its recorded arguments
abbrev pub tx_in : Device → ℕ
tx_in d = tx_number (view d.cache FUNCTION)

abbrev pub args_in : Image → Device → List ℤ
args_in image d = recorded image (tx_in d) (view d.cache)

-- the same for the call that the pool's record names, with its valid records
abbrev pub named_steps : Policy → Image → Device → ℕ
named_steps p image d = redo_steps p image (tx_in d) (args_in image d) (valid_in image d) d

-- The run came to this end, and all due events were played; the step counter rose from k to k1 by
-- the records and the steps after them.
pub record HasRedone (e : End) (p : Policy) (image : Image) (tx : ℕ) (args : List ℤ) (n : ℕ)
    (d b : Device) (k k1 : ℕ) : Type 0 where
  pub fate : end_of (redo_run p image tx args n d).fate ≡ e
  pub played : PlaysAll d (due_redo p image tx args n d.cache) b
  pub steps : k1 ≡ k + redo_steps p image tx args n d

-- the same of a pool that is sealed, for this call and n valid records
abbrev pub Redid : RecoverAnswer → Policy → Image → (tx : ℕ) → List ℤ → (n : ℕ) → (d b : Device)
    → (k k1 : ℕ) → Type 0
Redid (Redone v l) p image tx args n d b k k1 = HasRedone (Halted v) p image tx args n d b k k1
    × HasLogged l p image (start image tx args) (after_back image n d.cache)
Redid (Trap t) p image tx args n d b k k1 =
    (p ≡ EndPool) × HasRedone (Trapped t) p image tx args n d b k k1
Redid (Aborted t) p image tx args n d b k k1 =
    (p ≡ RollBack) × HasRedone (Trapped t) p image tx args n d b k k1
Redid (Off phase.Sealed) p image tx args n d b k k1 =
    PlaysPart refusal.Off d (due_redo p image tx args n d.cache) b
Redid (Off phase.Unsealed) p image tx args n d b k k1 = ⊥
Redid (Off phase.Sealing) p image tx args n d b k k1 = ⊥
Redid Failed p image tx args n d b k k1 =
    PlaysPart refusal.Failed d (due_redo p image tx args n d.cache) b
Redid NoMemory p image tx args n d b k k1 =
    ((b ≡ d) × (k1 ≡ k)) ⊎ PlaysPart refusal.NoMemory d (due_redo p image tx args n d.cache) b
Redid Clean p image tx args n d b k k1 = ⊥
Redid (Unusable t) p image tx args n d b k k1 = ⊥
Redid Numbers p image tx args n d b k k1 = ⊥

-- A recovery over device d was answered by r; b is the device after it, and the counter rose from k
-- to k1. A pool that can't be recovered and a device that is off are left as they are, without a
-- step. It takes no step where nothing was sealed, and else at most one for each valid record and
-- those of the call.
pub record IsRecovered (r : RecoverAnswer) (p : Policy) (image : Image) (d b : Device) (k k1 : ℕ) :
    Type 0 where
  pub unusable : d.on ≡ true → view d.cache MARK ≢ pos 0 →
      (r ≡ Unusable (trap_of_mark (view d.cache MARK))) × (b ≡ d) × (k1 ≡ k)
  pub numbers : d.on ≡ true → view d.cache MARK ≡ pos 0 → numbers_out image d ≡ true →
      (r ≡ Numbers) × (b ≡ d) × (k1 ≡ k)
  pub clean : d.on ≡ true → view d.cache MARK ≡ pos 0 → numbers_out image d ≡ false →
      is_sealed (view d.cache) ≡ false →
      Cleaned r d (due_clean image.parts.sizes (valid_in image d) d.cache) b
  pub redid : d.on ≡ true → view d.cache MARK ≡ pos 0 → numbers_out image d ≡ false →
      is_sealed (view d.cache) ≡ true → names_tx image (tx_in d) ≡ true →
      Redid r p image (tx_in d) (args_in image d) (valid_in image d) d b k k1
  pub unnamed : d.on ≡ true → view d.cache MARK ≡ pos 0 → numbers_out image d ≡ false →
      is_sealed (view d.cache) ≡ true → names_tx image (tx_in d) ≡ false →
      (r ≡ Numbers) × (b ≡ d) × (k1 ≡ k)
  pub off : d.on ≡ false → (r ≡ Off phase.Unsealed) × (b ≡ d) × (k1 ≡ k)
  pub idle : is_sealed (view d.cache) ≡ false → k1 ≡ k
  pub bound : k1 ≤ k + named_steps p image d
  pub most : k1 ≤ k + image.parts.sizes.records + most_steps p image
