-- What a recovery finds in a pool: its mark, its valid records and the content of its argument
-- record.
use Rattle.std.specs.Prelude.{ℕ, ◌-◌, ◌^◌, ◌≡◌, ◌≢◌, ◌⊎◌, Bool, true, false, ◌&&◌}
use Rattle.std.specs.Prelude.{nat_le, nat_lt, min, List, length, slice_get, Option, Some}
use Rattle.std.specs.Prelude.{None, ℤ, pos}
use Rattle.cache_model.specs.Cache.{Words}
use Rattle.pool_layout.specs.declared.places.TheConstants.{MARK, FUNCTION, ARGUMENTS}
use Rattle.pool_layout.specs.declared.places.TheConstants.{FIRST_ARGUMENT}
use Rattle.pool_layout.specs.Image.{is_sealed}
use Rattle.pm_machine.specs.HeapPool.{words_from}
use Rattle.clobber_log.specs.Logs.{attempt_in, count_in}
use Rattle.args_log.specs.Pending.{tx_number, HoldsArguments}
use Rattle.pm_machine.specs.declared.image.Image.{Image}
use Rattle.pm_machine.specs.declared.op.TxEntry.{TxEntry}
use Rattle.tx_run.specs.Standing.{trap_of_mark}
use Rattle.recovery.specs.declared.looking.Found.{Found}
use Rattle.recovery.specs.declared.looking.Found.TheVariants.{Off, Unusable, Numbers, Unsealed}
use Rattle.recovery.specs.declared.looking.Found.TheVariants.{Sealed}

-- there are valid records, and the attempt isn't below 2^62, so no attempt can follow
abbrev pub has_numbers : (count attempt : ℕ) → Bool
has_numbers count attempt = nat_lt 0 count && nat_le (2 ^ 62) attempt

-- the record names a transaction of the image
abbrev pub names_tx : Image → ℕ → Bool
names_tx image tx = nat_le 1 tx && nat_le tx (length image.parts.txs)

-- a pool without a mark, whose valid records can be restored
pub record IsOpen (image : Image) (count : ℕ) (w : Words) : Type 0 where
  pub mark : w MARK ≡ pos 0
  pub count_is : count ≡ count_in image.parts.sizes w
  pub numbers : has_numbers count (attempt_in image.parts.sizes w) ≡ false

-- What a recovery finds in a pool of these words, on a device that is on.
abbrev pub Finds : Found → Image → Words → Type 0
Finds Off image w = ⊥
Finds (Unusable kind) image w = (w MARK ≢ pos 0) × (kind ≡ trap_of_mark (w MARK))
Finds Numbers image w = (w MARK ≡ pos 0)
    × ((has_numbers (count_in image.parts.sizes w) (attempt_in image.parts.sizes w) ≡ true)
    ⊎ ((is_sealed w ≡ true) × (names_tx image (tx_number (w FUNCTION)) ≡ false)))
Finds (Unsealed n) image w = IsOpen image n w × (is_sealed w ≡ false)
Finds (Sealed tx args n) image w = IsOpen image n w × (is_sealed w ≡ true)
    × (tx ≡ tx_number (w FUNCTION)) × (names_tx image tx ≡ true) × HoldsArguments w args

-- the number of argument words that a transaction's entry takes, of those that a record has
abbrev pub entry_words : Option TxEntry → ℕ
entry_words None = 0
entry_words (Some entry) = min entry.parameters ARGUMENTS

-- the arguments that a pool's record holds for a transaction
abbrev pub recorded : Image → (tx : ℕ) → Words → List ℤ
recorded image tx w = words_from w FIRST_ARGUMENT (entry_words (slice_get image.parts.txs (tx - 1)))
