-- The answer for the record of a device that is on.
use Rattle.std.specs.Prelude.{◌≡◌, true, false}
use Rattle.cache_model.specs.Cache.{Words}
use Rattle.pool_layout.specs.declared.places.TheConstants.{FUNCTION}
use Rattle.pool_layout.specs.Image.{is_sealed}
use Rattle.args_log.specs.declared.reading.PendingAnswer.{PendingAnswer}
use Rattle.args_log.specs.declared.reading.PendingAnswer.TheVariants.{Nothing, Sealed, Off}
use Rattle.args_log.specs.Pending.{tx_number, HoldsArguments}

abbrev pub Reads : PendingAnswer → Words → Type 0
Reads Nothing image = is_sealed image ≡ false
Reads (Sealed tx args) image = (is_sealed image ≡ true) × (tx ≡ tx_number (image FUNCTION))
    × HoldsArguments image args
Reads Off image = ⊥
