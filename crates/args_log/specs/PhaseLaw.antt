-- The phase that a seal answers is that of its line: if no version of line 5 has seal k before,
-- then it is unsealed, sealing or sealed after the events that were done.
use Rattle.std.specs.Prelude.{◌≤◌, ◌≡◌, ◌≢◌, ℤ, List, length}
use Rattle.cache_model.specs.Cache.{Words, Line}
use Rattle.cache_model.specs.Image.{IsVersion}
use Rattle.pmem.specs.Device.{Device}
use Rattle.pmem.specs.Played.{PlaysAll, PlaysPart}
use Rattle.pmem.specs.declared.answer.Phase.TheVariants.{Unsealed, Sealing, Sealed}
use Rattle.pmem.specs.declared.answer.Refusal.TheVariants.{Off}
use Rattle.pool_layout.specs.declared.places.TheConstants.{SEAL, ARGUMENTS}
use Rattle.args_log.specs.Seal.{unsealed_events, seal_events}
use Rattle.args_log.specs.Sealing.{WentAfter}
use Rattle.args_log.specs.Phase.{phase_of}

abbrev pub LacksSeal : ℤ → Line → Type 0
LacksSeal k l = (v : Words) → IsVersion l v → v SEAL ≢ k

abbrev pub UnsealedLaw : Type 0
UnsealedLaw = (d b : Device) (f : ℤ) (args : List ℤ) (k : ℤ) → length args ≤ ARGUMENTS
    → LacksSeal k (d.cache 5)
    → PlaysPart Off d (unsealed_events f args k) b → phase_of (b.cache 5) k ≡ Unsealed

abbrev pub SealingLaw : Type 0
SealingLaw = (d b : Device) (f : ℤ) (args : List ℤ) (k : ℤ) → length args ≤ ARGUMENTS
    → LacksSeal k (d.cache 5)
    → WentAfter d f args k b → phase_of (b.cache 5) k ≡ Sealing

abbrev pub SealPhaseLaw : Type 0
SealPhaseLaw = (d b : Device) (f : ℤ) (args : List ℤ) (k : ℤ) → length args ≤ ARGUMENTS
    → LacksSeal k (d.cache 5)
    → PlaysAll d (seal_events f args k) b → phase_of (b.cache 5) k ≡ Sealed
