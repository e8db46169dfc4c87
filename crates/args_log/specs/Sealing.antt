-- The answer of a seal on a device that is on: how its events were played, and when the power went.
-- The phase is Sealing exactly if the store of the seal was done.
use Rattle.std.specs.Prelude.{ℤ, List}
use Rattle.pmem.specs.Device.{Device}
use Rattle.pmem.specs.Played.{PlaysAll, PlaysPart}
use Rattle.pmem.specs.declared.answer.Phase.TheVariants as phase
use Rattle.pmem.specs.declared.answer.Refusal.TheVariants as refusal
use Rattle.args_log.specs.declared.sealing.SealAnswer.{SealAnswer}
use Rattle.args_log.specs.declared.sealing.SealAnswer.TheVariants.{Done, Off, Failed, NoMemory}
use Rattle.args_log.specs.Seal.{unsealed_events, sealing_events, seal_events}

-- the store of the seal was done, and the power went after it
pub record WentAfter (d : Device) (f : ℤ) (args : List ℤ) (k : ℤ) (b : Device) : Type 0 where
  pub at_seal : Device
  pub stored : PlaysAll d (unsealed_events f args k) at_seal
  pub went : PlaysPart refusal.Off at_seal sealing_events b

abbrev pub Seals : SealAnswer → Device → (function : ℤ) → (args : List ℤ) → (number : ℤ)
    → Device → Type 0
Seals Done d f args k b = PlaysAll d (seal_events f args k) b
Seals (Off phase.Unsealed) d f args k b = PlaysPart refusal.Off d (unsealed_events f args k) b
Seals (Off phase.Sealing) d f args k b = WentAfter d f args k b
Seals (Off phase.Sealed) d f args k b = ⊥
Seals Failed d f args k b = PlaysPart refusal.Failed d (seal_events f args k) b
Seals NoMemory d f args k b = PlaysPart refusal.NoMemory d (seal_events f args k) b
