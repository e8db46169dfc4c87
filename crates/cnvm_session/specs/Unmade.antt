-- What is left of a pool that couldn't be made.
use Rattle.std.specs.Prelude.{ℕ, List, ◌≡◌, ◌⊎◌}
use Rattle.cache_model.specs.Event.{CacheEvent}
use Rattle.pmem.specs.Device.{Device, blanked}
use Rattle.pmem.specs.Played.{PlaysPart}
use Rattle.pmem.specs.declared.answer.Refusal.{Refusal}
use Rattle.pmem.specs.declared.answer.Refusal.TheVariants as refusal
use Rattle.cnvm_session.specs.declared.creating.StartFault.{StartFault}
use Rattle.cnvm_session.specs.declared.creating.StartFault.TheVariants as fault

abbrev pub cause_of : StartFault → Refusal
cause_of fault.Failed = refusal.Failed
cause_of fault.NoMemory = refusal.NoMemory

-- There was no memory for the lines, and nothing has changed; or the lines are blank, some first of
-- these events are done, perhaps none, and the next one was refused for this cause.
abbrev pub IsUnmade : StartFault → (lines : ℕ) → List CacheEvent → Device → Device → Type 0
IsUnmade why lines events d b =
    ((why ≡ fault.NoMemory) × (b ≡ d)) ⊎ PlaysPart (cause_of why) (blanked lines d) events b
