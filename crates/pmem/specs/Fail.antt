-- A device in memory that fails at one chosen event, besides the armed one. It doesn't show its
-- armed fault. Its events are numbered from 0 since it was made; an event that answers Off or finds
-- no memory gets no number. The number stays at its last value once it has reached it.
use Rattle.std.specs.Prelude.{ℕ, ◌+◌, ◌-◌, ◌^◌, ◌≡◌, ◌≢◌, ◌⊎◌, min, Some}
use Rattle.cache_model.specs.Event.{CacheEvent}
use Rattle.cache_model.specs.Lists.{memory_from}
use Rattle.pmem.specs.Device.{Device, FaultsRose, IsDown, IsUp, MayTakeEvent, spent, off_of}
use Rattle.pmem.specs.Switch.{told_device, untold, disarmed}
use Rattle.pmem.specs.declared.answer.Event.{Event}
use Rattle.pmem.specs.declared.answer.Event.TheVariants as event
use Rattle.pmem.specs.declared.answer.StoreEvent.{StoreEvent}
use Rattle.pmem.specs.declared.answer.StoreEvent.TheVariants as stored
use Rattle.pmem.specs.declared.fail.FailPmem.{FailPmem}

-- the device as it shows itself
abbrev pub fail_device : FailPmem → Device
fail_device p = untold (memory_from p.cache) p.switch

-- the same device with its armed fault visible
abbrev pub fail_inside : FailPmem → Device
fail_inside p = told_device (memory_from p.cache) p.switch

abbrev pub next_number : ℕ → ℕ
next_number n = min (n + 1) (2 ^ 64 - 1)

-- The event with that number is done: it isn't the chosen one, and no fault is armed for it.
abbrev pub EventIsDone : FailPmem → CacheEvent → FailPmem → Type 0
EventIsDone p e q = (p.number ≢ p.at) × MayTakeEvent (fail_inside p)
    × (fail_inside q ≡ spent (fail_inside p) e) × (q.number ≡ next_number p.number) × (q.at ≡ p.at)

-- The device is off: the event gets no number.
abbrev pub IsOff : FailPmem → FailPmem → Type 0
IsOff p q = IsDown (fail_inside p) × (fail_inside q ≡ off_of (fail_inside p))
    × (q.number ≡ p.number) × (q.at ≡ p.at)

-- The event failed: it is the chosen one, or a fault was armed for it, which is then spent.
abbrev pub IsFailed : FailPmem → FailPmem → Type 0
IsFailed p q =
    IsUp (fail_inside p) × ((p.number ≡ p.at) ⊎ (p.switch.armed ≡ Some 0))
    × FaultsRose p.switch.faults q.switch.faults
    × (fail_inside q ≡ told_device (memory_from p.cache)
    (record {
      on = p.switch.on;
      left = p.switch.left;
      armed = disarmed p.switch.armed;
      faults = q.switch.faults;
    }))
    × (q.number ≡ next_number p.number) × (q.at ≡ p.at)

abbrev pub FailAnswered : Event → FailPmem → CacheEvent → FailPmem → Type 0
FailAnswered event.Done p e q = EventIsDone p e q
FailAnswered event.Off p e q = IsOff p q
FailAnswered event.Failed p e q = IsFailed p q

abbrev pub FailStored : StoreEvent → FailPmem → CacheEvent → FailPmem → Type 0
FailStored stored.Done p e q = EventIsDone p e q
FailStored stored.Off p e q = IsOff p q
FailStored stored.Failed p e q = IsFailed p q
FailStored stored.NoMemory p e q = (p.number ≢ p.at) × MayTakeEvent (fail_inside p)
    × (fail_inside q ≡ fail_inside p) × (q.number ≡ p.number) × (q.at ≡ p.at)
