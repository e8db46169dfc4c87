-- Which event of a list is refused, for what cause, and the device after it.
use Rattle.std.specs.Prelude.{◌≡◌, ◌⊎◌, List, [], ◌∷◌}
use Rattle.cache_model.specs.Event.{CacheEvent, Flush, Fence}
use Rattle.pmem.specs.Device.{Device, FaultsRose, IsDown, IsUp, MayTakeEvent, MayFail}
use Rattle.pmem.specs.Device.{spent, off_of, failed_of}
use Rattle.pmem.specs.declared.answer.Refusal.{Refusal}
use Rattle.pmem.specs.declared.answer.Refusal.TheVariants.{Off, Failed, NoMemory}
use Rattle.pmem.specs.declared.answer.Event.{Event}
use Rattle.pmem.specs.declared.answer.Event.TheVariants as event
use Rattle.pmem.specs.declared.answer.StoreEvent.{StoreEvent}
use Rattle.pmem.specs.declared.answer.StoreEvent.TheVariants as stored
use Rattle.pmem.specs.declared.answer.LogAnswer.{LogAnswer}
use Rattle.pmem.specs.declared.answer.LogAnswer.TheVariants as log

-- An event is refused: with Off if the device is down; else perhaps with Failed, and the count of
-- faults rose; else perhaps for want of memory, which changes nothing. Want of memory may also be
-- the caller's own, so this case asks nothing of the device.
abbrev pub Refuses : Refusal → Device → Device → Type 0
Refuses Off d b = IsDown d × (b ≡ off_of d)
Refuses Failed d b = IsUp d × MayFail d.armed × FaultsRose d.faults b.faults
    × (b ≡ failed_of d b.faults)
Refuses NoMemory d b = b ≡ d

-- Only a store may find no memory.
abbrev pub MayWant : Refusal → CacheEvent → Type 0
MayWant NoMemory (Flush l) = ⊥
MayWant NoMemory Fence = ⊥
MayWant why e = Unit {0}

-- The event is refused for this cause.
abbrev pub RefusesEvent : Refusal → Device → CacheEvent → Device → Type 0
RefusesEvent why d e b = MayWant why e × Refuses why d b

-- All of the events are done.
abbrev pub PlaysAll : Device → List CacheEvent → Device → Type 0
PlaysAll d [] b = b ≡ d
PlaysAll d (e ∷ es) b = MayTakeEvent d × PlaysAll (spent d e) es b

-- Some first events of the list are done, perhaps none, and the next is refused for this cause.
abbrev pub PlaysPart : Refusal → Device → List CacheEvent → Device → Type 0
PlaysPart why d [] b = ⊥
PlaysPart why d (e ∷ es) b =
    RefusesEvent why d e b ⊎ (MayTakeEvent d × PlaysPart why (spent d e) es b)

-- Playing the list of events has this answer.
abbrev pub Played : LogAnswer → Device → List CacheEvent → Device → Type 0
Played log.Done d es b = PlaysAll d es b
Played log.Off d es b = PlaysPart Off d es b
Played log.Failed d es b = PlaysPart Failed d es b
Played log.NoMemory d es b = PlaysPart NoMemory d es b

-- A flush or a fence has this answer.
abbrev pub Answered : Event → Device → CacheEvent → Device → Type 0
Answered event.Done d e b = MayTakeEvent d × (b ≡ spent d e)
Answered event.Off d e b = Refuses Off d b
Answered event.Failed d e b = Refuses Failed d b

-- A store has this answer.
abbrev pub Stored : StoreEvent → Device → CacheEvent → Device → Type 0
Stored stored.Done d e b = MayTakeEvent d × (b ≡ spent d e)
Stored stored.Off d e b = Refuses Off d b
Stored stored.Failed d e b = Refuses Failed d b
Stored stored.NoMemory d e b = MayTakeEvent d × (b ≡ d)
