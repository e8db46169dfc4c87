-- What is known of a device after a list of events: how many were done, which one was refused, and
-- the device now. The cases exclude each other. So if the device is on and memory doesn't run
-- short, the number of events left and the fault countdown decide the answer: all events are done
-- exactly if both numbers, as far as they exist, are at least the length of the list; Off comes
-- exactly if fewer events are left and the countdown isn't below that number; else Failed comes.
use Rattle.std.specs.Prelude.{ℕ, ◌-◌, ◌<◌, ◌≤◌, ◌≡◌, true, false, Option, Some, None, List, []}
use Rattle.std.specs.Prelude.{◌++◌, length, take}
use Rattle.cache_model.specs.Event.{CacheEvent}
use Rattle.cache_model.specs.Play.{play}
use Rattle.pmem.specs.Device.{Device, FaultsRose}
use Rattle.pmem.specs.Played.{PlaysAll, PlaysPart}
use Rattle.pmem.specs.declared.answer.Refusal.{Refusal}
use Rattle.pmem.specs.declared.answer.Refusal.TheVariants.{Off, Failed, NoMemory}

-- All events were done.
pub record AllDone (d : Device) (es : List CacheEvent) (b : Device) : Type 0 where
  pub lines : b.lines ≡ d.lines
  pub cache : b.cache ≡ play d.cache es
  pub on : b.on ≡ d.on
  pub faults : b.faults ≡ d.faults
  pub left : (n : ℕ) → d.left ≡ Some n → (length es ≤ n) × (b.left ≡ Some (n - length es))
  pub endless : d.left ≡ None → b.left ≡ None
  pub armed : (i : ℕ) → d.armed ≡ Some (Some i) → (length es ≤ i)
      × (b.armed ≡ Some (Some (i - length es)))
  pub unarmed : d.armed ≡ Some None → b.armed ≡ Some None
  pub untold : d.armed ≡ None → b.armed ≡ None

-- The power went at event n, counted from 0: n events were left, and no fault was armed for an
-- earlier one.
pub record WentOff (d : Device) (es : List CacheEvent) (b : Device) : Type 0 where
  pub n : ℕ
  pub left : d.left ≡ Some n
  pub fewer : n < length es
  pub armed : (i : ℕ) → d.armed ≡ Some (Some i) → n ≤ i
  pub cache : b.cache ≡ play d.cache (take n es)
  pub lines : b.lines ≡ d.lines
  pub off : b.on ≡ false
  pub none : b.left ≡ None
  pub faults : b.faults ≡ d.faults

-- Event n failed, counted from 0: more than n events were left, the count of faults rose, and a
-- visible fault countdown was n.
pub record HasFailed (d : Device) (es : List CacheEvent) (b : Device) : Type 0 where
  pub n : ℕ
  pub fewer : n < length es
  pub more : (k : ℕ) → d.left ≡ Some k → (n < k) × (b.left ≡ Some (k - n))
  pub endless : d.left ≡ None → b.left ≡ None
  pub armed : (a : Option ℕ) → d.armed ≡ Some a → (a ≡ Some n) × (b.armed ≡ Some None)
  pub untold : d.armed ≡ None → b.armed ≡ None
  pub cache : b.cache ≡ play d.cache (take n es)
  pub lines : b.lines ≡ d.lines
  pub was_on : d.on ≡ true
  pub on : b.on ≡ true
  pub rose : FaultsRose d.faults b.faults

-- Memory ran short before event n: the events before it are done, and nothing else has changed.
pub record WasShort (d : Device) (es : List CacheEvent) (b : Device) : Type 0 where
  pub n : ℕ
  pub fewer : n < length es
  pub done : PlaysAll d (take n es) b

abbrev pub AllLaw : Type 0
AllLaw = (d b : Device) (es : List CacheEvent) → PlaysAll d es b → AllDone d es b

abbrev pub OffLaw : Type 0
OffLaw = (d b : Device) (es : List CacheEvent) → PlaysPart Off d es b → d.on ≡ true → WentOff d es b

abbrev pub FailedLaw : Type 0
FailedLaw = (d b : Device) (es : List CacheEvent) → PlaysPart Failed d es b → HasFailed d es b

abbrev pub MemoryLaw : Type 0
MemoryLaw = (d b : Device) (es : List CacheEvent) → PlaysPart NoMemory d es b → WasShort d es b

-- A device that is off does no event: it refuses the first one with Off, or memory runs short
-- before it, and its lines stay.
abbrev pub DownLaw : Type 0
DownLaw =
    (d b : Device) (es : List CacheEvent) → d.on ≡ false →
    (PlaysAll d es b → (es ≡ []) × (b ≡ d))
    × (PlaysPart Off d es b → (b.cache ≡ d.cache) × (b.on ≡ false))
    × (PlaysPart Failed d es b → ⊥)
    × (PlaysPart NoMemory d es b → b ≡ d)

-- Two lists of events in a row: all of both, or a part of the first, or all of the first and a part
-- of the next.
abbrev pub GlueLaw : Type 0
GlueLaw =
    (es fs : List CacheEvent) (d b c : Device) →
    (PlaysAll d es b → PlaysAll b fs c → PlaysAll d (es ++ fs) c)
    × ((why : Refusal) → PlaysPart why d es c → PlaysPart why d (es ++ fs) c)
    × ((why : Refusal) → PlaysAll d es b → PlaysPart why b fs c → PlaysPart why d (es ++ fs) c)
