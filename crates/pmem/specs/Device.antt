-- A device of persistent memory: its lines, its cache and its switch; how many events are left; at
-- which event a fault is armed; and a count of faults, which never wraps.
use Rattle.std.specs.Prelude.{ℕ, ◌-◌, ◌^◌, ◌<◌, ◌≡◌, ◌≢◌, ◌⊎◌, Bool, true, false, Option, Some}
use Rattle.std.specs.Prelude.{None}
use Rattle.cache_model.specs.Event.{CacheEvent}
use Rattle.cache_model.specs.Cache.{Cache, Memory, blank}
use Rattle.cache_model.specs.Play.{apply}
use Rattle.cache_model.specs.Collapse.{left_cache}
use Rattle.cache_model.specs.declared.choice.Choice.{Choice}

pub record Device : Type 0 where
  pub lines : ℕ
  pub cache : Cache
  pub on : Bool
  pub left : Option ℕ
  pub armed : Option (Option ℕ)
  pub faults : ℕ

abbrev pub memory_of : Device → Memory
memory_of d = record { lines = d.lines; cache = d.cache }

-- one less, if there is a number
abbrev pub less_one : Option ℕ → Option ℕ
less_one None = None
less_one (Some n) = Some (n - 1)

-- the visible fault countdown after an event
abbrev pub armed_less : Option (Option ℕ) → Option (Option ℕ)
armed_less None = None
armed_less (Some k) = Some (less_one k)

-- the visible fault countdown after a fault is armed or cleared
abbrev pub armed_as : Option ℕ → Option (Option ℕ) → Option (Option ℕ)
armed_as k None = None
armed_as k (Some _) = Some k

-- The count rose, or is at its last value.
abbrev pub FaultsRose : ℕ → ℕ → Type 0
FaultsRose a b = (a < b) ⊎ ((a ≡ b) × (b ≡ 2 ^ 64 - 1))

-- The next event is refused: the device is off, or no event is left.
abbrev pub IsDown : Device → Type 0
IsDown d = (d.on ≡ false) ⊎ (d.left ≡ Some 0)

abbrev pub IsUp : Device → Type 0
IsUp d = (d.on ≡ true) × (d.left ≢ Some 0)

-- If the device shows its fault countdown, a fault comes exactly when that is 0; otherwise a fault
-- may always come.
abbrev pub MayFail : Option (Option ℕ) → Type 0
MayFail None = Unit {0}
MayFail (Some k) = k ≡ Some 0

abbrev pub MayGo : Option (Option ℕ) → Type 0
MayGo None = Unit {0}
MayGo (Some k) = k ≢ Some 0

-- the device can take one more event, and isn't bound to fail at it
abbrev pub MayTakeEvent : Device → Type 0
MayTakeEvent d = IsUp d × MayGo d.armed

-- the device after an event that was done
abbrev pub spent : Device → CacheEvent → Device
spent d e = record {
  lines = d.lines;
  cache = apply d.cache e;
  on = d.on;
  left = less_one d.left;
  armed = armed_less d.armed;
  faults = d.faults;
}

-- the device after an event that found it off, or none left: it is off, and no number of events is
-- left
abbrev pub off_of : Device → Device
off_of d = record {
  lines = d.lines;
  cache = d.cache;
  on = false;
  left = None;
  armed = d.armed;
  faults = d.faults;
}

-- the device after an event that failed, with the new count of faults: nothing is armed any more
abbrev pub failed_of : Device → ℕ → Device
failed_of d n = record {
  lines = d.lines;
  cache = d.cache;
  on = d.on;
  left = d.left;
  armed = armed_as None d.armed;
  faults = n;
}

-- the device with blank lines, switched on, with nothing armed
abbrev pub blanked : ℕ → Device → Device
blanked n d = record {
  lines = n;
  cache = blank;
  on = true;
  left = None;
  armed = armed_as None d.armed;
  faults = d.faults;
}

-- the device after a power cut: its lines are those that the choice leaves, and it is on
abbrev pub powered : Choice → Device → Device
powered choice d = record {
  lines = d.lines;
  cache = left_cache d.cache choice.rest choice.picks;
  on = true;
  left = d.left;
  armed = d.armed;
  faults = d.faults;
}

-- the device with k events left until the power goes
abbrev pub with_left : ℕ → Device → Device
with_left k d = record {
  lines = d.lines;
  cache = d.cache;
  on = d.on;
  left = Some k;
  armed = d.armed;
  faults = d.faults;
}

-- the device with a fault armed after k events, if it shows this
abbrev pub with_armed : ℕ → Device → Device
with_armed k d = record {
  lines = d.lines;
  cache = d.cache;
  on = d.on;
  left = d.left;
  armed = armed_as (Some k) d.armed;
  faults = d.faults;
}
