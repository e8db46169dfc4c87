-- A device in memory without its lines: the switch and its counters. It shows the number of its
-- armed fault.
use Rattle.std.specs.Prelude.{ℕ, ◌==◌, ◌≡◌, ◌≢◌, ◌⊎◌, cond, Bool, true, false, Option, Some, None}
use Rattle.cache_model.specs.Cache.{Memory}
use Rattle.pmem.specs.Device.{Device, less_one, FaultsRose}
use Rattle.pmem.specs.declared.answer.Event.{Event}
use Rattle.pmem.specs.declared.answer.Event.TheVariants.{Done, Off, Failed}
use Rattle.pmem.specs.declared.switch.Switch.{Switch}

-- the device with these lines that shows its armed fault, and the one that doesn't
abbrev pub told_device : Memory → Switch → Device
told_device m s = record {
  lines = m.lines;
  cache = m.cache;
  on = s.on;
  left = s.left;
  armed = Some s.armed;
  faults = s.faults;
}

abbrev pub untold : Memory → Switch → Device
untold m s = record {
  lines = m.lines;
  cache = m.cache;
  on = s.on;
  left = s.left;
  armed = None;
  faults = s.faults;
}

-- on, with nothing armed, and n faults counted
abbrev pub fresh_switch : ℕ → Switch
fresh_switch n = record { on = true; left = None; armed = None; faults = n }

-- a fault that is armed for now is spent
abbrev pub disarmed : Option ℕ → Option ℕ
disarmed None = None
disarmed (Some k) = cond (k == 0) None (Some k)

-- the device after an event that was done
abbrev pub spent_switch : Switch → Switch
spent_switch s = record {
  on = s.on;
  left = less_one s.left;
  armed = less_one s.armed;
  faults = s.faults;
}

-- A fault: the count rose, and a fault that was armed for now is spent.
abbrev pub Fails : Switch → Switch → Type 0
Fails s t = FaultsRose s.faults t.faults
    × (t ≡ record { on = s.on; left = s.left; armed = disarmed s.armed; faults = t.faults })

-- The next event goes on, or is refused. A fault comes exactly if one is armed for now, or is due
-- for another cause.
abbrev pub Gate : Bool → Event → Switch → Switch → Type 0
Gate due Done s t = (s.on ≡ true) × (s.left ≢ Some 0) × (s.armed ≢ Some 0) × (due ≡ false) × (t ≡ s)
Gate due Off s t = ((s.on ≡ false) ⊎ (s.left ≡ Some 0))
    × (t ≡ record { on = false; left = None; armed = s.armed; faults = s.faults })
Gate due Failed s t = (s.on ≡ true) × (s.left ≢ Some 0) × ((s.armed ≡ Some 0) ⊎ (due ≡ true))
    × Fails s t
