-- How the program ends. Files and standard output tell no bytes, so the clause of the top call
-- holds of some bytes of the program, its former text, the script and the image.
use Rattle.std.specs.Prelude.{ℕ, List, None, ◌≡◌}
use Rattle.cache_model.specs.Cache.{blank}
use Rattle.pmem.specs.Device.{Device}
use Rattle.pmem.specs.Switch.{told_device, fresh_switch}
use Rattle.cnvm_words.specs.Asked.{plan_of}
use Rattle.session_run.specs.declared.status.Status.{Status}
use Rattle.cnvm_cli.specs.Meant.{CallMeant}
use Rattle.session_run.specs.StatusNumber.{status_number}
use Rattle.cnvm_cli.specs.World.{Sources, seen}

abbrev pub no_sources : Sources
no_sources =
    record { program = None; former = None; script = None; image = None; rest = None }

-- a new device in memory: it has no lines and shows its armed fault, of which there is none
abbrev pub new_device : Device
new_device = told_device (record { lines = 0; cache = blank }) (fresh_switch 0)

-- a call on these words, on files and on a new device ends so
abbrev pub EndsCall : List (List ℕ) → Status → Type 0
EndsCall words result =
    (d : Device) × (k : ℕ)
    × CallMeant (plan_of words) no_sources result (seen None None new_device 0) (seen None None d k)

-- the exit status is the number of the status with which a call on some words ends
abbrev pub Exits : ℕ → Type 0
Exits number = (words : List (List ℕ)) × (status : Status) × EndsCall words status
    × (number ≡ status_number status)
