-- A pool is made: a new one, or that of an image; or it couldn't be.
use Rattle.std.specs.Prelude.{ℕ, ℤ, List, Option, ◌≡◌}
use Rattle.std.specs.Io.KnownBytes.{Keeps}
use Rattle.pmem.specs.Device.{Device, blanked}
use Rattle.pmem.specs.Played.{PlaysAll}
use Rattle.pool_layout.specs.Sizes.{pool_lines}
use Rattle.args_log.specs.Created.{creation_events}
use Rattle.cnvm_session.specs.declared.creating.StartFault.{StartFault}
use Rattle.cnvm_session.specs.declared.program.Program.{Program}
use Rattle.cnvm_session.specs.Opening.{opening_events}
use Rattle.cnvm_session.specs.Pool.{sizes_of}
use Rattle.cnvm_session.specs.Unmade.{IsUnmade}

-- A pool is created: the lines are blank, and all events of its first two lines are done.
abbrev pub Created : Program → Device → Device → Type 0
Created program d b =
    PlaysAll (blanked (pool_lines program.image.parts.sizes) d)
    (creation_events program.image.parts.sizes program.digest) b

-- A pool couldn't be created for this cause: nothing is written, no step is taken, and some first
-- events of the creation may be done.
abbrev pub Uncreated : Program → StartFault → Option (List ℕ) → Option (List ℕ) → Device → Device
    → (k k' : ℕ) → Type 0
Uncreated program why w w' d d' k k' =
    Keeps w w' × (k' ≡ k)
    × IsUnmade why (pool_lines program.image.parts.sizes)
    (creation_events program.image.parts.sizes program.digest) d d'

-- The pool of an image couldn't be opened for this cause: nothing is written, no step is taken, and
-- of the events that write the image some first ones may be done.
abbrev pub Unopened : Program → List ℤ → StartFault → Option (List ℕ) → Option (List ℕ) → Device
    → Device → (k k' : ℕ) → Type 0
Unopened program words why w w' d d' k k' =
    Keeps w w' × (k' ≡ k)
    × IsUnmade why (pool_lines (sizes_of program))
    (opening_events (pool_lines (sizes_of program)) words) d d'
