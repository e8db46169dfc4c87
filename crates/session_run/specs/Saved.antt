-- What a run saves: the newest version of every line. A device that is off is first powered on, and
-- each line keeps its newest version.
use Rattle.std.specs.Prelude.{ℕ, ◌*◌, List, [], Option, ◌≡◌, if◌then◌else◌}
use Rattle.std.specs.Io.KnownBytes.{Keeps}
use Rattle.cache_model.specs.Cache.{view}
use Rattle.cache_model.specs.declared.choice.Rest.TheVariants.{New}
use Rattle.pmem.specs.Device.{Device, powered}
use Rattle.pool_layout.specs.Bytes.{bytes_of}
use Rattle.pm_machine.specs.HeapPool.{words_from}
use Rattle.session_run.specs.declared.status.Status.{Status}
use Rattle.session_run.specs.declared.status.Status.TheVariants as status
use Rattle.session_run.specs.Told.{TellsAs}

abbrev pub on_again : Device → Device
on_again d = if d.on then d else powered (record { rest = New; picks = [] }) d

-- the bytes that are saved
abbrev pub saved_bytes : Device → List ℕ
saved_bytes d = bytes_of (words_from (view (on_again d).cache) 0 (8 * d.lines))

-- What is saved after a run that ended with this status, and how that ends. After a run whose
-- commands are all answered everything is saved, unless there is no memory or the sink fails; after
-- any other run nothing is.
abbrev pub SavedAs : (ran : Status) → Status → Option (List ℕ) → Option (List ℕ) → Device
    → Device → Type 0
SavedAs status.Done result o o' d d' =
    (d' ≡ on_again d) × TellsAs status.Done (saved_bytes d) result o o'
SavedAs status.Unmet result o o' d d' =
    (d' ≡ on_again d) × TellsAs status.Unmet (saved_bytes d) result o o'
SavedAs ran result o o' d d' = (result ≡ ran) × (d' ≡ d) × Keeps o o'
