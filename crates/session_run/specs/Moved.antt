-- A pool isn't moved to another program, or only in part.
use Rattle.std.specs.Prelude.{◌≢◌, ◌⊎◌}
use Rattle.pmem.specs.Device.{Device}
use Rattle.pmem.specs.Played.{PlaysAll, PlaysPart}
use Rattle.pmem.specs.declared.answer.Refusal.{Refusal}
use Rattle.pmem.specs.declared.answer.Refusal.TheVariants as refusal
use Rattle.file_pmem.specs.declared.link.MirrorState.{MirrorState}
use Rattle.file_pmem.specs.declared.link.MirrorState.TheVariants.{Awake}
use Rattle.cnvm_session.specs.declared.program.Program.{Program}
use Rattle.cnvm_session.specs.Moving.{moving_events}
use Rattle.session_run.specs.declared.status.Status.{Status}
use Rattle.session_run.specs.declared.status.Status.TheVariants as status

-- Some first events of the move are done, perhaps none, and there was no memory for the next one,
-- or the device refused it; or all are done on the device, and the file has refused something.
abbrev pub IsUnmoved : Program → Status → MirrorState → Device → Device → Type 0
IsUnmoved program status.NoMemory s d d' =
    PlaysPart refusal.NoMemory d (moving_events program.digest) d'
IsUnmoved program status.DeviceFault s d d' =
    ((why : Refusal) × PlaysPart why d (moving_events program.digest) d')
    ⊎ (PlaysAll d (moving_events program.digest) d' × (s ≢ Awake))
IsUnmoved program _ s d d' = ⊥
