-- The exit status for each way in which a program ends.
use Rattle.std.specs.Prelude.{ℕ}
use Rattle.session_run.specs.declared.status.Status.{Status}
use Rattle.session_run.specs.declared.status.Status.TheVariants as status

abbrev pub status_number : Status → ℕ
status_number status.Done = 0
status_number status.NoMemory = 1
status_number status.Usage = 2
status_number status.Program = 3
status_number status.Script = 4
status_number status.ReadFault = 5
status_number status.WriteFault = 6
status_number status.DeviceFault = 7
status_number status.Image = 8
status_number status.PoolBusy = 9
status_number status.Unmet = 10
