-- Where a machine stands: the open function, and the place in it. A run that ended in a trap stands
-- at the instruction that trapped.
use Rattle.pm_machine.specs.declared.stop.Stop.{Stop}
use Rattle.pm_machine.specs.declared.machine.Machine.{Machine}
use Rattle.pm_machine.specs.Machine.{State}

abbrev pub stop_in : State → Stop
stop_in m = record { function = m.top.function; place = m.top.place }

abbrev pub stop_of : Machine → Stop
stop_of m = stop_in m.processor
