use Rattle.workers_law.proofs.FaultCounts.{turn_faults}
use Rattle.workers_law.proofs.fault_law.Goals as goal

pub returns : goal.returns
returns c = turn_faults
