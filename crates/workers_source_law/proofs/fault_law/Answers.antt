use Rattle.workers_source_law.proofs.FaultLines.{told_fault, run_fault}
use Rattle.workers_source_law.proofs.fault_law.Goals as goal

pub returns-clause-command : goal.returns-clause-command
returns-clause-command c = told_fault

pub returns-clause-run : goal.returns-clause-run
returns-clause-run c = run_fault
