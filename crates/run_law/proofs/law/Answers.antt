use Rattle.run_law.proofs.Join.{join}
use Rattle.run_law.proofs.Runs.{run_is, due_run_is, restored_alike}
use Rattle.run_law.proofs.Recorded.{records_sound}
use Rattle.run_law.proofs.law.Goals as goal

pub returns-clause-join : goal.returns-clause-join
returns-clause-join c = λ p z a heap end es is. join z a heap end es is.paired is.tidy

pub returns-clause-run : goal.returns-clause-run
returns-clause-run c = run_is

pub returns-clause-records : goal.returns-clause-records
returns-clause-records c = records_sound

pub returns-clause-due : goal.returns-clause-due
returns-clause-due c = due_run_is

pub returns-clause-restored : goal.returns-clause-restored
returns-clause-restored c = restored_alike
