use Rattle.native_law.proofs.printed_law.Goals as goal
use Rattle.native_law.proofs.Runs.{run_law}
use Rattle.native_law.proofs.Events.{events_law}

pub returns-clause-run : goal.returns-clause-run
returns-clause-run c = run_law

pub returns-clause-events : goal.returns-clause-events
returns-clause-events c = events_law
