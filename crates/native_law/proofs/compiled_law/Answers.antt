use Rattle.native_law.proofs.compiled_law.Goals as goal
use Rattle.native_law.proofs.Calls.{compiled_run, compiled_events}

pub returns-clause-run : goal.returns-clause-run
returns-clause-run c = compiled_run

pub returns-clause-events : goal.returns-clause-events
returns-clause-events c = compiled_events
