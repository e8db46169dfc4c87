use Rattle.user_law.proofs.Ending.{uninterrupted_law, quiet_script_law, call_ends_law}
use Rattle.user_law.proofs.Ending.{recovery_ends_law}
use Rattle.user_law.proofs.end_law.Goals as goal

pub returns-clause-uninterrupted : goal.returns-clause-uninterrupted
returns-clause-uninterrupted c = uninterrupted_law

pub returns-clause-script : goal.returns-clause-script
returns-clause-script c = quiet_script_law

pub returns-clause-call : goal.returns-clause-call
returns-clause-call c = call_ends_law

pub returns-clause-recovery : goal.returns-clause-recovery
returns-clause-recovery c = recovery_ends_law
