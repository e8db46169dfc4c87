use Rattle.std.proofs.Common.{[]}
use Rattle.session_run.specs.declared.status.Status.TheVariants as status
use Rattle.cnvm_exit.proofs.Exiting.{memory_ends}
use Rattle.cnvm_exit.proofs.exit.exit_code.Goals as goal

pub returns-in-Some : goal.returns-in-Some
returns-in-Some g c = (_, c.run_on.result, c.run_on.ensures.source, c.number.ensures)

pub returns-in-None : goal.returns-in-None
returns-in-None g c = ([], status.NoMemory, memory_ends [], c.number-in-None.ensures)
