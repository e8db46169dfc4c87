use Rattle.machine_law.proofs.emitted.Steps.{forward_all, forward_code, settles_all}
use Rattle.machine_law.proofs.forward_law.Goals as goal

pub returns-clause-code : goal.returns-clause-code
returns-clause-code c = forward_code

pub returns-clause-run : goal.returns-clause-run
returns-clause-run c = forward_all

pub returns-clause-settles : goal.returns-clause-settles
returns-clause-settles c = settles_all
