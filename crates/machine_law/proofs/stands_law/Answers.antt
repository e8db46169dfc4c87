use Rattle.machine_law.proofs.emitted.Standing.{stands_all}
use Rattle.machine_law.proofs.stands_law.Goals as goal

pub returns : goal.returns
returns c = stands_all
