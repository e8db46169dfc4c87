use Rattle.machine_law.proofs.emitted.Returns.{returned_all}
use Rattle.machine_law.proofs.return_law.Goals as goal

pub returns : goal.returns
returns c = returned_all
