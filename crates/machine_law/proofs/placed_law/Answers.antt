use Rattle.machine_law.proofs.emitted.Placed.{run_as}
use Rattle.machine_law.proofs.placed_law.Goals as goal

pub returns : goal.returns
returns c = λ image x piece n l m is same. run_as image x piece is n l m same
