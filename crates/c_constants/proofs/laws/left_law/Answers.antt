use Rattle.c_constants.proofs.Leaving.{left}
use Rattle.c_constants.proofs.laws.left_law.Goals as goal

pub returns : goal.returns
returns c = left
