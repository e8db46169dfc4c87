use Rattle.c_types.proofs.Least.{least_is_least}
use Rattle.c_types.proofs.laws.least_law.Goals as goal

pub returns : goal.returns
returns c = least_is_least
