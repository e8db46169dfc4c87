use Rattle.tree_law.proofs.sizes.ProgramShort.{size, allowed}
use Rattle.tree_law.proofs.size_law.Goals as goal

pub returns-clause-size : goal.returns-clause-size
returns-clause-size c = size

pub returns-clause-allowed : goal.returns-clause-allowed
returns-clause-allowed c = allowed
