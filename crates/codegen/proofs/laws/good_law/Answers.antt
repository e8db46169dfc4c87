use Rattle.codegen.proofs.Good.{program_good}
use Rattle.codegen.proofs.laws.good_law.Goals as goal

pub returns : goal.returns
returns c = program_good
