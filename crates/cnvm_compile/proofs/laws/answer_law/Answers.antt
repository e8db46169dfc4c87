use Rattle.cnvm_compile.proofs.Once.{once}
use Rattle.cnvm_compile.proofs.laws.answer_law.Goals as goal

pub returns : goal.returns
returns c = once
