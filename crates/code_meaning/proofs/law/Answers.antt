use Rattle.code_meaning.proofs.More.{end, done}
use Rattle.code_meaning.proofs.law.Goals as goal

pub returns-clause-end : goal.returns-clause-end
returns-clause-end c = end

pub returns-clause-deeds : goal.returns-clause-deeds
returns-clause-deeds c = done
