use Rattle.nvm_base.proofs.LawLemmas.{wraps}
use Rattle.nvm_base.proofs.laws.wrap_law.Goals as goal

pub returns : goal.returns
returns c = wraps
