use Rattle.nvm_base.proofs.Division.{divided}
use Rattle.nvm_base.proofs.laws.division_law.Goals as goal

pub returns : goal.returns
returns c = divided
