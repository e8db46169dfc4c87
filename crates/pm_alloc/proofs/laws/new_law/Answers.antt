use Rattle.pm_alloc.proofs.New.{new_made}
use Rattle.pm_alloc.proofs.laws.new_law.Goals as goal

pub returns : goal.returns
returns c = new_made
