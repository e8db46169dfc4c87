use Rattle.ir.proofs.Law.{exact}
use Rattle.ir.proofs.laws.flows_are_walks.Goals as goal

pub returns : goal.returns
returns c = exact
