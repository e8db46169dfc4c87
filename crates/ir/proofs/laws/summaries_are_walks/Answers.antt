use Rattle.ir.proofs.Matched.{summary_exact}
use Rattle.ir.proofs.laws.summaries_are_walks.Goals as goal

pub returns : goal.returns
returns c = summary_exact
