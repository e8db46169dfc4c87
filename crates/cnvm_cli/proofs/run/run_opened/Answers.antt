use Rattle.std.proofs.Common.{inr}
use Rattle.cnvm_cli.proofs.run.run_opened.Goals as goal

pub returns-in-Ok-clause-ends : goal.returns-in-Ok-clause-ends
returns-in-Ok-clause-ends g c = inr (c.in-Ok.words, c.in-Ok.ensures.told, c.run_from.ensures.ran)
