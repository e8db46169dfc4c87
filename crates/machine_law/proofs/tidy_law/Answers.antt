use Rattle.machine_law.proofs.emitted.Tidy.{tidy_all}
use Rattle.machine_law.proofs.tidy_law.Goals as goal

pub returns : goal.returns
returns c = tidy_all
