use Rattle.file_law.proofs.Reopening.{reopened}
use Rattle.file_law.proofs.law.Goals as goal

pub returns : goal.returns
returns c = reopened
