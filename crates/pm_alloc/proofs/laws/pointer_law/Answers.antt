use Rattle.pm_alloc.proofs.Free.{pointer_checked}
use Rattle.pm_alloc.proofs.laws.pointer_law.Goals as goal

pub returns : goal.returns
returns c = pointer_checked
