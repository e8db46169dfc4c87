use Rattle.pm_alloc.proofs.Free.{free_done}
use Rattle.pm_alloc.proofs.laws.free_law.Goals as goal

pub returns : goal.returns
returns c = free_done
