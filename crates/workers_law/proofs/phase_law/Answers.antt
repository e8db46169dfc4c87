use Rattle.workers_law.proofs.Phases.{phases}
use Rattle.workers_law.proofs.phase_law.Goals as goal

pub returns : goal.returns
returns c = phases
