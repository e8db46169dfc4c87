use Rattle.machine_law.proofs.emitted.Moments.{ran}
use Rattle.machine_law.proofs.runs_law.Goals as goal

pub returns : goal.returns
returns c = ran
