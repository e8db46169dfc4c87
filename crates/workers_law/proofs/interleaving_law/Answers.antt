use Rattle.workers_law.proofs.Interleavings.{interleaving}
use Rattle.workers_law.proofs.interleaving_law.Goals as goal

pub returns : goal.returns
returns c = interleaving
