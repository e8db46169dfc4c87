use Rattle.machine_law.proofs.pieces.Shown.{shown}
use Rattle.machine_law.proofs.shows_law.Goals as goal

pub returns : goal.returns
returns c = shown
