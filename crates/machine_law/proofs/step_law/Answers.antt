use Rattle.machine_law.proofs.matching.Whole.{matched}
use Rattle.machine_law.proofs.step_law.Goals as goal
use Rattle.machine_law.proofs.pieces.Kept.{stays_fit}
use Rattle.machine_law.proofs.pieces.Piece.{piece_does}

pub returns : goal.returns
returns c = matched piece_does stays_fit
