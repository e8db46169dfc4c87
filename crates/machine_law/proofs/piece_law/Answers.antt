use Rattle.machine_law.proofs.pieces.Piece.{piece_does}
use Rattle.machine_law.proofs.piece_law.Goals as goal

pub returns : goal.returns
returns c = piece_does
