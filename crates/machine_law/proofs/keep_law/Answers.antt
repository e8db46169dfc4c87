use Rattle.machine_law.proofs.matching.Keep.{kept_all}
use Rattle.machine_law.proofs.keep_law.Goals as goal
use Rattle.machine_law.proofs.pieces.Kept.{stays_fit}
use Rattle.machine_law.proofs.pieces.Piece.{piece_does}
use Rattle.machine_law.proofs.pieces.Shown.{shown}
use Rattle.machine_law.proofs.pieces.WordState.{words_stay}

pub returns : goal.returns
returns c = kept_all piece_does stays_fit shown words_stay
