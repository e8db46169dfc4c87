use Rattle.machine_law.proofs.pieces.Kept.{stays_fit}
use Rattle.machine_law.proofs.pieces.PoolIn.{pool_is, headers_are}
use Rattle.machine_law.proofs.pieces.WordState.{words_stay}
use Rattle.machine_law.proofs.pools_law.Goals as goal

pub returns-clause-pool : goal.returns-clause-pool
returns-clause-pool c = pool_is

pub returns-clause-headers : goal.returns-clause-headers
returns-clause-headers c = headers_are

pub returns-clause-fits : goal.returns-clause-fits
returns-clause-fits c = stays_fit

pub returns-clause-words : goal.returns-clause-words
returns-clause-words c = words_stay
