use Rattle.log_law.proofs.inserted.Follows.{same_end, same_deeds}
use Rattle.log_law.proofs.inserted.Origins.{origin}
use Rattle.log_law.proofs.inserted.Standing.{store_stands, fill_stands}
use Rattle.log_law.proofs.insert_law.Goals as goal

pub returns-clause-end : goal.returns-clause-end
returns-clause-end c = same_end

pub returns-clause-deeds : goal.returns-clause-deeds
returns-clause-deeds c = same_deeds

pub returns-clause-store : goal.returns-clause-store
returns-clause-store c = store_stands

pub returns-clause-fill : goal.returns-clause-fill
returns-clause-fill c = fill_stands

pub returns-clause-origin : goal.returns-clause-origin
returns-clause-origin c = origin
