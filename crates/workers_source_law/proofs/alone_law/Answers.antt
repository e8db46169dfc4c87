use Rattle.workers_source_law.proofs.Alones.{run_alone, part_alone, as_call}
use Rattle.workers_source_law.proofs.OwnHistories.{own_sealed, own_history, own_pool, own_new}
use Rattle.workers_source_law.proofs.alone_law.Goals as goal

pub returns-clause-run : goal.returns-clause-run
returns-clause-run c = run_alone

pub returns-clause-part : goal.returns-clause-part
returns-clause-part c = part_alone

pub returns-clause-call : goal.returns-clause-call
returns-clause-call c = as_call

pub returns-clause-sealed : goal.returns-clause-sealed
returns-clause-sealed c = own_sealed

pub returns-clause-history : goal.returns-clause-history
returns-clause-history c = own_history

pub returns-clause-pool : goal.returns-clause-pool
returns-clause-pool c = own_pool

pub returns-clause-new : goal.returns-clause-new
returns-clause-new c = own_new
