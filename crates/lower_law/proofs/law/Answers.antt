use Rattle.lower_law.proofs.Laws.{lower, accesses, transaction, parameters}
use Rattle.lower_law.proofs.law.Goals as goal

pub returns-clause-lower : goal.returns-clause-lower
returns-clause-lower c = lower

pub returns-clause-accesses : goal.returns-clause-accesses
returns-clause-accesses c = accesses

pub returns-clause-transaction : goal.returns-clause-transaction
returns-clause-transaction c = transaction

pub returns-clause-parameters : goal.returns-clause-parameters
returns-clause-parameters c = parameters
