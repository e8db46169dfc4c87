use Rattle.rules_law.proofs.typed.Laws.{accepted, complete, types}
use Rattle.rules_law.proofs.typed_law.Goals as goal

pub returns-clause-accepted : goal.returns-clause-accepted
returns-clause-accepted c = accepted

pub returns-clause-complete : goal.returns-clause-complete
returns-clause-complete c = complete

pub returns-clause-types : goal.returns-clause-types
returns-clause-types c = types
