use Rattle.rules_law.proofs.rules.Laws.{rows_law, told_law}
use Rattle.rules_law.proofs.rules.Kept.{types_law, arrays_law, typed_law}
use Rattle.rules_law.proofs.rules.Storing.{stores_from, stores_to}
use Rattle.rules_law.proofs.rules_law.Goals as goal

pub returns-clause-rows : goal.returns-clause-rows
returns-clause-rows c = rows_law

pub returns-clause-told : goal.returns-clause-told
returns-clause-told c = told_law

pub returns-clause-stores : goal.returns-clause-stores
returns-clause-stores c = λ t f. (stores_from t f, stores_to t f)

pub returns-clause-types : goal.returns-clause-types
returns-clause-types c = types_law

pub returns-clause-arrays : goal.returns-clause-arrays
returns-clause-arrays c = arrays_law

pub returns-clause-typed : goal.returns-clause-typed
returns-clause-typed c = typed_law
