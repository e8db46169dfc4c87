use Rattle.c_parser.proofs.Laws.{one_weight_each, equal_weights}
use Rattle.c_parser.proofs.one_weight.weight_law.Goals as goal

pub returns-clause-each : goal.returns-clause-each
returns-clause-each c = one_weight_each

pub returns-clause-equal : goal.returns-clause-equal
returns-clause-equal c = equal_weights
