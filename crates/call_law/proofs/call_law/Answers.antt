use Rattle.call_law.proofs.Compiling.{meaning_law}
use Rattle.call_law.proofs.Calling.{call_law, part_law}
use Rattle.call_law.proofs.call_law.Goals as goal

pub returns-clause-meaning : goal.returns-clause-meaning
returns-clause-meaning c = meaning_law

pub returns-clause-call : goal.returns-clause-call
returns-clause-call c = call_law

pub returns-clause-part : goal.returns-clause-part
returns-clause-part c = part_law
