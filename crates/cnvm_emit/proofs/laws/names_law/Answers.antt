use Rattle.cnvm_emit.proofs.Apart.{apart, free}
use Rattle.cnvm_emit.proofs.laws.names_law.Goals as goal

pub returns-clause-apart : goal.returns-clause-apart
returns-clause-apart c = apart

pub returns-clause-free : goal.returns-clause-free
returns-clause-free c = free
