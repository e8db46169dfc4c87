use Rattle.log_law.proofs.covered.Cover.{covered}
use Rattle.log_law.proofs.covered.Headers.{headers}
use Rattle.log_law.proofs.covered.Parts.{first_store, part}
use Rattle.log_law.proofs.cover_law.Goals as goal

pub returns-clause-cover : goal.returns-clause-cover
returns-clause-cover c = covered

pub returns-clause-headers : goal.returns-clause-headers
returns-clause-headers c = headers

pub returns-clause-first : goal.returns-clause-first
returns-clause-first c = first_store

pub returns-clause-part : goal.returns-clause-part
returns-clause-part c = part
