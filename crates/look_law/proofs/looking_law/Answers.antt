use Rattle.look_law.proofs.Runs.{looking_run}
use Rattle.look_law.proofs.Emitted.{emits}
use Rattle.look_law.proofs.Inserted.{inserts}
use Rattle.look_law.proofs.Lowered.{lowers}
use Rattle.look_law.proofs.Compiled.{compiled_looks}
use Rattle.look_law.proofs.looking_law.Goals as goal

pub returns-clause-run : goal.returns-clause-run
returns-clause-run c = λ image looking. looking_run looking image

pub returns-clause-emits : goal.returns-clause-emits
returns-clause-emits c = emits

pub returns-clause-inserts : goal.returns-clause-inserts
returns-clause-inserts c = inserts

pub returns-clause-lowers : goal.returns-clause-lowers
returns-clause-lowers c = lowers

pub returns-clause-looking : goal.returns-clause-looking
returns-clause-looking c = compiled_looks
