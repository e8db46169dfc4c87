use Rattle.pool_layout.proofs.Moving.{moved_keeps, moved_unsealed}
use Rattle.pool_layout.proofs.image_laws.moved_law.Goals as goal

pub returns-clause-keeps : goal.returns-clause-keeps
returns-clause-keeps c = moved_keeps

pub returns-clause-unsealed : goal.returns-clause-unsealed
returns-clause-unsealed c = moved_unsealed
