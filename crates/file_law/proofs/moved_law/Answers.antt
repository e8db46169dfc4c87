use Rattle.file_law.proofs.Mending.{reopened_moving}
use Rattle.file_law.proofs.Moving.{moved_holds, moving_cut, unowed}
use Rattle.file_law.proofs.Shapes.{same_shapes, moved_sizes}
use Rattle.file_law.proofs.moved_law.Goals as goal

pub returns-clause-shapes : goal.returns-clause-shapes
returns-clause-shapes c = same_shapes

pub returns-clause-sizes : goal.returns-clause-sizes
returns-clause-sizes c = moved_sizes

pub returns-clause-moved : goal.returns-clause-moved
returns-clause-moved c = moved_holds

pub returns-clause-cut : goal.returns-clause-cut
returns-clause-cut c = moving_cut

pub returns-clause-unowed : goal.returns-clause-unowed
returns-clause-unowed c = unowed

pub returns-clause-reopen : goal.returns-clause-reopen
returns-clause-reopen c = reopened_moving
