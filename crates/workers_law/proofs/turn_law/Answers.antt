use Rattle.workers_law.proofs.Stands.{left_next, same_left, turns, shown_images}
use Rattle.workers_law.proofs.AsCalls.{called}
use Rattle.workers_law.proofs.Fates.{fates}
use Rattle.workers_law.proofs.LookTurned.{look_turns}
use Rattle.workers_law.proofs.CutsTurned.{cut_turns, cut_pieces}
use Rattle.workers_law.proofs.turn_law.Goals as goal

pub returns-clause-left : goal.returns-clause-left
returns-clause-left c = left_next

pub returns-clause-view : goal.returns-clause-view
returns-clause-view c = same_left

pub returns-clause-turns : goal.returns-clause-turns
returns-clause-turns c = turns

pub returns-clause-images : goal.returns-clause-images
returns-clause-images c = shown_images

pub returns-clause-fate : goal.returns-clause-fate
returns-clause-fate c = fates

pub returns-clause-looks : goal.returns-clause-looks
returns-clause-looks c = look_turns

pub returns-clause-cut : goal.returns-clause-cut
returns-clause-cut c = cut_turns

pub returns-clause-pieces : goal.returns-clause-pieces
returns-clause-pieces c = cut_pieces

pub returns-clause-called : goal.returns-clause-called
returns-clause-called c = called
