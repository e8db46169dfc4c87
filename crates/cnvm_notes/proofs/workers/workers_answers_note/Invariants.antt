-- Each turn leaves fewer bytes.
use Rattle.std.proofs.Common.{length}
use Rattle.cnvm_notes.proofs.workers.workers_answers_note.Given as goal

abbrev pub decreases-lines : goal.decreases-lines
decreases-lines l = length l.rest
