-- Each turn leaves fewer bytes.
use Rattle.std.proofs.Common.{length}
use Rattle.cnvm_notes.proofs.workers.after_turns.Given as goal

abbrev pub decreases-answers : goal.decreases-answers
decreases-answers l = length l.rest
