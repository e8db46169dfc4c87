-- Each turn leaves fewer bytes.
use Rattle.std.proofs.Common.{length}
use Rattle.cnvm_notes.proofs.lines.after_slots.Given as goal

abbrev pub decreases-lines : goal.decreases-lines
decreases-lines l = length l.rest
