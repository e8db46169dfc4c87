use Rattle.std.proofs.Common.{length}
use Rattle.cnvm_exit.proofs.notes.of_lines.Given as goal

abbrev pub decreases-lines : goal.decreases-lines
decreases-lines l = length l.rest
