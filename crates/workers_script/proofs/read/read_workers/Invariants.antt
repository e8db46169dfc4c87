use Rattle.std.proofs.Common.{◌≡◌, ◌≤◌, ◌+◌, length}
use Rattle.cnvm_script.specs.Lines.{lines}
use Rattle.workers_script.specs.WorkersGrammar.{workers_from, workers_script_meaning}
use Rattle.workers_script.proofs.WorkersScripts.{workers_after}
use Rattle.workers_script.proofs.read.read_workers.Given as goal

abbrev pub invariant-lines : goal.invariant-lines
invariant-lines l = (l.number + length l.rest ≤ length l.bytes + 1)
    × (workers_after l.script (workers_from l.number (lines l.rest))
    ≡ workers_script_meaning l.bytes)

abbrev pub decreases-lines : goal.decreases-lines
decreases-lines l = length l.rest
