use Rattle.std.proofs.Common.{◌≡◌, ◌≤◌, ◌+◌, length}
use Rattle.cnvm_script.specs.Commands.{commands_from, script_meaning}
use Rattle.cnvm_script.specs.Lines.{lines}
use Rattle.cnvm_script.proofs.Scripts.{commands_after}
use Rattle.cnvm_script.proofs.read.read_script.Given as goal

abbrev pub invariant-lines : goal.invariant-lines
invariant-lines l = (l.number + length l.rest ≤ length l.bytes + 1)
    × (commands_after l.script (commands_from l.number (lines l.rest)) ≡ script_meaning l.bytes)

abbrev pub decreases-lines : goal.decreases-lines
decreases-lines l = length l.rest
