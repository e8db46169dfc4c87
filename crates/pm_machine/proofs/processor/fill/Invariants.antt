use Rattle.std.proofs.Common.{◌≡◌, length, drop}
use Rattle.pm_machine.specs.Machine.{registers_filled}
use Rattle.pm_machine.proofs.processor.fill.Given as goal

abbrev pub invariant-loop-i : goal.invariant-loop-i
invariant-loop-i l =
    (registers_filled l.to l.i (drop l.i l.words) ≡ registers_filled l.initial.to 0 l.words)
    × (length l.to ≡ length l.initial.to)
