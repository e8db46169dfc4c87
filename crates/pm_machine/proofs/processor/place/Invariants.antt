use Rattle.std.proofs.Common.{◌≡◌, length, drop}
use Rattle.pm_machine.specs.Machine.{registers_placed}
use Rattle.pm_machine.proofs.processor.place.Given as goal

abbrev pub invariant-loop-i : goal.invariant-loop-i
invariant-loop-i l =
    (registers_placed l.from l.to l.i (drop l.i l.args) ≡ registers_placed l.from
    l.initial.to 0 l.args)
    × (length l.to ≡ length l.initial.to)
