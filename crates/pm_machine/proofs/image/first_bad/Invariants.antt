use Rattle.std.proofs.Common.{◌≡◌, ◌<◌, ◌^◌, length, drop}
use Rattle.std.specs.List.{AllByRecursion}
use Rattle.pm_machine.specs.Checked.{bad_of}
use Rattle.pm_machine.specs.Few.{IsShortFunction}
use Rattle.pm_machine.proofs.image.first_bad.Given as goal

abbrev pub invariant-loop-number : goal.invariant-loop-number
invariant-loop-number l =
    (bad_of l.functions l.number (drop l.number l.functions) ≡ bad_of l.functions 0 l.functions)
    × (length l.functions < 2 ^ 32)
    × AllByRecursion IsShortFunction (drop l.number l.functions)
