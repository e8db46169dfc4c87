use Rattle.std.proofs.Common.{◌≡◌, ◌++◌, ◌<◌, ◌^◌, length, drop}
use Rattle.std.specs.List.{AllByRecursion}
use Rattle.instrument.specs.Insert.{logged_functions}
use Rattle.ir.specs.WellFormed.{IsFunction}
use Rattle.instrument.proofs.add.logged_program.Given as goal

abbrev pub invariant-loop-number : goal.invariant-loop-number
invariant-loop-number l =
    (l.functions ++ logged_functions l.marks l.number (drop l.number l.ir.functions)
    ≡ logged_functions l.marks 0 l.ir.functions)
    × (length l.ir.functions < 2 ^ 31)
    × AllByRecursion (IsFunction l.ir) (drop l.number l.ir.functions)
