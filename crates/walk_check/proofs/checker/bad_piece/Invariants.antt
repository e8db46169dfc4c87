use Rattle.std.proofs.Common.{◌≡◌, drop}
use Rattle.walk_check.specs.Keeps as keeps
use Rattle.walk_check.proofs.checker.bad_piece.Given as goal

abbrev pub invariant-loop-number : goal.invariant-loop-number
invariant-loop-number l =
    keeps.bad_piece l.ir l.passed l.number (drop l.number l.passed)
    ≡ keeps.bad_piece l.ir l.passed 0 l.passed
