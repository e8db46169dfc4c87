use Rattle.std.proofs.Common.{◌≡◌, drop}
use Rattle.walk_check.specs.Keeps as keeps
use Rattle.walk_check.proofs.checker.bad_reason.Given as goal

abbrev pub invariant-loop-number : goal.invariant-loop-number
invariant-loop-number l =
    keeps.bad_reason l.ir l.passed l.number (drop l.number l.reasons)
    ≡ keeps.bad_reason l.ir l.passed 0 l.reasons
