use Rattle.std.proofs.Common.{◌++◌, ◌≡◌, drop}
use Rattle.walk_maker.specs.WhyText as why
use Rattle.walk_maker.proofs.text.push_passed.Given as goal

abbrev pub invariant-loop-number : goal.invariant-loop-number
invariant-loop-number l =
    l.text ++ why.passed_text l.ir l.number (drop l.number l.passed)
    ≡ l.initial.text ++ why.passed_text l.ir 0 l.passed
