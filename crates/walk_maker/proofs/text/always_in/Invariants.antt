use Rattle.std.proofs.Common.{◌≡◌, ◌≤◌, ◌+◌, drop}
use Rattle.walk_maker.specs.WhyText as why
use Rattle.walk_maker.proofs.text.always_in.Given as goal

abbrev pub invariant-loop-reason : goal.invariant-loop-reason
invariant-loop-reason l =
    (l.count + why.reasons_counted why.says_always (drop l.reason-index l.reasons)
    ≡ why.reasons_counted why.says_always l.reasons) × (l.count ≤ l.reason-index)
