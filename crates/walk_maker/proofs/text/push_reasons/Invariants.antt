use Rattle.std.proofs.Common.{◌++◌, ◌≡◌, drop, flat_map}
use Rattle.walk_maker.specs.WhyText as why
use Rattle.walk_maker.proofs.text.push_reasons.Given as goal

abbrev pub invariant-loop-reason : goal.invariant-loop-reason
invariant-loop-reason l =
    l.text ++ flat_map (why.reason_text l.ir) (drop l.reason-index l.reasons)
    ≡ l.initial.text ++ flat_map (why.reason_text l.ir) l.reasons
