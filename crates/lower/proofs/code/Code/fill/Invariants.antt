use Rattle.std.proofs.Common.{◌≡◌, length}
use Rattle.lower.specs.inside.Holes.{fill_from}
use Rattle.lower.proofs.code.Code.fill.Given as goal

abbrev pub invariant-loop-at : goal.invariant-loop-at
invariant-loop-at l =
    (fill_from l.hole l.at l.place l.self ≡ fill_from l.hole l.from l.place l.initial.self)
    × (length l.self ≡ length l.initial.self)
