use Rattle.std.proofs.Common.{◌≡◌, drop}
use Rattle.walk_maker.specs.inside.Expand as expand
use Rattle.walk_maker.proofs.expand.try_pieces.Given as goal

abbrev pub invariant-loop-number : goal.invariant-loop-number
invariant-loop-number l =
    expand.throughs_tried l.ir l.passed l.body l.later l.call l.args l.number
    (drop l.number l.passed) l.table
    ≡ expand.throughs_tried l.ir l.passed l.body l.later l.call l.args 0 l.passed
    l.initial.table
