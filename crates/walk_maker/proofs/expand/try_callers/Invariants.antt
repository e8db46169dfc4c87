use Rattle.std.proofs.Common.{◌≡◌, drop}
use Rattle.walk_maker.specs.inside.Expand as expand
use Rattle.walk_maker.proofs.expand.try_callers.Given as goal

abbrev pub invariant-loop-number : goal.invariant-loop-number
invariant-loop-number l =
    expand.callers_tried l.ir l.later l.bound l.number (drop l.number l.ir.functions) l.table
    ≡ expand.callers_tried l.ir l.later l.bound 0 l.ir.functions l.initial.table
