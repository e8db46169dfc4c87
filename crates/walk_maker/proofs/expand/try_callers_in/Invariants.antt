use Rattle.std.proofs.Common.{◌≡◌, drop}
use Rattle.walk_maker.specs.inside.Expand as expand
use Rattle.walk_maker.proofs.expand.try_callers_in.Given as goal

abbrev pub invariant-loop-place : goal.invariant-loop-place
invariant-loop-place l =
    expand.callers_in_tried l.ir l.body l.function l.later l.bound l.place
    (drop l.place l.body.code) l.table
    ≡ expand.callers_in_tried l.ir l.body l.function l.later l.bound 0 l.body.code
    l.initial.table
