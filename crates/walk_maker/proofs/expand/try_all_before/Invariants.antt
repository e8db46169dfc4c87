use Rattle.std.proofs.Common.{◌≡◌, ◌≤◌, drop}
use Rattle.walk_maker.specs.inside.Expand as expand
use Rattle.walk_maker.specs.inside.Jumps.{NoneJumps}
use Rattle.walk_maker.proofs.expand.try_all_before.Given as goal

abbrev pub invariant-loop : goal.invariant-loop
invariant-loop l =
    (expand.all_before_tried l.ir l.passed l.body l.later l.at (drop l.at l.body.code) l.table
    ≡ expand.all_before_tried l.ir l.passed l.body l.later 0 l.body.code l.initial.table)
    × NoneJumps l.body.code l.later.entry.place l.at l.jump × (l.counter ≤ l.at)
