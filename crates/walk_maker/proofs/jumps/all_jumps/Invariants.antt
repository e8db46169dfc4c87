use Rattle.std.proofs.Common.{◌≡◌, length}
use Rattle.walk_maker.specs.inside.Jumps.{AreAllJumps}
use Rattle.walk_maker.proofs.jumps.all_jumps.Given as goal

abbrev pub invariant-loop-function : goal.invariant-loop-function
invariant-loop-function l =
    (length l.all ≡ l.function-index) × AreAllJumps l.functions l.all
