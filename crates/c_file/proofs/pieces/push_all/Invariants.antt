use Rattle.std.proofs.Common.{◌≡◌, ◌++◌, ◌-◌}
use Rattle.c_file.specs.Pieces.{worded_from}
use Rattle.c_file.proofs.pieces.push_all.Given as goal

abbrev pub invariant-loop-k : goal.invariant-loop-k
invariant-loop-k l =
    l.text ++ worded_from l.how l.k (l.count - l.k) ≡ l.initial.text ++ worded_from l.how 0 l.count
