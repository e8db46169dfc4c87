use Rattle.std.proofs.Common.{◌≡◌, ◌++◌, drop}
use Rattle.instrument.specs.Insert.{logged_from}
use Rattle.instrument.proofs.add.logged_from.Given as goal

abbrev pub invariant-loop-k : goal.invariant-loop-k
invariant-loop-k l = l.logged ++ logged_from l.places l.flags l.k (drop l.k l.code)
    ≡ logged_from l.places l.flags 0 l.code
