use Rattle.std.proofs.Common.{◌≡◌, ◌++◌, ◌≤◌, ◌*◌, drop}
use Rattle.instrument.specs.Insert.{places_from}
use Rattle.instrument.proofs.places.places.Given as goal

abbrev pub invariant-loop-k : goal.invariant-loop-k
invariant-loop-k l =
    (l.places.items ++ places_from l.flags l.k l.at (drop l.k l.code) ≡ places_from l.flags 0 0
    l.code) × (l.at ≤ 2 * l.k)
