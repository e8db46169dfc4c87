use Rattle.std.proofs.Common.{◌≡◌, ◌++◌, drop}
use Rattle.instrument.specs.Insert.{flags_from}
use Rattle.instrument.proofs.places.flags.Given as goal

abbrev pub invariant-loop-place : goal.invariant-loop-place
invariant-loop-place l = l.flags.items ++ flags_from l.marks l.function l.place
    (drop l.place l.code) ≡ flags_from l.marks l.function 0 l.code
