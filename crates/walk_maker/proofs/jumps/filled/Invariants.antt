use Rattle.std.proofs.Common.{◌≡◌, length}
use Rattle.walk_maker.proofs.jumps.filled.Given as goal

abbrev pub invariant-loop : goal.invariant-loop
invariant-loop l = length l.numbers ≡ l.counter
