use Rattle.std.proofs.Common.{◌≡◌, length}
use Rattle.clobber_pass.proofs.tables.Tables.blank.Given as goal

abbrev pub invariant-loop : goal.invariant-loop
invariant-loop l = length l.tables ≡ l.counter
