use Rattle.std.proofs.Common.{◌≡◌, ◌++◌, drop}
use Rattle.walk_maker.proofs.table.table_of.Given as goal

abbrev pub invariant-loop-entry : goal.invariant-loop-entry
invariant-loop-entry l = l.table ++ drop l.entry-index l.entries ≡ l.entries
