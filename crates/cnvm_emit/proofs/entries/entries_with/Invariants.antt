use Rattle.std.proofs.Common.{◌≡◌, ◌++◌, drop}
use Rattle.c_types.specs.Shapes.{transactions_of}
use Rattle.cnvm_emit.specs.Entries.{entries_from}
use Rattle.cnvm_emit.proofs.entries.entries_with.Given as goal

abbrev pub invariant-loop-place : goal.invariant-loop-place
invariant-loop-place l =
    l.entries.items ++ entries_from (drop l.place l.txs) (drop l.place (transactions_of l.typed))
    ≡ entries_from l.txs (transactions_of l.typed)
