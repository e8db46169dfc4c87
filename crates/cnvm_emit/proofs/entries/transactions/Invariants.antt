use Rattle.std.proofs.Common.{◌≡◌, ◌++◌, drop}
use Rattle.codegen.specs.Emit.{txs_from}
use Rattle.cnvm_emit.proofs.entries.transactions.Given as goal

abbrev pub invariant-loop-number : goal.invariant-loop-number
invariant-loop-number l =
    l.txs ++ txs_from l.number (drop l.number l.functions) ≡ txs_from 0 l.functions
