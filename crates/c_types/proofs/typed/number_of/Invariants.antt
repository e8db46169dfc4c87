use Rattle.std.proofs.Common.{◌≡◌, ◌+◌, map, drop, suc}
use Rattle.std.specs.Prelude.{option_map}
use Rattle.c_types.specs.declared.transactions.Transaction.{Transaction}
use Rattle.c_types.specs.Tables.{index_of}
use Rattle.c_types.proofs.typed.number_of.Given as goal

abbrev pub invariant-loop-transaction : goal.invariant-loop-transaction
invariant-loop-transaction l = record {
  number_index : l.number ≡ l.transaction-index + 1;
  left : option_map (λ i. i + l.number)
      (index_of l.name (map (λ (t : Transaction). t.name)
      (drop l.transaction-index l.transactions)))
      ≡ option_map suc (index_of l.name (map (λ (t : Transaction). t.name) l.transactions));
}
