-- The function of a transaction's entry.
use Rattle.std.specs.Prelude.{ℕ, Option, Some, None}
use Rattle.pm_machine.specs.declared.op.TxEntry.{TxEntry}

abbrev pub entry_function : Option TxEntry → ℕ
entry_function None = 0
entry_function (Some entry) = entry.function
