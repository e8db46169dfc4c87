-- The transactions as the C file has them: those of the image, in its order, each with the function
-- that it runs and the number of its parameters; its name, the types of its parameters and its mark
-- are those of the source's transaction of the same number.
use Rattle.std.specs.Prelude.{List, [], ◌∷◌}
use Rattle.pm_machine.specs.declared.op.TxEntry.{TxEntry}
use Rattle.c_tree.specs.ItemTree.{FunctionTree}
use Rattle.c_types.specs.Shapes.{transactions_of}
use Rattle.c_types.specs.Transactions.{parameter_types, is_abort, is_const}
use Rattle.c_file.specs.declared.entry.Entry.{Entry}
use Rattle.cnvm_session.specs.declared.program.Program.{Program}
use Rattle.cnvm_emit.specs.Name.{c_name}

abbrev pub entry_of : TxEntry → FunctionTree → Entry
entry_of tx f = record {
  name = c_name f.name.text;
  function = tx.function;
  parameters = tx.parameters;
  types = parameter_types f;
  rolls_back = is_abort f.mark;
  looks = is_const f.mark;
}

-- one for each transaction; as many as both lists have
abbrev pub entries_from : List TxEntry → List FunctionTree → List Entry
entries_from [] fs = []
entries_from (tx ∷ txs) [] = []
entries_from (tx ∷ txs) (f ∷ fs) = entry_of tx f ∷ entries_from txs fs

abbrev pub entries_of : Program → List Entry
entries_of program = entries_from program.image.parts.txs (transactions_of program.typed)
