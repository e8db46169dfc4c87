-- What is kept of a transaction: its name, the number of its parameters, which of them are of
-- `uint64_t`, its mark, and whether it returns `uint64_t`.
use Rattle.std.specs.Prelude.{length, Bool, true, false, List, map}
use Rattle.std.specs.Option.{option_map_or}
use Rattle.c_tree.specs.declared.item.Marked.{Marked}
use Rattle.c_tree.specs.declared.item.Marked.TheVariants as mark
use Rattle.c_tree.specs.ItemTree.{FunctionTree, ParameterTree}
use Rattle.c_types.specs.Shapes.{is_unsigned}
use Rattle.c_types.specs.declared.transactions.Transaction.{Transaction}

-- whether each parameter is of `uint64_t`
abbrev pub parameter_types : FunctionTree → List Bool
parameter_types f = map (λ (p : ParameterTree). is_unsigned p.ty) f.parameters

abbrev pub entry_of : FunctionTree → Transaction
entry_of f = record {
  name = f.name.text;
  parameters = length f.parameters;
  types = parameter_types f;
  mark = f.mark;
  unsigned = option_map_or is_unsigned f.result_type false;
}

-- whether a transaction with this mark rolls back where it traps, and whether it only looks
abbrev pub is_abort : Marked → Bool
is_abort mark.Plain = false
is_abort mark.Abort = true
is_abort mark.Const = false

abbrev pub is_const : Marked → Bool
is_const mark.Plain = false
is_const mark.Abort = false
is_const mark.Const = true
