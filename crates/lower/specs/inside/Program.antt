-- What only bodies and proofs need beside `Program`.
use Rattle.std.specs.Prelude.{◌≡◌, ◌<◌, ◌≤◌, ◌^◌, ℕ, suc, length}
use Rattle.c_tree.specs.ItemTree.{FunctionTree}
use Rattle.c_tree.specs.Program.{Program}
use Rattle.c_types.specs.Tables.{Tables}
use Rattle.lower.specs.Lowers.{statements_end}
use Rattle.lower.specs.Program.{parameters_end, lowered_function}

-- the end of the code of a function
abbrev pub function_end : FunctionTree → ℕ
function_end f = suc (suc (statements_end f.body (parameters_end f.body f.parameters 0)))

-- the parameters of a function are numbered in 16 bits
abbrev pub TakesFew : FunctionTree → Type 0
TakesFew f = length f.parameters < 2 ^ 16

-- a function's code has as many instructions as its definition counts, and not too many
abbrev pub IsCounted : Tables → Program → FunctionTree → Type 0
IsCounted t tree f = (length (lowered_function t tree f).code ≡ function_end f)
    × (function_end f ≤ 2 ^ 29)
