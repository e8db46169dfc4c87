-- The instructions of a function, by its number.
use Rattle.std.specs.Prelude.{ℕ, List, [], Option, Some, None, slice_get}
use Rattle.pm_machine.specs.declared.op.Op.{Op}
use Rattle.pm_machine.specs.declared.op.Function.{Function}

abbrev pub code_in : Option Function → List Op
code_in None = []
code_in (Some f) = f.code

-- none if there is no such function
abbrev pub code_of : List Function → ℕ → List Op
code_of fs f = code_in (slice_get fs f)
