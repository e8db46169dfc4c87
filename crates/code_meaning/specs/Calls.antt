-- Code in which no function calls a transaction.
use Rattle.std.specs.Prelude.{◌≡◌, ℕ, false, List, Some, slice_get}
use Rattle.ir.specs.declared.function.IrFunction.{IrFunction}
use Rattle.ir.specs.Places.{CallsAt}

abbrev pub CallsNoTransaction : List IrFunction → Type 0
CallsNoTransaction functions = (f p to g : ℕ) (args : List ℕ) (u : IrFunction)
    → CallsAt functions f p to g args → slice_get functions g ≡ Some u → u.tx ≡ false
