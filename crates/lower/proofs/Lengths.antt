-- The code of a program is short, since its length was counted function by function.
use Rattle.std.proofs.Common.{◌≡◌, ◌<◌, ◌≤◌, ◌^◌, List, [], ◌∷◌, length, map, sym, subst, arith}
use Rattle.std.specs.List.{AllByRecursion}
use Rattle.c_tree.specs.ItemTree.{FunctionTree}
use Rattle.c_tree.specs.Program.{Program}
use Rattle.c_types.specs.Tables.{Tables}
use Rattle.ir.specs.declared.function.IrFunction.{IrFunction}
use Rattle.lower.specs.Program.{lowered_function}
use Rattle.lower.specs.inside.Program.{function_end, IsCounted}

abbrev pub AreShort : List IrFunction → Type 0
AreShort us = AllByRecursion (λ (u : IrFunction). length u.code < 2 ^ 30) us

counted_short : (t : Tables) (tree : Program) (fs : List FunctionTree)
    → AllByRecursion (IsCounted t tree) fs → AreShort (map (lowered_function t tree) fs)
counted_short t tree [] counted = tt
counted_short t tree (f ∷ fs) counted =
    let long : length (lowered_function t tree f).code ≡ function_end f = counted.0.0 in
    let few : function_end f ≤ 2 ^ 29 = counted.0.1 in
    (omega (arith, long, few), counted_short t tree fs counted.1)

pub lowered_short : (t : Tables) (tree : Program) (fs : List FunctionTree) (us : List IrFunction)
    → us ≡ map (lowered_function t tree) fs → AllByRecursion (IsCounted t tree) fs → AreShort us
lowered_short t tree fs us is counted = subst AreShort (sym is) (counted_short t tree fs counted)
