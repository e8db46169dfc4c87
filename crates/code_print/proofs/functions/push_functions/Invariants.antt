use Rattle.std.proofs.Common.{◌++◌, ◌≡◌, ◌<◌, ◌^◌, length, drop, map}
use Rattle.std.specs.List.{AllByRecursion}
use Rattle.c_tree.specs.ItemTree.{function_tree}
use Rattle.ir.specs.WellFormed.{IsFunction}
use Rattle.code_print.specs.CodeText.{printed_functions}
use Rattle.code_print.proofs.functions.push_functions.Given as goal

abbrev pub invariant-loop-number : goal.invariant-loop-number
invariant-loop-number l =
    (l.text ++ printed_functions l.ast (map function_tree (map (λ f. f.now) l.functions)) l.ir
    l.marks l.number (drop l.number l.ir.functions)
    ≡ l.initial.text ++ printed_functions l.ast (map function_tree (map (λ f. f.now) l.functions))
    l.ir l.marks 0 l.ir.functions)
    × (length l.ir.functions < 2 ^ 31)
    × AllByRecursion (IsFunction l.ir) (drop l.number l.ir.functions)
