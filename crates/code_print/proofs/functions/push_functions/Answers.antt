use Rattle.std.proofs.Common.{◌++◌, ◌+◌, ◌<◌, drop, length, map}
use Rattle.c_types.proofs.Elements.{drop_at}
use Rattle.c_tree.specs.ItemTree.{function_tree}
use Rattle.ir.specs.WellFormed.{IsFunction}
use Rattle.code_print.specs.CodeText.{printed_functions}
use Rattle.code_print.proofs.Following.{holds_on}
use Rattle.code_print.proofs.functions.push_functions.Goals as goal

pub loop-number-preserved : goal.loop-number-preserved
loop-number-preserved c =
    let n = c.loop-number.number in
    let functions = c.args.ir.now.functions in
    let trees = map function_tree (map (λ f. f.now) c.args.functions.now) in
    let found = drop_at c.as_slice-function-items.result.now n c.function-item.result
    c.loop-number-test.true c.function-item.is in
    let here = rw c.as_slice-function-items.ensures at found in
    holds_on (IsFunction c.args.ir.now) (length functions < 2147483648) c.args.ast.now trees
    c.args.ir.now c.args.marks.now n c.function-item.result (drop n functions)
    (drop (n + 1) functions) c.loop-number.text c.push_function.new.text
    (c.args.text.now ++ printed_functions c.args.ast.now trees c.args.ir.now c.args.marks.now 0
    functions) here c.in_ok-push_function.ensures c.loop-number.invariant
