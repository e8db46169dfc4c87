use Rattle.std.proofs.Common.{◌∙◌, ap}
use Rattle.c_tree.specs.ItemTree.{function_tree}
use Rattle.lower.specs.inside.Added.{context_of}
use Rattle.lower.specs.Names.{inner_variables}
use Rattle.lower.proofs.FunctionAdds.{function_added, function_long}
use Rattle.lower.proofs.functions.function_code.Goals as goal

pub returns-clause-code : goal.returns-clause-code
returns-clause-code c =
    function_added (context_of c.args.source.now) (function_tree c.args.function.now) _ _ _ _ _
    _ _ _ _ _ _
    c.new-code.ensures (c.in_ok-open.ensures ∙ ap inner_variables c.new-variables.ensures)
    c.in_ok-add_parameters.ensures (rw c.deref.ensures.value at c.in_ok-add_statements.ensures)
    c.end-end.ensures.place c.end-end.ensures.small c.fill.ensures c.in_ok-from.ensures
    c.in_ok-push.ensures

pub returns-clause-long : goal.returns-clause-long
returns-clause-long c =
    function_long (context_of c.args.source.now) (function_tree c.args.function.now) _ _ _ _ _
    _ _ _ _ _ _
    c.new-code.ensures c.in_ok-add_parameters.ensures
    (rw c.deref.ensures.value at c.in_ok-add_statements.ensures)
    c.fill.ensures c.in_ok-from.ensures c.in_ok-push.ensures
