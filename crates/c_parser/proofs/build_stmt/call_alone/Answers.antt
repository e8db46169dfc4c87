use Rattle.std.proofs.Common.{◌≡◌, sym, ap, ◌∙◌}
use Rattle.c_tree.specs.ExprTree as exprs
use Rattle.c_tree.specs.ExprTree.{ident_of, expr_of, arguments_in}
use Rattle.c_tree.proofs.Trees.{expr_of-Call}
use Rattle.c_parser.proofs.build_stmt.call_alone.Goals as goal

pub returns-in-Call : goal.returns-in-Call
returns-in-Call c = λ n all e.
    let same : exprs.Call (ident_of c.in-Call.name) (arguments_in c.in-Call.arguments.items)
    ≡ exprs.Call n all =
    sym (expr_of-Call c.in-Call.name c.in-Call.arguments) ∙ ap expr_of (sym c.in-Call.is) ∙ e in
    cc
