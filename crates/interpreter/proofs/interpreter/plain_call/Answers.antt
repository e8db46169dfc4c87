use Rattle.std.proofs.Common.{◌≡◌, ◌∙◌, ap, sym, Some}
use Rattle.c_tree.specs.ItemTree.{function_tree}
use Rattle.c_tree.specs.Program.{tree_of}
use Rattle.c_types.specs.Tables.{Tables, tables_of}
use Rattle.c_types.specs.Views.{tables_in}
use Rattle.c_meaning.specs.Transaction.{transaction}
use Rattle.interpreter.proofs.Resume.{answered}
use Rattle.interpreter.proofs.interpreter.plain_call.Goals as goal

pub returns-clause-exact : goal.returns-clause-exact
returns-clause-exact c =
    let tables : tables_in c.in-Ok.program ≡ tables_of (tree_of c.args.typed.now) =
    rw (c.items.ensures, c.ast.ensures) at c.in-Ok.ensures in
    let found : transaction (tables_of (tree_of c.args.typed.now)) c.args.tx
    ≡ Some (function_tree c.in-Some.function.now) =
    ap (λ (t : Tables). transaction t c.args.tx) (sym tables) ∙ sym c.in-Some.ensures in
    rw (c.answer_of.ensures.exact, found, ← tables, ← c.in-Ok-copy.ensures)
    (answered c.run.result _ c.run.ensures.exact)
