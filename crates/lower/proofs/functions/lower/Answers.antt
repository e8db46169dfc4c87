use Rattle.std.proofs.Common.{◌∙◌, ap}
use Rattle.c_tree.specs.ItemTree.{items_in}
use Rattle.c_tree.specs.Program.{Program}
use Rattle.c_types.specs.Tables.{tables_of}
use Rattle.c_types.specs.Views.{tables_in}
use Rattle.lower.proofs.Lengths.{lowered_short}
use Rattle.lower.proofs.Whole.{whole_formed}
use Rattle.lower.proofs.functions.lower.Goals as goal

pub returns-clause-well_formed : goal.returns-clause-well_formed
returns-clause-well_formed c =
    whole_formed c.args.typed.now (tables_in c.in_ok-program.program) c.in_ok-functions.functions
    c.in_ok-shapes.shapes
    (c.in_ok-program.ensures ∙ ap (λ xs. tables_of (items_in xs))
    (c.items.ensures ∙ ap (λ (p : Program). p.all) c.ast-ast.ensures))
    (rw (c.functions.ensures, c.ast-ast.ensures) at c.in_ok-functions.ensures.code)
    (rw (c.functions.ensures, c.ast-ast.ensures) at c.in_ok-functions.ensures.counted)
    (c.in_ok-shapes.ensures ∙ c.shapes.ensures) c.requires

pub returns-clause-short : goal.returns-clause-short
returns-clause-short c =
    lowered_short _ _ _ c.in_ok-functions.functions c.in_ok-functions.ensures.code
    c.in_ok-functions.ensures.counted
