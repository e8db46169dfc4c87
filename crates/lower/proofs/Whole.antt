-- The code of a program, put together from its functions and its shapes.
use Rattle.std.proofs.Common.{◌≡◌, List, [], length, map, sym, ap, subst, ◌∙◌}
use Rattle.std.specs.List.{AllByRecursion}
use Rattle.std.proofs.lemmas.List.{length-map}
use Rattle.c_tree.specs.declared.item.Parameter.{Parameter}
use Rattle.c_tree.specs.ItemTree.{parameter_of}
use Rattle.c_tree.specs.Program.{Program, tree_of}
use Rattle.pool_map.specs.declared.shapes.Shapes.{Shapes}
use Rattle.c_types.specs.Tables.{Tables, tables_of}
use Rattle.c_types.specs.Fault.{breaks}
use Rattle.c_types.specs.Shapes.{shapes_of}
use Rattle.ir.specs.declared.function.IrFunction.{IrFunction}
use Rattle.ir.specs.WellFormed.{IsWellFormed}
use Rattle.lower.specs.Program.{lowered_function, lowered}
use Rattle.lower.specs.inside.Program.{IsCounted}
use Rattle.lower.proofs.Sound.{well_formed}

pub parameters_long : (xs : List Parameter) → length (map parameter_of xs) ≡ length xs
parameters_long xs = length-map xs parameter_of

-- the functions and the shapes that are put together are well formed
pub whole_formed : (tree : Program) (t : Tables) (us : List IrFunction) (s : Shapes)
    → t ≡ tables_of (tree_of tree) → us ≡ map (lowered_function t tree) t.functions
    → AllByRecursion (IsCounted t tree) t.functions → s ≡ shapes_of tree → breaks tree ≡ []
    → IsWellFormed (record { functions = us; shapes = s })
whole_formed tree t us s et eu counted es b =
    let functions : us ≡ (lowered tree).functions =
    eu ∙ ap (λ (x : Tables). map (lowered_function x tree) x.functions) et in
    let whole : record { functions = us; shapes = s } ≡ lowered tree =
    ap (λ (x : List IrFunction). record { functions = x; shapes = s }) functions
    ∙ ap (λ (x : Shapes). record { functions = (lowered tree).functions; shapes = x }) es in
    subst IsWellFormed (sym whole) (well_formed tree b
    (subst (λ (x : Tables). AllByRecursion (IsCounted x tree) x.functions) et counted))

pub ruleset parameters = (parameters_long)
