-- Which sites a certificate lists.
use Rattle.std.specs.Prelude.{List, [], ◌∷◌}
use Rattle.ir.specs.declared.function.IrFunction.{IrFunction}
use Rattle.ir.specs.declared.site.Site.{Site}
use Rattle.ir.specs.Clobber.{IsLogged}

-- the second list is the logged sites of the first, in the same order
pub data ListsLogged (functions : List IrFunction) : List Site → List Site → Type 0 where
  no_site : ListsLogged functions [] []
  logged : {s : Site} {all told : List Site} → IsLogged functions s
      → ListsLogged functions all told → ListsLogged functions (s ∷ all) (s ∷ told)
  unlogged : {s : Site} {all told : List Site} → (IsLogged functions s → ⊥)
      → ListsLogged functions all told → ListsLogged functions (s ∷ all) told
