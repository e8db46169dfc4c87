-- Properties of a list of loads and stores, for one word of the pool: whether it is an input, which
-- means loaded before any store to it; whether it is stored; the site of its first store; and the
-- sites that store headers. The list is covered if the first store to each input comes from a
-- logged site.
use Rattle.std.specs.Prelude.{◌≡◌, ◌≢◌, List, [], ◌∷◌}
use mathlib.Core.Logic.{◌⊎◌}
use Rattle.ir.specs.declared.function.IrFunction.{IrFunction}
use Rattle.ir.specs.declared.site.Site.{Site}
use Rattle.ir.specs.Clobber.{IsLogged}
use Rattle.code_meaning.specs.Code.{Spot}
use Rattle.code_meaning.specs.Deeds.{Deed, Reads, Writes, Heads}

-- word u is loaded before any store to it
abbrev pub IsInput : List Deed → Spot → Type 0
IsInput [] u = ⊥
IsInput (Reads s ∷ ds) u = (u ≡ s) ⊎ IsInput ds u
IsInput (Writes site s v ∷ ds) u = (u ≢ s) × IsInput ds u
IsInput (Heads site slot v ∷ ds) u = IsInput ds u

-- word u is stored
abbrev pub IsOverwritten : List Deed → Spot → Type 0
IsOverwritten [] u = ⊥
IsOverwritten (Reads s ∷ ds) u = IsOverwritten ds u
IsOverwritten (Writes site s v ∷ ds) u = (u ≡ s) ⊎ IsOverwritten ds u
IsOverwritten (Heads site slot v ∷ ds) u = IsOverwritten ds u

-- the first store to word u comes from site a
abbrev pub FirstStore : List Deed → Spot → Site → Type 0
FirstStore [] u a = ⊥
FirstStore (Reads s ∷ ds) u a = FirstStore ds u a
FirstStore (Writes site s v ∷ ds) u a = ((u ≡ s) × (site ≡ a)) ⊎ ((u ≢ s) × FirstStore ds u a)
FirstStore (Heads site slot v ∷ ds) u a = FirstStore ds u a

-- a header is stored from site a
abbrev pub StoresHeader : List Deed → Site → Type 0
StoresHeader [] a = ⊥
StoresHeader (Reads s ∷ ds) a = StoresHeader ds a
StoresHeader (Writes site s v ∷ ds) a = StoresHeader ds a
StoresHeader (Heads site slot v ∷ ds) a = (site ≡ a) ⊎ StoresHeader ds a

abbrev pub IsCovered : List IrFunction → List Deed → Type 0
IsCovered functions ds = (u : Spot) (a : Site) → IsInput ds u → FirstStore ds u a
    → IsLogged functions a
