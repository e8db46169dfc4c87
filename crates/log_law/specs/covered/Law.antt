-- What isn't logged need not be. Each run of a transaction is covered, from any pool and with any
-- arguments, however far it came; and each store to a header comes from a logged site.
--
-- The code is well formed, and never assigns its parameters: what a called function wrote through a
-- parameter counts as written through the caller's argument, so both must hold the same pointer
-- until the return.
use Rattle.std.specs.Prelude.{ℕ, ℤ, List, ◌++◌}
use Rattle.pool_map.specs.PoolMap.{PoolMap}
use Rattle.ir.specs.declared.function.IrFunction.{IrFunction}
use Rattle.ir.specs.declared.site.Site.{Site}
use Rattle.ir.specs.declared.function.Ir.{Ir}
use Rattle.ir.specs.WellFormed.{IsWellFormed}
use Rattle.ir.specs.Places.{IsTransaction}
use Rattle.ir.specs.Clobber.{IsLogged}
use Rattle.code_meaning.specs.Code.{CodeState, Spot, code_start}
use Rattle.code_meaning.specs.Deeds.{Deed, deeds}
use Rattle.code_meaning.specs.Parameters.{KeepsParameters}
use Rattle.log_law.specs.covered.Covered.{IsOverwritten, FirstStore, StoresHeader, IsCovered}

abbrev pub CoverLaw : Type 0
CoverLaw = (ir : Ir) → IsWellFormed ir → KeepsParameters ir.functions → (f : ℕ)
    → IsTransaction ir.functions f
    → (args : List ℤ) (w : PoolMap) (ticks k : ℕ)
    → IsCovered ir.functions (deeds ir k (code_start f args w ticks))

-- from every state
abbrev pub HeaderLaw : Type 0
HeaderLaw = (ir : Ir) (k : ℕ) (c : CodeState) (a : Site) → StoresHeader (deeds ir k c) a
    → IsLogged ir.functions a

-- each word that is stored has a first store
abbrev pub FirstLaw : Type 0
FirstLaw = (ds : List Deed) (u : Spot) → IsOverwritten ds u → (a : Site) × FirstStore ds u a

-- a first part of a covered list is covered
abbrev pub PartLaw : Type 0
PartLaw = (functions : List IrFunction) (ds es : List Deed) → IsCovered functions (ds ++ es)
    → IsCovered functions ds
