-- What a table of marks says of a site. The mark of a place is a word: bit 0 for its store, or the
-- store of its header, bit 1 for the fill of its new object. A site that doesn't exist isn't
-- logged.
use Rattle.std.specs.Prelude.{ℕ, ◌≡◌, ◌↔◌, Bool, true, false, List}
use Rattle.ir.specs.declared.function.IrFunction.{IrFunction}
use Rattle.ir.specs.declared.site.Site.{Site}
use Rattle.ir.specs.Clobber.{IsLogged}
use Rattle.clobber_pass.specs.declared.marking.MarkTable.{MarkTable}
use Rattle.clobber_pass.specs.Row.{tells}
use Rattle.clobber_pass.specs.Sweep.{row_in}

-- the bit of a fill, or of a store
abbrev pub part : Bool → ℕ
part true = 1
part false = 0

abbrev pub is_logged : MarkTable → Site → Bool
is_logged table site = tells (row_in table.rows site.function) (part site.fill) site.place

-- a table marks exactly the sites whose old values are logged
abbrev pub IsExact : List IrFunction → MarkTable → Type 0
IsExact functions table = (site : Site) → (is_logged table site ≡ true) ↔ IsLogged functions site
