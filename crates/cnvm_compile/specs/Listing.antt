-- A listing has one line for each store site, in code order: `F line L TARGET log` for a logged
-- site, and `F line L TARGET plain` for any other. F is the name of the function, L the line of the
-- store, and TARGET what is written there: `root.f`, `S.f`, `new S header`, `new S fields` or `free
-- S header`; of a `new` the header comes before its fields. The last line is `sites A logged B`,
-- with the number of sites and of logged ones. Each line ends with LF.
use Rattle.std.specs.Prelude.{ℕ, List, ◌++◌, Bool, true, false, length, codes, flat_map}
use Rattle.std.specs.List.{filter}
use Rattle.std.specs.Fmt.{decimal}
use Rattle.ir.specs.declared.function.IrFunction.{IrFunction}
use Rattle.ir.specs.declared.function.Ir.{Ir}
use Rattle.site_lines.specs.declared.rows.Row.{Row}
use Rattle.site_lines.specs.Rows.{rows_of, row_head}
use Rattle.clobber_pass.specs.declared.marking.MarkTable.{MarkTable}
use Rattle.clobber_pass.specs.Logged.{is_logged}

abbrev pub mark_text : Bool → List ℕ
mark_text true = codes " log\n"
mark_text false = codes " plain\n"

abbrev pub row_line : MarkTable → List IrFunction → Row → List ℕ
row_line marks functions r = row_head functions r ++ mark_text (is_logged marks r.site)

abbrev pub last_line : (sites logged : ℕ) → List ℕ
last_line sites logged = codes "sites "
    ++ (decimal sites ++ (codes " logged " ++ (decimal logged ++ codes "\n")))

-- the rows of a program whose sites are logged
abbrev pub logged_rows : MarkTable → List Row → List Row
logged_rows marks rows = filter (λ r. is_logged marks r.site) rows

abbrev pub listing : MarkTable → Ir → List ℕ
listing marks ir =
    flat_map (row_line marks ir.functions) (rows_of ir.shapes 0 ir.functions)
    ++ last_line (length (rows_of ir.shapes 0 ir.functions))
    (length (logged_rows marks (rows_of ir.shapes 0 ir.functions)))
