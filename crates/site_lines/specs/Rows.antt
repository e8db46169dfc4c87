-- The rows of a listing: the store sites of a program, each with its line and what is written
-- there: `root.f`, `S.f`, `new S header`, `new S fields` or `free S header`; of a `new` the header
-- comes before its fields.
use Rattle.std.specs.Prelude.{ℕ, ◌+◌, List, [], ◌∷◌, ◌++◌, Bool, true, false, Option, Some, None}
use Rattle.std.specs.Prelude.{slice_get, codes, flat_map}
use Rattle.std.specs.Option.{option_map_or}
use Rattle.std.specs.Fmt.{decimal}
use Rattle.pool_map.specs.declared.shapes.FieldShape.{FieldShape}
use Rattle.pool_map.specs.declared.shapes.StructShape.{StructShape}
use Rattle.pool_map.specs.declared.shapes.Shapes.{Shapes}
use Rattle.ir.specs.declared.instruction.Target.{Target}
use Rattle.ir.specs.declared.instruction.Target.TheVariants.{Root, Field}
use Rattle.ir.specs.declared.instruction.Instruction.{Instruction}
use Rattle.ir.specs.declared.instruction.Instruction.TheVariants.{Const, Copy, Bin, Jump, Branch}
use Rattle.ir.specs.declared.instruction.Instruction.TheVariants.{Load, Store, New, Free, Call}
use Rattle.ir.specs.declared.instruction.Instruction.TheVariants.{Return, Tick, Trap, Log}
use Rattle.ir.specs.declared.function.IrFunction.{IrFunction}
use Rattle.ir.specs.declared.function.Ir.{Ir}
use Rattle.ir.specs.declared.site.Site.{Site}
use Rattle.ir.specs.Places.{instruction_at}
use Rattle.ir.specs.WellFormed.{struct_of, shape_field}
use Rattle.site_lines.specs.declared.rows.Row.{Row}

-- the name of a function, empty if there is none
abbrev pub function_name : List IrFunction → ℕ → List ℕ
function_name functions f = option_map_or (λ (u : IrFunction). u.name) (slice_get functions f) []

abbrev pub struct_name : Shapes → ℕ → List ℕ
struct_name shapes kind = option_map_or (λ (s : StructShape). s.name) (struct_of shapes kind) []

abbrev pub field_name : List FieldShape → ℕ → List ℕ
field_name fields field = option_map_or (λ (f : FieldShape). f.name) (slice_get fields field) []

abbrev pub field_of_struct : Shapes → ℕ → ℕ → List ℕ
field_of_struct shapes kind field =
    option_map_or (λ (f : FieldShape). f.name) (shape_field shapes kind field) []

abbrev pub target_name : Shapes → Target → List ℕ
target_name shapes (Root field index) = codes "root." ++ field_name shapes.root field
target_name shapes (Field base kind field index) =
    struct_name shapes kind ++ (codes "." ++ field_of_struct shapes kind field)

abbrev pub row : Site → ℕ → List ℕ → Row
row site line target = record { site = site; line = line; target = target }

-- the site of a new object's fill, from that of its header
abbrev pub fill_of : Site → Site
fill_of site = record { function = site.function; place = site.place; fill = true }

-- the rows of the instruction at this site
abbrev pub rows_at : Shapes → Site → Instruction → List Row
rows_at shapes site (Store target from line) = row site line (target_name shapes target) ∷ []
rows_at shapes site (New to kind log_fill line) =
    row site line (codes "new " ++ (struct_name shapes kind ++ codes " header"))
    ∷ row (fill_of site) line (codes "new " ++ (struct_name shapes kind ++ codes " fields")) ∷ []
rows_at shapes site (Free from kind line) =
    row site line (codes "free " ++ (struct_name shapes kind ++ codes " header")) ∷ []
rows_at shapes site (Const to value) = []
rows_at shapes site (Copy to from) = []
rows_at shapes site (Bin op to left right) = []
rows_at shapes site (Jump place) = []
rows_at shapes site (Branch on place) = []
rows_at shapes site (Load to target) = []
rows_at shapes site (Call to function args) = []
rows_at shapes site (Return from) = []
rows_at shapes site Tick = []
rows_at shapes site (Trap kind) = []
rows_at shapes site (Log target) = []

-- the rows of the instructions from place p of function f on
abbrev pub rows_from : Shapes → ℕ → ℕ → List Instruction → List Row
rows_from shapes f p [] = []
rows_from shapes f p (i ∷ is) = rows_at shapes (record { function = f; place = p; fill = false }) i
    ++ rows_from shapes f (p + 1) is

-- the rows of the functions from function f on
abbrev pub rows_of : Shapes → ℕ → List IrFunction → List Row
rows_of shapes f [] = []
rows_of shapes f (u ∷ us) = rows_from shapes f 0 u.code ++ rows_of shapes (f + 1) us

-- a row's line without its last word: the function, the line, and what is written
abbrev pub row_head : List IrFunction → Row → List ℕ
row_head functions r =
    function_name functions r.site.function
    ++ (codes " line " ++ (decimal r.line ++ (codes " " ++ r.target)))

-- the text where the two are alike
abbrev pub where_alike : (a b : Bool) → List ℕ → List ℕ
where_alike true true text = text
where_alike false false text = text
where_alike _ _ text = []

abbrev pub matching_head : List IrFunction → (fill : Bool) → Row → List ℕ
matching_head functions fill r = where_alike r.site.fill fill (row_head functions r)

abbrev pub rows_here : Shapes → Site → Option Instruction → List Row
rows_here shapes site None = []
rows_here shapes site (Some i) =
    rows_at shapes (record { function = site.function; place = site.place; fill = false }) i

-- the line of a site without its last word, empty if there is no such site
abbrev pub site_head : Ir → Site → List ℕ
site_head ir site =
    flat_map (matching_head ir.functions site.fill)
    (rows_here ir.shapes site (instruction_at ir.functions site.function site.place))
