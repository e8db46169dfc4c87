-- The text of a program's intermediate code. Each function has a line
-- `tx F parameters P registers R`, or `function F ..` if it is no transaction, and below it a line
-- `F PLACE line L INSTRUCTION` for each instruction. L is the line of the token at which its trap
-- would be told, and of a store, a `pm_new` and a `pm_free` the line that a listing has; it is `-`
-- for an instruction that has no token. A store ends with `log` or `plain`.
use Rattle.std.specs.Prelude.{ℕ, ◌+◌, ◌==◌, List, [], ◌∷◌, ◌++◌, Bool, true, false, codes}
use Rattle.std.specs.Prelude.{Option, Some, None, slice_get, if◌then◌else◌}
use Rattle.std.specs.Option.{option_map_or}
use Rattle.std.specs.Fmt.{decimal, signed_decimal}
use Rattle.nvm_base.specs.declared.op.BinOp.{BinOp}
use Rattle.nvm_base.specs.declared.op.BinOp.TheVariants.{Add, Sub, Mul, Div, Rem, Shl, Shr, And, Or}
use Rattle.nvm_base.specs.declared.op.BinOp.TheVariants.{Xor, Lt, Le, Eq, Ne, Ult, Ule, Udiv}
use Rattle.nvm_base.specs.declared.op.BinOp.TheVariants.{Urem, Ushr}
use Rattle.pool_map.specs.declared.shapes.Shapes.{Shapes}
use Rattle.pool_map.specs.Trap.{trap_name}
use Rattle.c_tree.specs.ItemTree.{FunctionTree}
use Rattle.c_tree.specs.Program.{Program, tree_of, source_line}
use Rattle.c_types.specs.Tables.{tables_of}
use Rattle.ir.specs.declared.instruction.Target.{Target}
use Rattle.ir.specs.declared.instruction.Target.TheVariants.{Root, Field}
use Rattle.ir.specs.declared.instruction.Instruction.{Instruction}
use Rattle.ir.specs.declared.instruction.Instruction.TheVariants.{Const, Copy, Bin, Jump, Branch}
use Rattle.ir.specs.declared.instruction.Instruction.TheVariants.{Load, Store, New, Free, Call}
use Rattle.ir.specs.declared.instruction.Instruction.TheVariants.{Return, Tick, Trap, Log}
use Rattle.ir.specs.declared.function.IrFunction.{IrFunction}
use Rattle.ir.specs.declared.function.Ir.{Ir}
use Rattle.ir.specs.declared.site.Site.{Site}
use Rattle.clobber_pass.specs.declared.marking.MarkTable.{MarkTable}
use Rattle.clobber_pass.specs.Logged.{is_logged}
use Rattle.site_lines.specs.Rows.{function_name, struct_name, field_name, field_of_struct, fill_of}
use Rattle.trap_line.specs.declared.spot.Spot.{Spot}
use Rattle.trap_line.specs.Spots.{function_spots}

-- the register of an element's index
abbrev pub index_text : Option ℕ → List ℕ
index_text None = []
index_text (Some r) = codes "[r" ++ (decimal r ++ codes "]")

-- `root.f`, or `rB:S.f` for the field f of the struct S in the slot that register B holds
abbrev pub target_text : Shapes → Target → List ℕ
target_text shapes (Root field index) =
    codes "root." ++ (field_name shapes.root field ++ index_text index)
target_text shapes (Field base kind field index) =
    codes "r" ++ (decimal base ++ (codes ":" ++ (struct_name shapes kind
    ++ (codes "." ++ (field_of_struct shapes kind field ++ index_text index)))))

-- the operator as C spells it, and a `u` after it if it takes its sides as unsigned numbers
abbrev pub operator_text : BinOp → List ℕ
operator_text Add = codes "+"
operator_text Sub = codes "-"
operator_text Mul = codes "*"
operator_text Div = codes "/"
operator_text Rem = codes "%"
operator_text Shl = codes "<<"
operator_text Shr = codes ">>"
operator_text And = codes "&"
operator_text Or = codes "|"
operator_text Xor = codes "^"
operator_text Lt = codes "<"
operator_text Le = codes "<="
operator_text Eq = codes "=="
operator_text Ne = codes "!="
operator_text Ult = codes "<u"
operator_text Ule = codes "<=u"
operator_text Udiv = codes "/u"
operator_text Urem = codes "%u"
operator_text Ushr = codes ">>u"

abbrev pub logged_or_plain : Bool → List ℕ
logged_or_plain true = codes "log"
logged_or_plain false = codes "plain"

-- the registers of a call, each after a blank
abbrev pub arguments_text : List ℕ → List ℕ
arguments_text [] = []
arguments_text (r ∷ rs) = codes " r" ++ (decimal r ++ arguments_text rs)

-- the instruction at a site
abbrev pub instruction_text : Ir → MarkTable → Site → Instruction → List ℕ
instruction_text ir marks site (Const to value) =
    codes "r" ++ (decimal to ++ (codes " = " ++ signed_decimal value))
instruction_text ir marks site (Copy to from) =
    codes "r" ++ (decimal to ++ (codes " = r" ++ decimal from))
instruction_text ir marks site (Bin op to left right) =
    codes "r" ++ (decimal to ++ (codes " = r" ++ (decimal left
    ++ (codes " " ++ (operator_text op ++ (codes " r" ++ decimal right))))))
instruction_text ir marks site (Jump place) = codes "jump " ++ decimal place
instruction_text ir marks site (Branch on place) =
    codes "if r" ++ (decimal on ++ (codes " == 0 jump " ++ decimal place))
instruction_text ir marks site (Load to target) =
    codes "r" ++ (decimal to ++ (codes " = " ++ target_text ir.shapes target))
instruction_text ir marks site (Store target from line) =
    target_text ir.shapes target ++ (codes " = r" ++ (decimal from
    ++ (codes " " ++ logged_or_plain (is_logged marks site))))
instruction_text ir marks site (New to kind log_fill line) =
    codes "r" ++ (decimal to ++ (codes " = new " ++ (struct_name ir.shapes kind
    ++ (codes " header " ++ (logged_or_plain (is_logged marks site)
    ++ (codes " fields " ++ logged_or_plain (is_logged marks (fill_of site))))))))
instruction_text ir marks site (Free from kind line) =
    codes "free r" ++ (decimal from ++ (codes " " ++ (struct_name ir.shapes kind
    ++ (codes " header " ++ logged_or_plain (is_logged marks site)))))
instruction_text ir marks site (Call to function arguments) =
    codes "r" ++ (decimal to ++ (codes " = call " ++ (function_name ir.functions function
    ++ arguments_text arguments)))
instruction_text ir marks site (Return from) = codes "return r" ++ decimal from
instruction_text ir marks site Tick = codes "tick"
instruction_text ir marks site (Trap kind) = codes "trap " ++ trap_name kind
instruction_text ir marks site (Log target) = codes "log " ++ target_text ir.shapes target

-- the line of the token of an instruction's trap, if it has one
abbrev pub spot_line : Program → Option Spot → Option ℕ
spot_line tree None = None
spot_line tree (Some s) = if s.place == 0 then None else Some (source_line tree s.place)

-- the source line of an instruction
abbrev pub own_line : Program → Option Spot → Instruction → Option ℕ
own_line tree s (Store target from line) = Some line
own_line tree s (New to kind log_fill line) = Some line
own_line tree s (Free from kind line) = Some line
own_line tree s _ = spot_line tree s

abbrev pub number_or_dash : Option ℕ → List ℕ
number_or_dash None = codes "-"
number_or_dash (Some line) = decimal line

-- the line of the instruction at a site
abbrev pub place_text : Ir → MarkTable → Site → Option ℕ → Instruction → List ℕ
place_text ir marks site line i =
    function_name ir.functions site.function
    ++ (codes " " ++ (decimal site.place ++ (codes " line " ++ (number_or_dash line
    ++ (codes " " ++ (instruction_text ir marks site i ++ codes "\n"))))))

abbrev pub site_at : (f p : ℕ) → Site
site_at f p = record { function = f; place = p; fill = false }

-- the lines of the instructions from place p of function f on
abbrev pub printed_from : Program → Ir → MarkTable → List Spot → (f p : ℕ) → List Instruction
    → List ℕ
printed_from tree ir marks spots f p [] = []
printed_from tree ir marks spots f p (i ∷ is) =
    place_text ir marks (site_at f p) (own_line tree (slice_get spots p) i) i
    ++ printed_from tree ir marks spots f (p + 1) is

abbrev pub kind_text : (tx : Bool) → List ℕ
kind_text true = codes "tx "
kind_text false = codes "function "

abbrev pub signature_text : IrFunction → List ℕ
signature_text u = kind_text u.tx ++ (u.name ++ (codes " parameters " ++ (decimal u.parameters
    ++ (codes " registers " ++ (decimal u.registers ++ codes "\n")))))

-- the tokens of the instructions of the function of this number
abbrev pub spots_at : List FunctionTree → ℕ → List Spot
spots_at functions f = option_map_or function_spots (slice_get functions f) []

-- the text of function f
abbrev pub function_listing : Program → List FunctionTree → Ir → MarkTable → (f : ℕ) → IrFunction
    → List ℕ
function_listing tree functions ir marks f u =
    signature_text u ++ printed_from tree ir marks (spots_at functions f) f 0 u.code

-- the text of the functions from function f on
abbrev pub printed_functions : Program → List FunctionTree → Ir → MarkTable → (f : ℕ)
    → List IrFunction → List ℕ
printed_functions tree functions ir marks f [] = []
printed_functions tree functions ir marks f (u ∷ us) =
    function_listing tree functions ir marks f u
    ++ printed_functions tree functions ir marks (f + 1) us

-- `ir` is the code of the tree, without logs
abbrev pub printed_code : Program → Ir → MarkTable → List ℕ
printed_code tree ir marks =
    printed_functions tree (tables_of (tree_of tree)).functions ir marks 0 ir.functions
