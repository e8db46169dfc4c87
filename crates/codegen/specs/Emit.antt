-- The machine code of intermediate code. An instruction is either code that leads elsewhere
-- (`control`) or a piece of code that stays in its function (`local_code`). A log has no code of
-- its own: its store has the LOG between its checks and its STORE. The pieces follow one another; a
-- jump to an instruction goes to the beginning of its piece. A function's temporary registers come
-- after its own.
use Rattle.std.specs.Prelude.{ℕ, ◌+◌, ◌-◌, ◌*◌, ◌^◌, Bool, true, false, ◌&&◌, if◌then◌else◌, nat_lt}
use Rattle.std.specs.Prelude.{nat_le, List, [], ◌∷◌, ◌++◌, length, map, ℤ, pos}
use Rattle.std.specs.Prelude.{Option, Some, None, option_map}
use Rattle.std.specs.List.{list_all}
use Rattle.nvm_base.specs.declared.op.BinOp.{BinOp}
use Rattle.nvm_base.specs.declared.op.BinOp.TheVariants.{Add, Sub, Mul, Div, Rem, Shl, Shr, And, Or}
use Rattle.nvm_base.specs.declared.op.BinOp.TheVariants.{Xor, Lt, Le, Eq, Ne, Ult, Ule, Udiv}
use Rattle.nvm_base.specs.declared.op.BinOp.TheVariants.{Urem, Ushr}
use Rattle.pool_map.specs.declared.shapes.Shapes.{Shapes}
use Rattle.pool_map.specs.Trap.{trap_number}
use Rattle.pool_layout.specs.declared.limits.Sizes.{Sizes}
use Rattle.pool_layout.specs.Sizes.{slot_words}
use Rattle.ir.specs.declared.instruction.Target.{Target}
use Rattle.ir.specs.declared.instruction.Target.TheVariants.{Root, Field}
use Rattle.ir.specs.declared.instruction.Instruction.{Instruction}
use Rattle.ir.specs.declared.instruction.Instruction.TheVariants as ir
use Rattle.ir.specs.declared.function.IrFunction.{IrFunction}
use Rattle.ir.specs.Moving.{is_log, place_in}
use Rattle.ir.specs.declared.function.Ir.{Ir}
use Rattle.pm_machine.specs.declared.op.Op.{Op}
use Rattle.pm_machine.specs.declared.op.Op.TheVariants as op
use Rattle.pm_machine.specs.declared.op.Function.{Function}
use Rattle.pm_machine.specs.declared.op.TxEntry.{TxEntry}
use Rattle.pm_machine.specs.declared.image.ImageParts.{ImageParts}
use Rattle.pm_alloc.specs.declared.local.Reg.TheVariants.{Own, Temp}
use Rattle.pm_alloc.specs.declared.local.Local.{Local}
use Rattle.pm_alloc.specs.declared.local.Local.TheVariants.{Const, Mov, Bin, Jmp, Jz, Load, Tick}
use Rattle.pm_alloc.specs.declared.local.Local.TheVariants.{Trap}
use Rattle.pm_alloc.specs.Pieces.{offset, store_code, pointer_check, index_check, new_or_trap}
use Rattle.pm_alloc.specs.Pieces.{free_code}
use Rattle.pm_alloc.specs.Placing.{sum, placed}
use Rattle.codegen.specs.declared.fields.At.{At}
use Rattle.codegen.specs.declared.fields.At.TheVariants.{Word, Element}
use Rattle.codegen.specs.declared.fields.Reach.{Reach}
use Rattle.codegen.specs.Fields.{root_reach, struct_reach, object_words}
use Rattle.codegen.specs.Names.{is_below}

-- the check of an index, if there is one, from place p of a piece on
abbrev pub at_code : ℕ → At → List Local
at_code p Word = []
at_code p (Element index len) = index_check p index len

-- The checks of a target, which is a trap if it doesn't exist; after them the word's address is
-- temporary 0 plus an offset.
abbrev pub root_code : Option Reach → List Local
root_code None = Trap 3 ∷ []
root_code (Some r) = Const (Temp 0) (pos 0) ∷ at_code 1 r.at

abbrev pub root_offset : Option Reach → Option ℤ
root_offset reach = option_map (λ (r : Reach). pos r.first) reach

abbrev pub object_code : Sizes → (base kind : ℕ) → Option Reach → List Local
object_code s base kind None = Trap 3 ∷ []
object_code s base kind (Some r) = pointer_check s base kind ++ at_code 12 r.at

abbrev pub object_offset : Sizes → Option Reach → Option ℤ
object_offset s reach = option_map (λ (r : Reach). offset s (sum r.first 1)) reach

abbrev pub address_code : Sizes → Shapes → Target → List Local
address_code s h (Root field index) = root_code (root_reach s h field index)
address_code s h (Field base kind field index) =
    object_code s base kind (struct_reach s h kind field index)

abbrev pub address_offset : Sizes → Shapes → Target → Option ℤ
address_offset s h (Root field index) = root_offset (root_reach s h field index)
address_offset s h (Field base kind field index) =
    object_offset s (struct_reach s h kind field index)

-- the code after the checks
abbrev pub load_at : ℕ → Option ℤ → List Local
load_at to None = []
load_at to (Some o) = Load (Own to) (Temp 0) o ∷ []

abbrev pub store_at : Bool → ℕ → Option ℤ → List Local
store_at b from None = []
store_at b from (Some o) = store_code b (Temp 0) o (Own from)

abbrev pub load_code : Sizes → Shapes → ℕ → Target → List Local
load_code s h to t = address_code s h t ++ load_at to (address_offset s h t)

abbrev pub assign_code : Sizes → Shapes → Bool → Target → ℕ → List Local
assign_code s h b t from = address_code s h t ++ store_at b from (address_offset s h t)

abbrev pub make_words : Sizes → (to kind : ℕ) → Bool → Option ℕ → List Local
make_words s to kind b None = Trap 2 ∷ []
make_words s to kind b (Some c) = new_or_trap s to kind c b

abbrev pub make_code : Sizes → Shapes → (to kind : ℕ) → Bool → List Local
make_code s h to kind b = make_words s to kind b (object_words s h kind)

abbrev pub divides : BinOp → Bool
divides Div = true
divides Rem = true
divides Add = false
divides Sub = false
divides Mul = false
divides Shl = false
divides Shr = false
divides And = false
divides Or = false
divides Xor = false
divides Lt = false
divides Le = false
divides Eq = false
divides Ne = false
divides Ult = false
divides Ule = false
divides Udiv = true
divides Urem = true
divides Ushr = false

abbrev pub bin_code : BinOp → (to left right : ℕ) → List Local
bin_code o to left right =
    if divides o then Jz (Own right) 2 ∷ Jmp 3 ∷ Trap 4 ∷ Bin o (Own to) (Own left) (Own right) ∷ []
    else Bin o (Own to) (Own left) (Own right) ∷ []

-- an instruction that stays in its function; b: a log comes right before it
abbrev pub local_code : Sizes → Shapes → Bool → Instruction → List Local
local_code s h b (ir.Const to value) = Const (Own to) value ∷ []
local_code s h b (ir.Copy to from) = Mov (Own to) (Own from) ∷ []
local_code s h b (ir.Bin o to left right) = bin_code o to left right
local_code s h b (ir.Load to t) = load_code s h to t
local_code s h b (ir.Store t from line) = assign_code s h b t from
local_code s h b (ir.New to kind fill line) = make_code s h to kind fill
local_code s h b (ir.Free from kind line) = free_code s from kind
local_code s h b ir.Tick = Tick ∷ []
local_code s h b (ir.Trap kind) = Trap (trap_number kind) ∷ []
local_code s h b (ir.Jump place) = []
local_code s h b (ir.Branch on place) = []
local_code s h b (ir.Call to function args) = []
local_code s h b (ir.Return from) = []
local_code s h b (ir.Log t) = []

-- a transaction's dirty lines are flushed and fenced, and then the run halts
abbrev pub return_code : Bool → ℕ → List Op
return_code tx from = if tx then op.Flush ∷ op.Fence ∷ op.Halt from ∷ [] else op.Ret from ∷ []

abbrev pub call_code : (to function : ℕ) → List ℕ → List Op
call_code to function args = op.Call to function args ∷ []

-- an instruction that leads elsewhere; to: from an instruction's number to its place
abbrev pub control : Bool → (ℕ → ℕ) → Instruction → List Op
control tx to (ir.Jump place) = op.Jmp (to place) ∷ []
control tx to (ir.Branch on place) = op.Jz on (to place) ∷ []
control tx to (ir.Call r function args) = call_code r function args
control tx to (ir.Return from) = return_code tx from
control tx to (ir.Const r value) = []
control tx to (ir.Copy r from) = []
control tx to (ir.Bin o r left right) = []
control tx to (ir.Load r t) = []
control tx to (ir.Store t from line) = []
control tx to (ir.New r kind fill line) = []
control tx to (ir.Free from kind line) = []
control tx to ir.Tick = []
control tx to (ir.Trap kind) = []
control tx to (ir.Log t) = []

-- the number of machine instructions of an instruction
abbrev pub piece_width : Sizes → Shapes → Bool → Bool → Instruction → ℕ
piece_width s h tx b i = sum (length (control tx (λ q. 0) i)) (length (local_code s h b i))

-- the places where the instructions begin, and the place of the end; p: the place of the first
abbrev pub instruction_places : Sizes → Shapes → Bool → (p : ℕ) → Bool → List Instruction → List ℕ
instruction_places s h tx p b [] = p ∷ []
instruction_places s h tx p b (i ∷ code) =
    p ∷ instruction_places s h tx (sum p (piece_width s h tx b i)) (is_log i) code

-- the instruction at place p; base: the first temporary register
abbrev pub instruction_code : Sizes → Shapes → Bool → (base : ℕ) → List ℕ → (p : ℕ) → Bool
    → Instruction → List Op
instruction_code s h tx base table p b i =
    control tx (place_in table) i ++ map (placed base p) (local_code s h b i)

abbrev pub code_from : Sizes → Shapes → Bool → (base : ℕ) → List ℕ → (p : ℕ) → Bool
    → List Instruction → List Op
code_from s h tx base table p b [] = []
code_from s h tx base table p b (i ∷ code) =
    instruction_code s h tx base table p b i ++ code_from s h tx base table
    (sum p (piece_width s h tx b i)) (is_log i) code

abbrev pub emitted_code : Sizes → Shapes → Bool → (base : ℕ) → List Instruction → List Op
emitted_code s h tx base code =
    code_from s h tx base (instruction_places s h tx 0 false code) 0 false code

-- there is room for the temporary registers, and the instructions name only the function's own
-- registers
abbrev pub has_room : (registers : ℕ) → List Instruction → Bool
has_room registers code = nat_le registers (2 ^ 32 - 9) && list_all (is_below registers) code

-- a function that only traps
abbrev pub trap_function : ℕ → Function
trap_function parameters = record {
  parameters = parameters;
  registers = parameters;
  code = op.Trap 6 ∷ [];
}

-- a function with its code, if that is short enough
abbrev pub with_code : IrFunction → List Op → Function
with_code u ops = if nat_lt (length ops) (2 ^ 32)
    then record { parameters = u.parameters; registers = u.registers + 8; code = ops }
    else trap_function u.parameters

abbrev pub function_of : Sizes → Shapes → IrFunction → Function
function_of s h u = if has_room u.registers u.code
    then with_code u (emitted_code s h u.tx u.registers u.code) else trap_function u.parameters

abbrev pub functions_of : Sizes → Ir → List Function
functions_of s program = map (function_of s program.shapes) program.functions

-- a function marked tx, with its parameters
abbrev pub tx_of : ℕ → IrFunction → List TxEntry
tx_of f u = if u.tx then record { function = f; parameters = u.parameters } ∷ [] else []

-- the functions marked tx, of those from number f on
abbrev pub txs_from : ℕ → List IrFunction → List TxEntry
txs_from f [] = []
txs_from f (u ∷ us) = tx_of f u ++ txs_from (f + 1) us

-- A number of steps that no run exceeds, for a program of q tokens: 80 for each instruction, of
-- which at most 40 are its own and 40 flush the lines that it makes dirty, and 20 for each word of
-- a slot past the 16th, for the fill of a new object.
abbrev pub most_steps : Sizes → ℕ → ℕ
most_steps s q = 256 * (s.ticks + 1) * (64 * q + 256) * (80 + 20 * (slot_words s - 16))

-- the parts of the image of a program of q tokens, for a pool of sizes s
abbrev pub parts_of : Ir → Sizes → (q : ℕ) → ImageParts
parts_of program s q =
    record {
      functions = functions_of s program;
      sizes = s;
      txs = txs_from 0 program.functions;
      structs = length program.shapes.structs;
      most = most_steps s q;
    }
