-- Code with its logs. A flag at a store means that a log comes right before it; a flag at a `new`
-- means that its fill is logged. A jump or a branch that led to a store leads to its log. A log
-- that was in the code before is left out, and what led to it leads to the next instruction. All
-- else stays as it was.
use Rattle.std.specs.Prelude.{ℕ, suc, ◌+◌, ◌++◌, Bool, true, false, List, [], ◌∷◌}
use Rattle.std.specs.Prelude.{if◌then◌else◌, length}
use Rattle.std.specs.List.{slice_index_or}
use Rattle.ir.specs.declared.instruction.Instruction.{Instruction}
use Rattle.ir.specs.declared.instruction.Instruction.TheVariants.{Const, Copy, Bin, Jump, Branch}
use Rattle.ir.specs.declared.instruction.Instruction.TheVariants.{Load, Store, New, Free, Call}
use Rattle.ir.specs.declared.instruction.Instruction.TheVariants.{Return, Tick, Trap, Log}
use Rattle.ir.specs.declared.function.IrFunction.{IrFunction}
use Rattle.ir.specs.declared.function.Ir.{Ir}
use Rattle.ir.specs.Moving.{is_log, place_in}
use Rattle.clobber_pass.specs.declared.marking.MarkTable.{MarkTable}
use Rattle.clobber_pass.specs.Logged.{is_logged}

-- the logs before an instruction with this flag
abbrev pub logs : Bool → Instruction → List Instruction
logs false i = []
logs true (Store target from line) = Log target ∷ []
logs true (Const to value) = []
logs true (Copy to from) = []
logs true (Bin op to left right) = []
logs true (Jump place) = []
logs true (Branch on place) = []
logs true (Load to target) = []
logs true (New to kind log_fill line) = []
logs true (Free from kind line) = []
logs true (Call to function args) = []
logs true (Return from) = []
logs true Tick = []
logs true (Trap kind) = []
logs true (Log target) = []

-- the number of places of an instruction with its log; a log that was there before takes none
abbrev pub logged_width : Bool → Instruction → ℕ
logged_width flag i = length (logs flag i) + (if is_log i then 0 else 1)

abbrev pub flag_at : List Bool → ℕ → Bool
flag_at flags k = slice_index_or flags k false

-- the places of the instructions from the k-th on, and of the end, if the k-th is at place `at`
abbrev pub places_from : (flags : List Bool) (k at : ℕ) → List Instruction → List ℕ
places_from flags k at [] = at ∷ []
places_from flags k at (i ∷ is) =
    at ∷ places_from flags (suc k) (at + logged_width (flag_at flags k) i) is

-- the instruction with its jumps mapped to their new places, and with the flag of a fill
abbrev pub led : List ℕ → Bool → Instruction → Instruction
led places flag (Jump place) = Jump (place_in places place)
led places flag (Branch on place) = Branch on (place_in places place)
led places flag (New to kind log_fill line) = New to kind flag line
led places flag (Const to value) = Const to value
led places flag (Copy to from) = Copy to from
led places flag (Bin op to left right) = Bin op to left right
led places flag (Load to target) = Load to target
led places flag (Store target from line) = Store target from line
led places flag (Free from kind line) = Free from kind line
led places flag (Call to function args) = Call to function args
led places flag (Return from) = Return from
led places flag Tick = Tick
led places flag (Trap kind) = Trap kind
led places flag (Log target) = Log target

-- the instruction itself, unless it is a log
abbrev pub own : List ℕ → Bool → Instruction → List Instruction
own places flag i = if is_log i then [] else led places flag i ∷ []

abbrev pub logged_from : List ℕ → (flags : List Bool) → (k : ℕ) → List Instruction
    → List Instruction
logged_from places flags k [] = []
logged_from places flags k (i ∷ is) =
    logs (flag_at flags k) i ++ (own places (flag_at flags k) i ++ logged_from places flags
    (suc k) is)

-- whether the marks say that this instruction's store, or its fill, is logged
abbrev pub flagged : MarkTable → (function place : ℕ) → Instruction → Bool
flagged marks f p (Store target from line) =
    is_logged marks (record { function = f; place = p; fill = false })
flagged marks f p (New to kind log_fill line) =
    is_logged marks (record { function = f; place = p; fill = true })
flagged marks f p (Jump place) = false
flagged marks f p (Branch on place) = false
flagged marks f p (Const to value) = false
flagged marks f p (Copy to from) = false
flagged marks f p (Bin op to left right) = false
flagged marks f p (Load to target) = false
flagged marks f p (Free from kind line) = false
flagged marks f p (Call to function args) = false
flagged marks f p (Return from) = false
flagged marks f p Tick = false
flagged marks f p (Trap kind) = false
flagged marks f p (Log target) = false

abbrev pub flags_from : MarkTable → (function place : ℕ) → List Instruction → List Bool
flags_from marks f p [] = []
flags_from marks f p (i ∷ is) = flagged marks f p i ∷ flags_from marks f (suc p) is

abbrev pub with_flags : List Bool → List Instruction → List Instruction
with_flags flags code = logged_from (places_from flags 0 0 code) flags 0 code

-- the code of function f with its logs
abbrev pub logged_code : MarkTable → (f : ℕ) → List Instruction → List Instruction
logged_code marks f code = with_flags (flags_from marks f 0 code) code

abbrev pub logged_function : MarkTable → (f : ℕ) → IrFunction → IrFunction
logged_function marks f u = record u { code = logged_code marks f u.code }

abbrev pub logged_functions : MarkTable → (f : ℕ) → List IrFunction → List IrFunction
logged_functions marks f [] = []
logged_functions marks f (u ∷ us) = logged_function marks f u ∷ logged_functions marks (suc f) us

-- a program with its logs
abbrev pub logged_program : MarkTable → Ir → Ir
logged_program marks ir = record ir { functions = logged_functions marks 0 ir.functions }
