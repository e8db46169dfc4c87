-- Code is well formed if every function, place, register, kind and field that an instruction names
-- exists; an index is given exactly for an array field; a call has as many arguments as its
-- function has parameters; a function has no more parameters than registers, isn't empty, and ends
-- with a jump, a return or a trap; and there are fewer than 2^31 functions, and fewer than 2^31
-- instructions in each.
use Rattle.std.specs.Prelude.{ℕ, zero, suc, ◌≡◌, ◌^◌, ◌<◌, ◌≤◌, List, [], ◌∷◌, length, Option, Some}
use Rattle.std.specs.Prelude.{None, slice_get, option_and_then}
use Rattle.std.specs.List.{AllByRecursion}
use Rattle.pool_map.specs.declared.shapes.FieldShape.{FieldShape}
use Rattle.pool_map.specs.declared.shapes.StructShape.{StructShape}
use Rattle.pool_map.specs.declared.shapes.Shapes.{Shapes}
use Rattle.ir.specs.declared.instruction.Target.{Target}
use Rattle.ir.specs.declared.instruction.Target.TheVariants.{Root, Field}
use Rattle.ir.specs.declared.instruction.Instruction.{Instruction}
use Rattle.ir.specs.declared.instruction.Instruction.TheVariants.{Const, Copy, Bin, Jump, Branch}
use Rattle.ir.specs.declared.instruction.Instruction.TheVariants.{Load, Store, New, Free, Call}
use Rattle.ir.specs.declared.instruction.Instruction.TheVariants.{Return, Tick, Trap, Log}
use Rattle.ir.specs.declared.function.IrFunction.{IrFunction}
use Rattle.ir.specs.declared.function.Ir.{Ir}

-- an index is given exactly for an array field, and its register is one of the r registers
abbrev pub IsIndexed : ℕ → Option FieldShape → Option ℕ → Type 0
IsIndexed r None index = ⊥
IsIndexed r (Some shape) None = shape.length ≡ None
IsIndexed r (Some shape) (Some i) = (n : ℕ) × (shape.length ≡ Some n) × (i < r)

-- the struct of a kind, which is its number counted from 1
abbrev pub struct_of : Shapes → ℕ → Option StructShape
struct_of shapes zero = None
struct_of shapes (suc k) = slice_get shapes.structs k

-- a field of a struct
abbrev pub shape_field : Shapes → ℕ → ℕ → Option FieldShape
shape_field shapes kind field =
    option_and_then (λ (s : StructShape). slice_get s.fields field) (struct_of shapes kind)

-- the target exists, and its registers are among the r registers
abbrev pub IsTarget : Shapes → ℕ → Target → Type 0
IsTarget shapes r (Root field index) = IsIndexed r (slice_get shapes.root field) index
IsTarget shapes r (Field base kind field index) =
    (base < r) × IsIndexed r (shape_field shapes kind field) index

-- the kind exists
abbrev pub IsKind : Shapes → ℕ → Type 0
IsKind shapes kind = (0 < kind) × (kind ≤ length shapes.structs)

-- a call has as many arguments as its function has parameters
abbrev pub TakesArgs : Option IrFunction → List ℕ → Type 0
TakesArgs None args = ⊥
TakesArgs (Some u) args = length args ≡ u.parameters

-- all that an instruction names exists, in a function with r registers and n instructions
abbrev pub IsInstruction : Ir → (r n : ℕ) → Instruction → Type 0
IsInstruction ir r n (Const to value) = to < r
IsInstruction ir r n (Copy to from) = (to < r) × (from < r)
IsInstruction ir r n (Bin op to left right) = (to < r) × (left < r) × (right < r)
IsInstruction ir r n (Jump place) = place < n
IsInstruction ir r n (Branch on place) = (on < r) × (place < n)
IsInstruction ir r n (Load to target) = (to < r) × IsTarget ir.shapes r target
IsInstruction ir r n (Store target from line) = (from < r) × IsTarget ir.shapes r target
IsInstruction ir r n (New to kind log_fill line) = (to < r) × IsKind ir.shapes kind
IsInstruction ir r n (Free from kind line) = (from < r) × IsKind ir.shapes kind
IsInstruction ir r n (Call to function args) = (to < r) × AllByRecursion (λ a. a < r) args
    × TakesArgs (slice_get ir.functions function) args
IsInstruction ir r n (Return from) = from < r
IsInstruction ir r n Tick = Unit {0}
IsInstruction ir r n (Trap kind) = Unit {0}
IsInstruction ir r n (Log target) = IsTarget ir.shapes r target

-- the run doesn't go on to the place after this instruction
abbrev pub StopsRun : Instruction → Type 0
StopsRun (Jump place) = Unit {0}
StopsRun (Return from) = Unit {0}
StopsRun (Trap kind) = Unit {0}
StopsRun (Const to value) = ⊥
StopsRun (Copy to from) = ⊥
StopsRun (Bin op to left right) = ⊥
StopsRun (Branch on place) = ⊥
StopsRun (Load to target) = ⊥
StopsRun (Store target from line) = ⊥
StopsRun (New to kind log_fill line) = ⊥
StopsRun (Free from kind line) = ⊥
StopsRun (Call to function args) = ⊥
StopsRun Tick = ⊥
StopsRun (Log target) = ⊥

-- the list isn't empty, and the run doesn't go on past its last instruction
abbrev pub EndsWell : List Instruction → Type 0
EndsWell [] = ⊥
EndsWell (i ∷ []) = StopsRun i
EndsWell (i ∷ j ∷ is) = EndsWell (j ∷ is)

abbrev pub IsFunction : Ir → IrFunction → Type 0
IsFunction ir u =
    (u.parameters ≤ u.registers) × (length u.code < 2 ^ 31) × EndsWell u.code
    × AllByRecursion (IsInstruction ir u.registers (length u.code)) u.code

abbrev pub IsWellFormed : Ir → Type 0
IsWellFormed ir = (length ir.functions < 2 ^ 31) × AllByRecursion (IsFunction ir) ir.functions
