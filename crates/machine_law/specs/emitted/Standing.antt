-- The place of an instruction of intermediate code: its piece is in its function, at the place
-- given by the table of places.
use Rattle.std.specs.Prelude.{ℕ, zero, suc, ◌<◌, ◌^◌, ◌≡◌, Bool, true, false, List, [], ◌∷◌, length}
use Rattle.std.specs.Prelude.{Some, slice_get}
use Rattle.pool_map.specs.declared.shapes.Shapes.{Shapes}
use Rattle.pool_layout.specs.declared.limits.Sizes.{Sizes}
use Rattle.ir.specs.declared.instruction.Instruction.{Instruction}
use Rattle.ir.specs.declared.instruction.Instruction.TheVariants as ir
use Rattle.ir.specs.declared.function.IrFunction.{IrFunction}
use Rattle.ir.specs.declared.function.Ir.{Ir}
use Rattle.pm_machine.specs.declared.image.Image.{Image}
use Rattle.codegen.specs.Emit.{local_code, instruction_places, emitted_code}
use Rattle.ir.specs.Moving.{is_log, place_in}
use Rattle.codegen.specs.Emit.{has_room, functions_of}
use Rattle.machine_law.specs.emitted.Placed.{IsPlaced}

-- whether a log comes right before instruction q; b: whether one comes before the first
abbrev pub logged_before : Bool → List Instruction → ℕ → Bool
logged_before b code zero = b
logged_before b [] (suc q) = b
logged_before b (i ∷ code) (suc q) = logged_before (is_log i) code q

-- an instruction that stays in its function
abbrev pub Stays : Instruction → Type 0
Stays (ir.Jump place) = ⊥
Stays (ir.Branch on place) = ⊥
Stays (ir.Call r function args) = ⊥
Stays (ir.Return from) = ⊥
Stays (ir.Const r value) = Unit {0}
Stays (ir.Copy r from) = Unit {0}
Stays (ir.Bin o r left right) = Unit {0}
Stays (ir.Load r t) = Unit {0}
Stays (ir.Store t from line) = Unit {0}
Stays (ir.New r kind fill line) = Unit {0}
Stays (ir.Free from kind line) = Unit {0}
Stays ir.Tick = Unit {0}
Stays (ir.Trap kind) = Unit {0}
Stays (ir.Log t) = Unit {0}

abbrev pub table_of : Sizes → Shapes → IrFunction → List ℕ
table_of s h u = instruction_places s h u.tx 0 false u.code

-- there is room for the function's registers and its code
pub record HasRoom (s : Sizes) (h : Shapes) (u : IrFunction) : Type 0 where
  pub registers : has_room u.registers u.code ≡ true
  pub code : length (emitted_code s h u.tx u.registers u.code) < 2 ^ 32

-- The piece of each instruction that stays in its function is in that function.
abbrev pub StandsLaw : Type 0
StandsLaw = (image : Image) (s : Sizes) (program : Ir) (f : ℕ) (u : IrFunction) (q : ℕ)
    (i : Instruction) →
    image.parts.functions ≡ functions_of s program → slice_get program.functions f ≡ Some u
    → HasRoom s program.shapes u →
    slice_get u.code q ≡ Some i → Stays i →
    IsPlaced image f u.registers (place_in (table_of s program.shapes u) q)
    (local_code s program.shapes (logged_before false u.code q) i)
