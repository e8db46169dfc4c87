-- A function of well-formed, short code has room for its registers and its code.
use Rattle.std.proofs.Common.{◌≡◌, ℕ, ◌-◌, ◌*◌, ◌<◌, ◌≤◌, ◌^◌, Bool, true, false, List, [], ◌∷◌}
use Rattle.std.proofs.Common.{◌++◌, length, map, Option, Some, None, refl, ap₂, arith}
use Rattle.std.proofs.Common.{length-append}
use Rattle.std.specs.Prelude.{◌&&◌, nat_lt, nat_le, slice_get}
use Rattle.std.specs.List.{list_all, AllByRecursion}
use Rattle.std.proofs.lemmas.Bool.{lt-ltb, le-leb}
use Rattle.std.proofs.lemmas.List.{length-map}
use Rattle.pool_map.specs.declared.shapes.FieldShape.{FieldShape}
use Rattle.pool_map.specs.declared.shapes.Shapes.{Shapes}
use Rattle.pool_layout.specs.declared.limits.Sizes.{Sizes}
use Rattle.ir.specs.declared.instruction.Target.{Target}
use Rattle.ir.specs.declared.instruction.Target.TheVariants.{Root, Field}
use Rattle.ir.specs.declared.instruction.Instruction.{Instruction}
use Rattle.ir.specs.declared.instruction.Instruction.TheVariants as ir
use Rattle.ir.specs.declared.function.IrFunction.{IrFunction}
use Rattle.ir.specs.declared.function.Ir.{Ir}
use Rattle.ir.specs.WellFormed.{IsIndexed, IsTarget, IsInstruction, IsFunction, shape_field}
use Rattle.pm_machine.specs.declared.op.Op.{Op}
use Rattle.pm_alloc.specs.declared.local.Local.{Local}
use Rattle.pm_alloc.specs.Placing.{sum, placed}
use Rattle.codegen.specs.Names.{index_below, target_below, is_below}
use Rattle.codegen.specs.Emit.{local_code, control, piece_width, instruction_places}
use Rattle.ir.specs.Moving.{is_log, place_in}
use Rattle.codegen.specs.Emit.{code_from}
use Rattle.machine_law.specs.emitted.Standing.{HasRoom}
use Rattle.machine_law.proofs.emitted.Steps.{code_length}

both : (a b : Bool) → a ≡ true → b ≡ true → a && b ≡ true
both a b e f = ap₂ (λ x y. x && y) e f

-- the index register of an instruction is below the function's registers, as a test
index_low : (r : ℕ) (o : Option FieldShape) (index : Option ℕ) → IsIndexed r o index
    → index_below r index ≡ true
index_low r None index is = absurd is
index_low r (Some shape) None is = refl
index_low r (Some shape) (Some i) is = lt-ltb i r is.2

target_low : (shapes : Shapes) (r : ℕ) (x : Target) → IsTarget shapes r x → target_below r x ≡ true
target_low shapes r (Root field index) is = index_low r (slice_get shapes.root field) index is
target_low shapes r (Field base kind field index) is =
    both (nat_lt base r) (index_below r index) (lt-ltb base r is.0)
    (index_low r (shape_field shapes kind field) index is.1)

args_low : (r : ℕ) (args : List ℕ) → AllByRecursion (λ a. a < r) args
    → list_all (λ a. nat_lt a r) args ≡ true
args_low r [] all = refl
args_low r (a ∷ args) all = both (nat_lt a r) (list_all (λ a. nat_lt a r) args) (lt-ltb a r all.0)
    (args_low r args all.1)

instruction_low : (program : Ir) (r n : ℕ) (i : Instruction) → IsInstruction program r n i
    → is_below r i ≡ true
instruction_low program r n (ir.Const to value) is = lt-ltb to r is
instruction_low program r n (ir.Copy to from) is =
    both (nat_lt to r) (nat_lt from r) (lt-ltb to r is.0) (lt-ltb from r is.1)
instruction_low program r n (ir.Bin op to left right) is =
    both (nat_lt to r) (nat_lt left r && nat_lt right r) (lt-ltb to r is.0)
    (both (nat_lt left r) (nat_lt right r) (lt-ltb left r is.1) (lt-ltb right r is.2))
instruction_low program r n (ir.Jump place) is = refl
instruction_low program r n (ir.Branch on place) is = lt-ltb on r is.0
instruction_low program r n (ir.Load to x) is =
    both (nat_lt to r) (target_below r x) (lt-ltb to r is.0) (target_low program.shapes r x is.1)
instruction_low program r n (ir.Store x from line) is =
    both (nat_lt from r) (target_below r x) (lt-ltb from r is.0)
    (target_low program.shapes r x is.1)
instruction_low program r n (ir.New to kind fill line) is = lt-ltb to r is.0
instruction_low program r n (ir.Free from kind line) is = lt-ltb from r is.0
instruction_low program r n (ir.Call to function args) is =
    both (nat_lt to r) (list_all (λ a. nat_lt a r) args) (lt-ltb to r is.0) (args_low r args is.1)
instruction_low program r n (ir.Return from) is = lt-ltb from r is
instruction_low program r n ir.Tick is = refl
instruction_low program r n (ir.Trap kind) is = refl
instruction_low program r n (ir.Log x) is = target_low program.shapes r x is

code_low : (program : Ir) (r n : ℕ) (code : List Instruction)
    → AllByRecursion (IsInstruction program r n) code → list_all (is_below r) code ≡ true
code_low program r n [] all = refl
code_low program r n (i ∷ code) all =
    both (is_below r i) (list_all (is_below r) code) (instruction_low program r n i all.0)
    (code_low program r n code all.1)

-- the code of each instruction is short
piece_short : (s : Sizes) (h : Shapes) (b : Bool) (i : Instruction)
    → length (local_code s h b i) ≤ 55
piece_short s h b i = code_length s h b i

control_short : (tx : Bool) (to : ℕ → ℕ) (i : Instruction) → length (control tx to i) ≤ 3
control_short true to (ir.Return from) = omega arith
control_short false to (ir.Return from) = omega arith
control_short tx to (ir.Jump place) = omega arith
control_short tx to (ir.Branch on place) = omega arith
control_short tx to (ir.Call r function args) = omega arith
control_short tx to (ir.Const r value) = omega arith
control_short tx to (ir.Copy r from) = omega arith
control_short tx to (ir.Bin o r left right) = omega arith
control_short tx to (ir.Load r x) = omega arith
control_short tx to (ir.Store x from line) = omega arith
control_short tx to (ir.New r kind fill line) = omega arith
control_short tx to (ir.Free from kind line) = omega arith
control_short tx to ir.Tick = omega arith
control_short tx to (ir.Trap kind) = omega arith
control_short tx to (ir.Log x) = omega arith

code_short : (s : Sizes) (h : Shapes) (tx : Bool) (base : ℕ) (table : List ℕ) (p : ℕ) (b : Bool)
    (code : List Instruction) → length (code_from s h tx base table p b code) ≤ 58 * length code
code_short s h tx base table p b [] = omega arith
code_short s h tx base table p b (i ∷ code) =
    let first : List Op = control tx (place_in table) i in
    let piece : List Local = local_code s h b i in
    omega (
      arith,
      length-append (first ++ map (placed base p) piece)
          (code_from s h tx base table (sum p (piece_width s h tx b i)) (is_log i) code),
      length-append first (map (placed base p) piece),
      length-map piece (placed base p),
      control_short tx (place_in table) i,
      piece_short s h b i,
      code_short s h tx base table (sum p (piece_width s h tx b i)) (is_log i) code,
    )

pub has_room_for : (s : Sizes) (program : Ir) (u : IrFunction) → IsFunction program u
    → u.registers ≤ 2 ^ 32 - 9 → 58 * length u.code < 2 ^ 32 → HasRoom s program.shapes u
has_room_for s program u formed few short = record {
  registers = both (nat_le u.registers (2 ^ 32 - 9)) (list_all (is_below u.registers) u.code)
      (le-leb u.registers (2 ^ 32 - 9) few)
      (code_low program u.registers (length u.code) u.code formed.3);
  code = omega (
    arith,
    code_short s program.shapes u.tx u.registers
        (instruction_places s program.shapes u.tx 0 false u.code) 0 false u.code,
    short,
  );
}
