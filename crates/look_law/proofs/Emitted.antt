-- The machine's code of intermediate code that only looks.
use Rattle.std.proofs.Common.{◌≡◌, ℕ, zero, suc, ◌+◌, Bool, true, false, List, [], ◌∷◌, ◌++◌}
use Rattle.std.proofs.Common.{length, map, slice_get, Option, None, Some, ℤ, refl, sym, ap}
use Rattle.std.proofs.Common.{◌∙◌, subst}
use Rattle.std.specs.Prelude.{◌^◌, ◌&&◌, if◌then◌else◌, nat_lt, option_map}
use Rattle.std.specs.List.{list_all, AllByRecursion}
use Rattle.std.proofs.lemmas.Bool.{and_parts}
use Rattle.std.proofs.lemmas.List.Folds.{list_all-append}
use Rattle.std.proofs.lemmas.Option.{slice_get-map}
use Rattle.nvm_base.specs.declared.op.BinOp.{BinOp}
use Rattle.nvm_base.proofs.Lists.{all_append}
use Rattle.pool_map.specs.declared.shapes.Shapes.{Shapes}
use Rattle.pool_layout.specs.declared.limits.Sizes.{Sizes}
use Rattle.ir.specs.declared.instruction.Target.{Target}
use Rattle.ir.specs.declared.instruction.Target.TheVariants.{Root, Field}
use Rattle.ir.specs.declared.instruction.Instruction.{Instruction}
use Rattle.ir.specs.declared.instruction.Instruction.TheVariants as ir
use Rattle.ir.specs.declared.function.IrFunction.{IrFunction}
use Rattle.ir.specs.declared.function.Ir.{Ir}
use Rattle.ir.specs.Moving.{is_log, place_in}
use Rattle.pm_machine.specs.declared.image.Image.{Image}
use Rattle.pm_machine.specs.declared.op.Op.{Op}
use Rattle.pm_machine.specs.declared.op.Function.{Function}
use Rattle.pm_machine.specs.Machine.{fetch_in}
use Rattle.pm_alloc.specs.declared.local.Reg.TheVariants.{Own}
use Rattle.pm_alloc.specs.declared.local.Local.{Local}
use Rattle.pm_alloc.specs.declared.local.Local.TheVariants.{Const, Mov, Bin, Jmp, Jz, Load, Store}
use Rattle.pm_alloc.specs.declared.local.Local.TheVariants.{Find, Log, Tick, Trap}
use Rattle.pm_alloc.specs.Pieces.{pointer_check}
use Rattle.pm_alloc.specs.Placing.{sum, placed}
use Rattle.codegen.specs.declared.fields.At.{At}
use Rattle.codegen.specs.declared.fields.At.TheVariants.{Word, Element}
use Rattle.codegen.specs.declared.fields.Reach.{Reach}
use Rattle.codegen.specs.Fields.{root_reach, struct_reach}
use Rattle.codegen.specs.Emit.{at_code, root_code, object_code, address_code, address_offset}
use Rattle.codegen.specs.Emit.{load_at, divides, local_code, return_code, control, piece_width}
use Rattle.codegen.specs.Emit.{instruction_places, instruction_code, code_from, emitted_code}
use Rattle.codegen.specs.Emit.{has_room, trap_function, with_code, function_of, functions_of}
use Rattle.look_law.specs.MachineCode.{op_looks, op_looks_at, AreLooking}
use Rattle.look_law.specs.Code.{instruction_looks, CodeLooks, FunctionsLook}

-- pieces that stay in their function
abbrev local_looks : Local → Bool
local_looks (Const r v) = true
local_looks (Mov r a) = true
local_looks (Bin o r a b) = true
local_looks (Jmp t) = true
local_looks (Jz a t) = true
local_looks (Load r a o) = true
local_looks (Store a o b) = false
local_looks (Find r) = false
local_looks (Log a o) = false
local_looks Tick = true
local_looks (Trap k) = true

abbrev PieceLooks : List Local → Type 0
PieceLooks piece = list_all local_looks piece ≡ true

both : (xs ys : List Local) → PieceLooks xs → PieceLooks ys → PieceLooks (xs ++ ys)
both xs ys a b = list_all-append local_looks xs ys
    ∙ (ap (λ (c : Bool). c && list_all local_looks ys) a ∙ b)

at_looks : (p : ℕ) (a : At) → PieceLooks (at_code p a)
at_looks p Word = refl
at_looks p (Element index len) = refl

root_looks : (o : Option Reach) → PieceLooks (root_code o)
root_looks None = refl
root_looks (Some r) = at_looks 1 r.at

object_looks : (s : Sizes) (base kind : ℕ) (o : Option Reach)
    → PieceLooks (object_code s base kind o)
object_looks s base kind None = refl
object_looks s base kind (Some r) =
    both (pointer_check s base kind) (at_code 12 r.at) refl (at_looks 12 r.at)

address_looks : (s : Sizes) (h : Shapes) (t : Target) → PieceLooks (address_code s h t)
address_looks s h (Root field index) = root_looks (root_reach s h field index)
address_looks s h (Field base kind field index) =
    object_looks s base kind (struct_reach s h kind field index)

load_looks : (to : ℕ) (o : Option ℤ) → PieceLooks (load_at to o)
load_looks to None = refl
load_looks to (Some o) = refl

bin_looks : (b : Bool) (o : BinOp) (to left right : ℕ) → PieceLooks
    (if b then Jz (Own right) 2 ∷ Jmp 3 ∷ Trap 4 ∷ Bin o (Own to) (Own left) (Own right) ∷ []
    else Bin o (Own to) (Own left) (Own right) ∷ [])
bin_looks true o to left right = refl
bin_looks false o to left right = refl

module _ (looking : ℕ → Bool) where
  abbrev OpLooks : Op → Type 0
  OpLooks o = op_looks looking o ≡ true

  abbrev OpsLook : List Op → Type 0
  OpsLook ops = AllByRecursion OpLooks ops

  placed_looks : (r p : ℕ) (l : Local) → local_looks l ≡ true → OpLooks (placed r p l)
  placed_looks r p (Const a v) h = refl
  placed_looks r p (Mov a b) h = refl
  placed_looks r p (Bin o a b c) h = refl
  placed_looks r p (Jmp t) h = refl
  placed_looks r p (Jz a t) h = refl
  placed_looks r p (Load a b o) h = refl
  placed_looks r p (Store a o b) h = absurd (cc)
  placed_looks r p (Find a) h = absurd (cc)
  placed_looks r p (Log a o) h = absurd (cc)
  placed_looks r p Tick h = refl
  placed_looks r p (Trap k) h = refl

  piece_looks : (r p : ℕ) (piece : List Local) → PieceLooks piece
      → OpsLook (map (placed r p) piece)
  piece_looks r p [] h = tt
  piece_looks r p (l ∷ piece) h =
      let parts = and_parts (local_looks l) (list_all local_looks piece) h in
      (placed_looks r p l parts.0, piece_looks r p piece parts.1)

  return_looks : (tx : Bool) (from : ℕ) → OpsLook (return_code tx from)
  return_looks true from = (refl, (refl, (refl, tt)))
  return_looks false from = (refl, tt)

  looks_at : (ops : List Op) (p : ℕ) → OpsLook ops → op_looks_at looking (slice_get ops p) ≡ true
  looks_at [] p all = refl
  looks_at (o ∷ ops) zero all = all.0
  looks_at (o ∷ ops) (suc p) all = looks_at ops p all.1

  module _ (s : Sizes) (h : Shapes) where
    local_all : (b : Bool) (i : Instruction) → instruction_looks looking i ≡ true
        → PieceLooks (local_code s h b i)
    local_all b (ir.Const to value) looks = refl
    local_all b (ir.Copy to from) looks = refl
    local_all b (ir.Bin o to left right) looks = bin_looks (divides o) o to left right
    local_all b (ir.Load to t) looks =
        both (address_code s h t) (load_at to (address_offset s h t)) (address_looks s h t)
        (load_looks to (address_offset s h t))
    local_all b (ir.Store t from line) looks = absurd (cc)
    local_all b (ir.New to kind fill line) looks = absurd (cc)
    local_all b (ir.Free from kind line) looks = absurd (cc)
    local_all b ir.Tick looks = refl
    local_all b (ir.Trap kind) looks = refl
    local_all b (ir.Jump place) looks = refl
    local_all b (ir.Branch on place) looks = refl
    local_all b (ir.Call to function args) looks = refl
    local_all b (ir.Return from) looks = refl
    local_all b (ir.Log t) looks = refl

    control_looks : (tx : Bool) (to : ℕ → ℕ) (i : Instruction) → instruction_looks looking i ≡ true
        → OpsLook (control tx to i)
    control_looks tx to (ir.Jump place) looks = (refl, tt)
    control_looks tx to (ir.Branch on place) looks = (refl, tt)
    control_looks tx to (ir.Call r function args) looks = (looks, tt)
    control_looks tx to (ir.Return from) looks = return_looks tx from
    control_looks tx to (ir.Const r value) looks = tt
    control_looks tx to (ir.Copy r from) looks = tt
    control_looks tx to (ir.Bin o r left right) looks = tt
    control_looks tx to (ir.Load r t) looks = tt
    control_looks tx to (ir.Store t from line) looks = tt
    control_looks tx to (ir.New r kind fill line) looks = tt
    control_looks tx to (ir.Free from kind line) looks = tt
    control_looks tx to ir.Tick looks = tt
    control_looks tx to (ir.Trap kind) looks = tt
    control_looks tx to (ir.Log t) looks = tt

    code_looks : (tx : Bool) (base : ℕ) (table : List ℕ) (p : ℕ) (b : Bool)
        (code : List Instruction) → CodeLooks looking code
        → OpsLook (code_from s h tx base table p b code)
    code_looks tx base table p b [] all = tt
    code_looks tx base table p b (i ∷ code) all =
        all_append OpLooks (instruction_code s h tx base table p b i)
        (code_from s h tx base table (sum p (piece_width s h tx b i)) (is_log i) code)
        (all_append OpLooks (control tx (place_in table) i)
        (map (placed base p) (local_code s h b i))
        (control_looks tx (place_in table) i all.0)
        (piece_looks base p (local_code s h b i) (local_all b i all.0)))
        (code_looks tx base table (sum p (piece_width s h tx b i)) (is_log i) code all.1)

    function_looks : (u : IrFunction) → CodeLooks looking u.code
        → OpsLook (function_of s h u).code
    function_looks u all = by_room (has_room u.registers u.code)
      where
        by_length : (b : Bool) → OpsLook (if b then record {
          parameters = u.parameters;
          registers = u.registers + 8;
          code = emitted_code s h u.tx u.registers u.code;
        } else trap_function u.parameters).code
        by_length true =
            code_looks u.tx u.registers (instruction_places s h u.tx 0 false u.code) 0 false u.code
            all
        by_length false = (refl, tt)

        by_room : (b : Bool) → OpsLook (if b
            then with_code u (emitted_code s h u.tx u.registers u.code)
            else trap_function u.parameters).code
        by_room true =
            by_length (nat_lt (length (emitted_code s h u.tx u.registers u.code)) (2 ^ 32))
        by_room false = (refl, tt)

pub emits : (image : Image) (s : Sizes) (program : Ir) (looking : ℕ → Bool)
    → image.parts.functions ≡ functions_of s program → FunctionsLook program.functions looking
    → AreLooking image looking
emits image s program looking same all f p is =
    subst (λ (fs : List Function). op_looks_at looking (fetch_in p (slice_get fs f)) ≡ true)
    (sym same)
    (subst (λ (o : Option Function). op_looks_at looking (fetch_in p o) ≡ true)
    (sym (slice_get-map (function_of s program.shapes) program.functions f))
    (by_option (slice_get program.functions f) refl))
  where
    by_option : (o : Option IrFunction) → slice_get program.functions f ≡ o
        → op_looks_at looking (fetch_in p (option_map (function_of s program.shapes) o)) ≡ true
    by_option None found = refl
    by_option (Some u) found =
        looks_at looking (function_of s program.shapes u).code p
        (function_looks looking s program.shapes u (all f u is found))
