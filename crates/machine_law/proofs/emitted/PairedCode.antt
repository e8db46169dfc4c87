-- In emitted code a STORE comes right after each LOG.
use Rattle.std.proofs.Common.{ℕ, zero, suc, ◌+◌, ◌^◌, Bool, true, false, List, [], ◌∷◌, ◌++◌}
use Rattle.std.proofs.Common.{length, map, Option, Some, None, ℤ, refl, sym, subst}
use Rattle.std.specs.Prelude.{if◌then◌else◌, nat_le, nat_lt}
use Rattle.std.specs.List.{AllByRecursion}
use Rattle.std.proofs.lemmas.List.{map-append}
use Rattle.nvm_base.specs.declared.op.BinOp.{BinOp}
use Rattle.pool_map.specs.declared.shapes.Shapes.{Shapes}
use Rattle.pool_layout.specs.declared.limits.Sizes.{Sizes}
use Rattle.pool_layout.specs.Sizes.{slot_words}
use Rattle.ir.specs.declared.instruction.Target.{Target}
use Rattle.ir.specs.declared.instruction.Target.TheVariants.{Root, Field}
use Rattle.ir.specs.declared.instruction.Instruction.{Instruction}
use Rattle.ir.specs.declared.instruction.Instruction.TheVariants as ir
use Rattle.ir.specs.declared.function.IrFunction.{IrFunction}
use Rattle.pm_machine.specs.declared.op.Op.{Op}
use Rattle.pm_machine.specs.declared.op.Op.TheVariants as op
use Rattle.pm_alloc.specs.declared.local.Reg.TheVariants.{Own, Temp}
use Rattle.pm_alloc.specs.declared.local.Local.{Local}
use Rattle.pm_alloc.specs.declared.local.Local.TheVariants.{Mov, Bin, Jmp, Jz, Trap}
use Rattle.pm_alloc.specs.Placing.{sum, placed}
use Rattle.pm_alloc.specs.Pieces.{fill_code, loop_fill, fills_by_loop, filling, new_head}
use Rattle.pm_alloc.specs.Pieces.{new_code}
use Rattle.codegen.specs.declared.fields.At.{At}
use Rattle.codegen.specs.declared.fields.At.TheVariants.{Word, Element}
use Rattle.codegen.specs.declared.fields.Reach.{Reach}
use Rattle.codegen.specs.Fields.{root_reach, struct_reach, object_words}
use Rattle.codegen.specs.Emit.{at_code, root_code, object_code, address_code, address_offset}
use Rattle.codegen.specs.Emit.{load_at, store_at, make_words, divides, local_code, control}
use Rattle.codegen.specs.Emit.{return_code, piece_width, instruction_places}
use Rattle.ir.specs.Moving.{is_log, place_in}
use Rattle.codegen.specs.Emit.{instruction_code, code_from, emitted_code, has_room, trap_function}
use Rattle.codegen.specs.Emit.{with_code, function_of}
use Rattle.machine_law.specs.emitted.Pairs.{IsStoreFirst, ArePaired, HasPairs, EmitsPairs}

first_append : (a : ℕ) (o : ℤ) (xs ys : List Op) → IsStoreFirst a o xs → IsStoreFirst a o (xs ++ ys)
first_append a o [] ys h = absurd h
first_append a o (x ∷ xs) ys h = h

pairs_append : (xs ys : List Op) → ArePaired xs → ArePaired ys → ArePaired (xs ++ ys)
pairs_append [] ys h rest = rest
pairs_append (op.Log a o ∷ xs) ys h rest = (first_append a o xs ys h.0, pairs_append xs ys h.1 rest)
pairs_append (x ∷ xs) ys h rest = pairs_append xs ys h rest

module _ (s : Sizes) (base p : ℕ) where
  abbrev at : List Local → List Op
  at piece = map (placed base p) piece

  joined : (xs ys : List Local) → ArePaired (at xs) → ArePaired (at ys) → ArePaired (at (xs ++ ys))
  joined xs ys hx hy = subst ArePaired (sym (map-append (placed base p) xs ys))
      (pairs_append (at xs) (at ys) hx hy)

  at_pairs : (q : ℕ) (x : At) → ArePaired (at (at_code q x))
  at_pairs q Word = tt
  at_pairs q (Element i len) = tt

  root_pairs : (o : Option Reach) → ArePaired (at (root_code o))
  root_pairs None = tt
  root_pairs (Some r) = at_pairs 1 r.at

  object_pairs : (b kind : ℕ) (o : Option Reach) → ArePaired (at (object_code s b kind o))
  object_pairs b kind None = tt
  object_pairs b kind (Some r) = at_pairs 12 r.at

  address_pairs : (h : Shapes) (t : Target) → ArePaired (at (address_code s h t))
  address_pairs h (Root field index) = root_pairs (root_reach s h field index)
  address_pairs h (Field b kind field index) =
      object_pairs b kind (struct_reach s h kind field index)

  load_pairs : (to : ℕ) (o : Option ℤ) → ArePaired (at (load_at to o))
  load_pairs to None = tt
  load_pairs to (Some o) = tt

  store_pairs : (b : Bool) (from : ℕ) (o : Option ℤ) → ArePaired (at (store_at b from o))
  store_pairs b from None = tt
  store_pairs true from (Some o) = ((refl, refl), tt)
  store_pairs false from (Some o) = tt

  fill_pairs : (b : Bool) (j c : ℕ) → ArePaired (at (fill_code s b j c))
  fill_pairs b j zero = tt
  fill_pairs true j (suc c) = ((refl, refl), fill_pairs true (j + 1) c)
  fill_pairs false j (suc c) = fill_pairs false (j + 1) c

  filling_pairs : (b d : Bool) (c : ℕ)
      → ArePaired (at (if d then loop_fill s b 8 c else fill_code s b 1 c))
  filling_pairs true true c = ((refl, refl), tt)
  filling_pairs false true c = tt
  filling_pairs b false c = fill_pairs b 1 c

  head_pairs : (kind n : ℕ) → ArePaired (at (new_head s kind n))
  head_pairs kind n = ((refl, refl), tt)

  new_pairs : (to kind c : ℕ) (b : Bool) → ArePaired (at (new_code s to kind c b))
  new_pairs to kind c b =
      let fill : List Local = filling s b 8 c in
      joined (new_head s kind (length fill)) (fill ++ Mov (Own to) (Temp 0) ∷ [])
      (head_pairs kind (length fill))
      (joined fill (Mov (Own to) (Temp 0) ∷ []) (filling_pairs b (fills_by_loop s c) c)
      tt)

  made_if : (to kind c : ℕ) (b d : Bool)
      → ArePaired (at (if d then Trap 2 ∷ [] else new_code s to kind c b))
  made_if to kind c b true = tt
  made_if to kind c b false = new_pairs to kind c b

  made_pairs : (to kind : ℕ) (b : Bool) (o : Option ℕ) → ArePaired (at (make_words s to kind b o))
  made_pairs to kind b None = tt
  made_pairs to kind b (Some c) = made_if to kind c b (nat_le (slot_words s) c)

  bin_pairs : (o : BinOp) (to left right : ℕ) (d : Bool)
      → ArePaired (at (if d then Jz (Own right) 2 ∷ Jmp 3 ∷ Trap 4 ∷ Bin o (Own to) (Own left)
      (Own right) ∷ [] else Bin o (Own to) (Own left) (Own right) ∷ []))
  bin_pairs o to left right true = tt
  bin_pairs o to left right false = tt

  local_pairs : (h : Shapes) (b : Bool) (i : Instruction) → ArePaired (at (local_code s h b i))
  local_pairs h b (ir.Const to value) = tt
  local_pairs h b (ir.Copy to from) = tt
  local_pairs h b (ir.Bin o to left right) = bin_pairs o to left right (divides o)
  local_pairs h b (ir.Load to t) =
      joined (address_code s h t) (load_at to (address_offset s h t)) (address_pairs h t)
      (load_pairs to (address_offset s h t))
  local_pairs h b (ir.Store t from line) =
      joined (address_code s h t) (store_at b from (address_offset s h t)) (address_pairs h t)
      (store_pairs b from (address_offset s h t))
  local_pairs h b (ir.New to kind fill line) = made_pairs to kind fill (object_words s h kind)
  local_pairs h b (ir.Free from kind line) = ((refl, refl), tt)
  local_pairs h b ir.Tick = tt
  local_pairs h b (ir.Trap kind) = tt
  local_pairs h b (ir.Jump place) = tt
  local_pairs h b (ir.Branch on place) = tt
  local_pairs h b (ir.Call to function args) = tt
  local_pairs h b (ir.Return from) = tt
  local_pairs h b (ir.Log t) = tt

return_pairs : (tx : Bool) (from : ℕ) → ArePaired (return_code tx from)
return_pairs true from = tt
return_pairs false from = tt

control_pairs : (tx : Bool) (to : ℕ → ℕ) (i : Instruction) → ArePaired (control tx to i)
control_pairs tx to (ir.Jump place) = tt
control_pairs tx to (ir.Branch on place) = tt
control_pairs tx to (ir.Call r function args) = tt
control_pairs tx to (ir.Return from) = return_pairs tx from
control_pairs tx to (ir.Const r value) = tt
control_pairs tx to (ir.Copy r from) = tt
control_pairs tx to (ir.Bin o r left right) = tt
control_pairs tx to (ir.Load r t) = tt
control_pairs tx to (ir.Store t from line) = tt
control_pairs tx to (ir.New r kind fill line) = tt
control_pairs tx to (ir.Free from kind line) = tt
control_pairs tx to ir.Tick = tt
control_pairs tx to (ir.Trap kind) = tt
control_pairs tx to (ir.Log t) = tt

code_pairs : (s : Sizes) (h : Shapes) (tx : Bool) (base : ℕ) (table : List ℕ) (p : ℕ) (b : Bool)
    (code : List Instruction) → ArePaired (code_from s h tx base table p b code)
code_pairs s h tx base table p b [] = tt
code_pairs s h tx base table p b (i ∷ code) =
    let rest : List Op = code_from s h tx base table (sum p (piece_width s h tx b i))
    (is_log i) code in
    pairs_append (instruction_code s h tx base table p b i) rest
    (pairs_append (control tx (place_in table) i) (map (placed base p) (local_code s h b i))
    (control_pairs tx (place_in table) i) (local_pairs s base p h b i))
    (code_pairs s h tx base table (sum p (piece_width s h tx b i)) (is_log i) code)

with_if : (u : IrFunction) (ops : List Op) (d : Bool) → ArePaired ops
    → HasPairs (if d then record {
      parameters = u.parameters;
      registers = u.registers + 8;
      code = ops;
    } else trap_function u.parameters)
with_if u ops true h = h
with_if u ops false h = tt

function_if : (s : Sizes) (h : Shapes) (u : IrFunction) (d : Bool)
    → HasPairs (if d then with_code u (emitted_code s h u.tx u.registers u.code)
    else trap_function u.parameters)
function_if s h u true = with_if u (emitted_code s h u.tx u.registers u.code)
    (nat_lt (length (emitted_code s h u.tx u.registers u.code)) (2 ^ 32))
    (code_pairs s h u.tx u.registers (instruction_places s h u.tx 0 false u.code) 0 false u.code)
function_if s h u false = tt

all_pairs : (s : Sizes) (h : Shapes) (us : List IrFunction)
    → AllByRecursion HasPairs (map (function_of s h) us)
all_pairs s h [] = tt
all_pairs s h (u ∷ us) = (function_if s h u (has_room u.registers u.code), all_pairs s h us)

pub emits_pairs : EmitsPairs
emits_pairs s program = all_pairs s program.shapes program.functions
