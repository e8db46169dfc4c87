-- The emitted code of a program that is well formed is good code for the machine.
use Rattle.std.proofs.Common.{◌≡◌, ℕ, zero, suc, ◌+◌, ◌-◌, ◌<◌, ◌≤◌, ◌^◌, Bool, true, false, List}
use Rattle.std.proofs.Common.{[], ◌∷◌, ◌++◌, length, map, Option, Some, None, refl, sym, ap, ◌∙◌}
use Rattle.std.proofs.Common.{arith, ltb, leb, length-append}
use Rattle.std.specs.Prelude.{nat_lt, nat_le, ◌&&◌, ◌||◌, if◌then◌else◌, min, slice_get}
use Rattle.std.specs.Prelude.{slice_index_or, option_map}
use Rattle.std.specs.List.{list_all, AllByRecursion}
use Rattle.std.proofs.Math.Bool.{or-true}
use Rattle.std.proofs.lemmas.Bool.{lt-ltb, le-leb, ltb-true, leb-true, eq-eqb, and_from, and_parts}
use Rattle.std.proofs.lemmas.List.{length-map}
use Rattle.std.proofs.lemmas.Option.{slice_get-map}
use Rattle.pool_map.specs.declared.shapes.Shapes.{Shapes}
use Rattle.pool_map.specs.declared.trap.TrapKind.{TrapKind}
use Rattle.pool_map.specs.declared.trap.TrapKind.TheVariants as kinds
use Rattle.pool_map.specs.Trap.{trap_number}
use Rattle.pool_layout.specs.declared.limits.Sizes.{Sizes}
use Rattle.ir.specs.declared.instruction.Instruction.{Instruction}
use Rattle.ir.specs.declared.instruction.Instruction.TheVariants as ir
use Rattle.ir.specs.declared.function.IrFunction.{IrFunction}
use Rattle.ir.specs.declared.function.Ir.{Ir}
use Rattle.ir.specs.WellFormed.{IsInstruction, IsFunction, IsWellFormed, EndsWell, TakesArgs}
use Rattle.pm_machine.specs.declared.op.Op.{Op}
use Rattle.pm_machine.specs.declared.op.Op.TheVariants as op
use Rattle.pm_machine.specs.declared.op.Function.{Function}
use Rattle.pm_machine.specs.Checked.{takes_arguments, op_is_there, is_end, is_good_op, bad_from}
use Rattle.pm_machine.specs.Checked.{bad_in, bad_of, at_function}
use Rattle.pm_alloc.specs.declared.local.Reg.{Reg}
use Rattle.pm_alloc.specs.declared.local.Reg.TheVariants.{Own, Temp}
use Rattle.pm_alloc.specs.declared.local.Local.{Local}
use Rattle.pm_alloc.specs.declared.local.Local.TheVariants.{Const, Mov, Bin, Jmp, Jz, Load, Store}
use Rattle.pm_alloc.specs.declared.local.Local.TheVariants.{Find, Log, Tick, Trap}
use Rattle.pm_alloc.specs.Placing.{sum, register_number, placed}
use Rattle.codegen.specs.Names.{is_below}
use Rattle.codegen.specs.Emit.{control, return_code, local_code, piece_width}
use Rattle.ir.specs.Moving.{is_log, place_in}
use Rattle.codegen.specs.Emit.{instruction_places, instruction_code, code_from}
use Rattle.codegen.specs.Emit.{emitted_code, has_room, trap_function, with_code, function_of}
use Rattle.codegen.specs.Emit.{functions_of}
use Rattle.codegen.proofs.Fine.{reg_fine, fine, local_fine}

number_below : (r : ℕ) (a : Reg) → r + 8 < 2 ^ 32 → reg_fine r a ≡ true
    → ltb (register_number r a) (r + 8) ≡ true
number_below r (Own a) room low = lt-ltb a (r + 8) (omega (arith, ltb-true a r low))
number_below r (Temp j) room low =
    lt-ltb (min (r + j) (2 ^ 32 - 1)) (r + 8) (omega (arith, ltb-true j 8 low))

place_below : (p t n size : ℕ) → p + n < size → leb t n ≡ true → ltb (sum p t) size ≡ true
place_below p t n size room few =
    lt-ltb (min (p + t) (2 ^ 32 - 1)) size (omega (arith, leb-true t n few))

there : (us : List Function) (r n p size : ℕ) (l : Local) → r + 8 < 2 ^ 32 → p + n < size
    → fine n r l ≡ true → op_is_there us (r + 8) size (placed r p l) ≡ true
there us r n p size (Const a v) room afterwards ok = number_below r a room ok
there us r n p size (Mov a b) room afterwards ok =
    let parts = and_parts (reg_fine r a) (reg_fine r b) ok in
    and_from _ _ (number_below r a room parts.0) (number_below r b room parts.1)
there us r n p size (Bin o a b c) room afterwards ok =
    let parts = and_parts (reg_fine r a) (reg_fine r b && reg_fine r c) ok in
    let rest = and_parts (reg_fine r b) (reg_fine r c) parts.1 in
    and_from _ _ (number_below r a room parts.0)
    (and_from _ _ (number_below r b room rest.0) (number_below r c room rest.1))
there us r n p size (Jmp t) room afterwards ok = place_below p t n size afterwards ok
there us r n p size (Jz a t) room afterwards ok =
    let parts = and_parts (reg_fine r a) (nat_le t n) ok in
    and_from _ _ (number_below r a room parts.0) (place_below p t n size afterwards parts.1)
there us r n p size (Load a b o) room afterwards ok =
    let parts = and_parts (reg_fine r a) (reg_fine r b) ok in
    and_from _ _ (number_below r a room parts.0) (number_below r b room parts.1)
there us r n p size (Store a o b) room afterwards ok =
    let parts = and_parts (reg_fine r a) (reg_fine r b) ok in
    and_from _ _ (number_below r a room parts.0) (number_below r b room parts.1)
there us r n p size (Find a) room afterwards ok = number_below r a room ok
there us r n p size (Log a o) room afterwards ok = number_below r a room ok
there us r n p size Tick room afterwards ok = refl
there us r n p size (Trap k) room afterwards ok = ok

-- one good instruction of the machine; the rest depends on what follows
op_passes : (us : List Function) (u : Function) (q : ℕ) (o : Op) (rest : List Op)
    → op_is_there us u.registers (length u.code) o ≡ true → q + 1 < length u.code
    → bad_from us u q (o ∷ rest) ≡ bad_from us u (q + 1) rest
op_passes us u q o rest is more =
    let next : ltb (q + 1) (length u.code) ≡ true = lt-ltb (q + 1) (length u.code) more in
    let good : is_good_op us u q o ≡ true =
    and_from _ _ is (ap (λ (b : Bool). b || is_end o) next) in
    ap (λ (b : Bool). if b then bad_from us u (q + 1) rest else Some q) good

last_passes : (us : List Function) (u : Function) (q : ℕ) (o : Op)
    → op_is_there us u.registers (length u.code) o ≡ true → is_end o ≡ true
    → bad_from us u q (o ∷ []) ≡ None
last_passes us u q o is stop =
    let good : is_good_op us u q o ≡ true =
    and_from _ _ is (ap (λ (b : Bool). nat_lt (q + 1) (length u.code) || b) stop
    ∙ or-true (nat_lt (q + 1) (length u.code))) in
    ap (λ (b : Bool). if b then bad_from us u (q + 1) [] else Some q) good

piece_passes : (us : List Function) (u : Function) (r n p q : ℕ) (piece : List Local)
    (rest : List Op) → u.registers ≡ r + 8 → r + 8 < 2 ^ 32 → p + n < length u.code
    → q + length piece < length u.code → list_all (fine n r) piece ≡ true
    → bad_from us u q (map (placed r p) piece ++ rest) ≡ bad_from us u (q + length piece) rest
piece_passes us u r n p q [] rest size room afterwards more ok = let e : q ≡ q + 0 = omega arith in
    ap (λ (m : ℕ). bad_from us u m rest) e
piece_passes us u r n p q (l ∷ piece) rest size room afterwards more ok =
    let parts = and_parts (fine n r l) (list_all (fine n r) piece) ok in
    let is : op_is_there us u.registers (length u.code) (placed r p l) ≡ true =
    ap (λ (m : ℕ). op_is_there us m (length u.code) (placed r p l)) size
    ∙ there us r n p (length u.code) l room afterwards parts.0 in
    let e : q + 1 + length piece ≡ q + suc (length piece) = omega arith in
    op_passes us u q (placed r p l) (map (placed r p) piece ++ rest) is (omega arith)
    ∙ piece_passes us u r n p (q + 1) piece rest size room afterwards (omega arith) parts.1
    ∙ ap (λ (m : ℕ). bad_from us u m rest) e

wider : (a r m : ℕ) → r ≤ m → ltb a r ≡ true → ltb a m ≡ true
wider a r m more low = lt-ltb a m (omega (arith, ltb-true a r low))

all_wider : (args : List ℕ) (r m : ℕ) → r ≤ m → list_all (λ a. nat_lt a r) args ≡ true
    → list_all (λ a. nat_lt a m) args ≡ true
all_wider [] r m more low = refl
all_wider (a ∷ args) r m more low =
    let parts = and_parts (nat_lt a r) (list_all (λ (c : ℕ). nat_lt c r) args) low in
    and_from _ _ (wider a r m more parts.0) (all_wider args r m more parts.1)

-- the targets of an instruction that leads elsewhere exist
abbrev Reaches : List Function → List ℕ → (size : ℕ) → Instruction → Type 0
Reaches us table size (ir.Jump place) = nat_lt (place_in table place) size ≡ true
Reaches us table size (ir.Branch on place) = nat_lt (place_in table place) size ≡ true
Reaches us table size (ir.Call to f args) = takes_arguments (slice_get us f) (length args) ≡ true
Reaches us table size (ir.Return from) = Unit {0}
Reaches us table size (ir.Const to value) = Unit {0}
Reaches us table size (ir.Copy to from) = Unit {0}
Reaches us table size (ir.Bin o to left right) = Unit {0}
Reaches us table size (ir.Load to t) = Unit {0}
Reaches us table size (ir.Store t from line) = Unit {0}
Reaches us table size (ir.New to kind fill line) = Unit {0}
Reaches us table size (ir.Free from kind line) = Unit {0}
Reaches us table size ir.Tick = Unit {0}
Reaches us table size (ir.Trap k) = Unit {0}
Reaches us table size (ir.Log t) = Unit {0}

trap_there : (k : TrapKind) → (nat_lt 0 (trap_number k) && nat_lt (trap_number k) 9) ≡ true
trap_there kinds.Null = refl
trap_there kinds.Stale = refl
trap_there kinds.Index = refl
trap_there kinds.Divide = refl
trap_there kinds.Steps = refl
trap_there kinds.Abort = refl
trap_there kinds.LogFull = refl
trap_there kinds.Depth = refl

-- u: a function with r registers of its own; table: the places of its instructions
module _ (us : List Function) (u : Function) (s : Sizes) (h : Shapes) (tx : Bool) (r : ℕ)
    (table : List ℕ) (size : u.registers ≡ r + 8) (room : r + 8 < 2 ^ 32)
    (short : length u.code < 2 ^ 32) where
  abbrev code_at : ℕ → Bool → List Instruction → List Op
  code_at p b code = code_from s h tx r table p b code

  abbrev one_at : ℕ → Bool → Instruction → List Op
  one_at p b i = instruction_code s h tx r table p b i

  own : (a : ℕ) → ltb a r ≡ true → ltb a u.registers ≡ true
  own a low = wider a r u.registers (omega arith) low

  local_passes : (p : ℕ) (piece : List Local) (rest : List Op)
      → list_all (fine (length piece) r) piece ≡ true → p + length (map (placed r p) piece)
      < length u.code → bad_from us u p (map (placed r p) piece ++ rest)
      ≡ bad_from us u (p + length (map (placed r p) piece)) rest
  local_passes p piece rest ok more =
      let same : length (map (placed r p) piece) ≡ length piece = length-map piece (placed r p) in
      piece_passes us u r (length piece) p p piece rest size room (omega arith) (omega arith) ok
      ∙ ap (λ (m : ℕ). bad_from us u (p + m) rest) (sym same)

  return_passes : (p from : ℕ) (c : Bool) (rest : List Op) → ltb from r ≡ true
      → p + length (return_code c from ++ []) < length u.code
      → bad_from us u p ((return_code c from ++ []) ++ rest)
      ≡ bad_from us u (p + length (return_code c from ++ [])) rest
  return_passes p from false rest low more = op_passes us u p (op.Ret from) rest (own from low) more
  return_passes p from true rest low more =
      let e : p + 1 + 1 + 1 ≡ p + 3 = omega arith in
      op_passes us u p op.Flush (op.Fence ∷ op.Halt from ∷ rest) refl (omega arith)
      ∙ op_passes us u (p + 1) op.Fence (op.Halt from ∷ rest) refl (omega arith)
      ∙ op_passes us u (p + 1 + 1) (op.Halt from) rest (own from low) (omega arith)
      ∙ ap (λ (m : ℕ). bad_from us u m rest) e

  instruction_passes : (p : ℕ) (b : Bool) (i : Instruction) (rest : List Op) → is_below r i ≡ true
      → Reaches us table (length u.code) i → p + length (one_at p b i) < length u.code
      → bad_from us u p (one_at p b i ++ rest) ≡ bad_from us u (p + length (one_at p b i)) rest
  instruction_passes p b (ir.Jump place) rest low leads more =
      op_passes us u p (op.Jmp (place_in table place)) rest leads more
  instruction_passes p b (ir.Branch on place) rest low leads more =
      op_passes us u p (op.Jz on (place_in table place)) rest (and_from _ _ (own on low) leads) more
  instruction_passes p b (ir.Call to f args) rest low leads more =
      let parts = and_parts (nat_lt to r) (list_all (λ (a : ℕ). nat_lt a r) args) low in
      let wide : r ≤ u.registers = omega arith in
      op_passes us u p (op.Call to f args) rest
      (and_from _ _ (own to parts.0) (and_from _ _ (all_wider args r u.registers wide parts.1)
      leads)) more
  instruction_passes p b (ir.Return from) rest low leads more =
      return_passes p from tx rest low more
  instruction_passes p b (ir.Const to value) rest low leads more =
      local_passes p (local_code s h b (ir.Const to value)) rest
      (local_fine s h r b (ir.Const to value) low) more
  instruction_passes p b (ir.Copy to from) rest low leads more =
      local_passes p (local_code s h b (ir.Copy to from)) rest
      (local_fine s h r b (ir.Copy to from) low) more
  instruction_passes p b (ir.Bin o to left right) rest low leads more =
      local_passes p (local_code s h b (ir.Bin o to left right)) rest
      (local_fine s h r b (ir.Bin o to left right) low) more
  instruction_passes p b (ir.Load to t) rest low leads more =
      local_passes p (local_code s h b (ir.Load to t)) rest (local_fine s h r b (ir.Load to t) low)
      more
  instruction_passes p b (ir.Store t from line) rest low leads more =
      local_passes p (local_code s h b (ir.Store t from line)) rest
      (local_fine s h r b (ir.Store t from line) low) more
  instruction_passes p b (ir.New to kind fill line) rest low leads more =
      local_passes p (local_code s h b (ir.New to kind fill line)) rest
      (local_fine s h r b (ir.New to kind fill line) low) more
  instruction_passes p b (ir.Free from kind line) rest low leads more =
      local_passes p (local_code s h b (ir.Free from kind line)) rest
      (local_fine s h r b (ir.Free from kind line) low) more
  instruction_passes p b ir.Tick rest low leads more =
      local_passes p (local_code s h b ir.Tick) rest refl more
  instruction_passes p b (ir.Trap k) rest low leads more =
      local_passes p (local_code s h b (ir.Trap k)) rest (local_fine s h r b (ir.Trap k) low) more
  instruction_passes p b (ir.Log t) rest low leads more = local_passes p [] rest refl more

  control_length : (b : Bool) (i : Instruction) → length (control tx (place_in table) i)
      ≡ length (control tx (λ q. 0) i)
  control_length b (ir.Jump place) = refl
  control_length b (ir.Branch on place) = refl
  control_length b (ir.Call to f args) = refl
  control_length b (ir.Return from) = refl
  control_length b (ir.Const to value) = refl
  control_length b (ir.Copy to from) = refl
  control_length b (ir.Bin o to left right) = refl
  control_length b (ir.Load to t) = refl
  control_length b (ir.Store t from line) = refl
  control_length b (ir.New to kind fill line) = refl
  control_length b (ir.Free from kind line) = refl
  control_length b ir.Tick = refl
  control_length b (ir.Trap k) = refl
  control_length b (ir.Log t) = refl

  -- the next place is this one plus the code's length
  next_place : (p : ℕ) (b : Bool) (i : Instruction) → p + length (one_at p b i) < 2 ^ 32
      → sum p (piece_width s h tx b i) ≡ p + length (one_at p b i)
  next_place p b i few =
      let long : length (one_at p b i) ≡ length (control tx (place_in table) i)
      + length (map (placed r p) (local_code s h b i)) =
      length-append (control tx (place_in table) i) (map (placed r p) (local_code s h b i)) in
      let same : length (map (placed r p) (local_code s h b i)) ≡ length (local_code s h b i) =
      length-map (local_code s h b i) (placed r p) in
      omega (arith, control_length b i)

  return_some : (c : Bool) (a : ℕ) → 0 < length (return_code c a ++ [])
  return_some true a = omega arith
  return_some false a = omega arith

  one_some : (p : ℕ) (b : Bool) (i : Instruction) → EndsWell (i ∷ []) → 0 < length (one_at p b i)
  one_some p b (ir.Jump place) ends = omega arith
  one_some p b (ir.Return from) ends = return_some tx from
  one_some p b (ir.Trap k) ends = omega arith
  one_some p b (ir.Branch on place) ends = absurd ends
  one_some p b (ir.Call to f args) ends = absurd ends
  one_some p b (ir.Const to value) ends = absurd ends
  one_some p b (ir.Copy to from) ends = absurd ends
  one_some p b (ir.Bin o to left right) ends = absurd ends
  one_some p b (ir.Load to t) ends = absurd ends
  one_some p b (ir.Store t from line) ends = absurd ends
  one_some p b (ir.New to kind fill line) ends = absurd ends
  one_some p b (ir.Free from kind line) ends = absurd ends
  one_some p b ir.Tick ends = absurd ends
  one_some p b (ir.Log t) ends = absurd ends

  -- code that ends well isn't empty
  code_some : (code : List Instruction) (p : ℕ) (b : Bool) → EndsWell code
      → 0 < length (code_at p b code)
  code_some [] p b ends = absurd ends
  code_some (i ∷ []) p b ends = omega (arith, length-append (one_at p b i) [], one_some p b i ends)
  code_some (i ∷ j ∷ is) p b ends =
      omega (
        arith,
        length-append (one_at p b i)
            (code_at (sum p (piece_width s h tx b i)) (is_log i) (j ∷ is)),
        code_some (j ∷ is) (sum p (piece_width s h tx b i)) (is_log i) ends,
      )

  return_good : (p from : ℕ) (c : Bool) → ltb from r ≡ true → p + length (return_code c from ++ [])
      ≡ length u.code → bad_from us u p (return_code c from ++ []) ≡ None
  return_good p from false low total = last_passes us u p (op.Ret from) (own from low) refl
  return_good p from true low total =
      op_passes us u p op.Flush (op.Fence ∷ op.Halt from ∷ []) refl (omega arith)
      ∙ op_passes us u (p + 1) op.Fence (op.Halt from ∷ []) refl (omega arith)
      ∙ last_passes us u (p + 1 + 1) (op.Halt from) (own from low) refl

  last_good : (p : ℕ) (b : Bool) (i : Instruction) → EndsWell (i ∷ []) → is_below r i ≡ true
      → Reaches us table (length u.code) i → p + length (one_at p b i) ≡ length u.code
      → bad_from us u p (one_at p b i) ≡ None
  last_good p b (ir.Jump place) ends low leads total =
      last_passes us u p (op.Jmp (place_in table place)) leads refl
  last_good p b (ir.Trap k) ends low leads total =
      last_passes us u p (op.Trap (trap_number k)) (trap_there k) refl
  last_good p b (ir.Return from) ends low leads total = return_good p from tx low total
  last_good p b (ir.Branch on place) ends low leads total = absurd ends
  last_good p b (ir.Call to f args) ends low leads total = absurd ends
  last_good p b (ir.Const to value) ends low leads total = absurd ends
  last_good p b (ir.Copy to from) ends low leads total = absurd ends
  last_good p b (ir.Bin o to left right) ends low leads total = absurd ends
  last_good p b (ir.Load to t) ends low leads total = absurd ends
  last_good p b (ir.Store t from line) ends low leads total = absurd ends
  last_good p b (ir.New to kind fill line) ends low leads total = absurd ends
  last_good p b (ir.Free from kind line) ends low leads total = absurd ends
  last_good p b ir.Tick ends low leads total = absurd ends
  last_good p b (ir.Log t) ends low leads total = absurd ends

  flat : (xs : List Op) → xs ++ [] ≡ xs
  flat [] = refl
  flat (x ∷ xs) = ap (λ (ys : List Op). x ∷ ys) (flat xs)

  code_good : (code : List Instruction) (p : ℕ) (b : Bool) → EndsWell code
      → list_all (is_below r) code ≡ true → AllByRecursion (Reaches us table (length u.code)) code
      → p + length (code_at p b code) ≡ length u.code → bad_from us u p (code_at p b code) ≡ None
  code_good [] p b ends low leads total = absurd ends
  code_good (i ∷ []) p b ends low leads total =
      let parts = and_parts (is_below r i) true low in
      let whole : p + length (one_at p b i) ≡ length u.code =
      omega (arith, length-append (one_at p b i) []) in
      ap (λ (ops : List Op). bad_from us u p ops) (flat (one_at p b i))
      ∙ last_good p b i ends parts.0 leads.0 whole
  code_good (i ∷ j ∷ is) p b ends low leads total =
      let parts = and_parts (is_below r i) (list_all (is_below r) (j ∷ is)) low in
      let rest : List Op = code_at (sum p (piece_width s h tx b i)) (is_log i) (j ∷ is) in
      let some : 0 < length rest = code_some (j ∷ is) (sum p (piece_width s h tx b i))
      (is_log i) ends in
      let long : length (one_at p b i ++ rest) ≡ length (one_at p b i) + length rest =
      length-append (one_at p b i) rest in
      let place : sum p (piece_width s h tx b i) ≡ p + length (one_at p b i) =
      next_place p b i (omega arith) in
      let total_rest : sum p (piece_width s h tx b i) + length rest ≡ length u.code = omega arith in
      instruction_passes p b i rest parts.0 leads.0 (omega arith)
      ∙ ap (λ (m : ℕ). bad_from us u m rest) (sym place)
      ∙ code_good (j ∷ is) (sum p (piece_width s h tx b i)) (is_log i) ends parts.1 leads.1
      total_rest

  -- each place of the table is in the function
  place_low : (code : List Instruction) (p : ℕ) (b : Bool) (q : ℕ) → EndsWell code → q < length code
      → p + length (code_at p b code) < 2 ^ 32
      → slice_index_or (instruction_places s h tx p b code) q
      (2 ^ 32 - 1) < p + length (code_at p b code)
  place_low [] p b q ends inside few = absurd ends
  place_low (i ∷ []) p b zero ends inside few = omega (arith, code_some (i ∷ []) p b ends)
  place_low (i ∷ []) p b (suc q) ends inside few = absurd (omega arith)
  place_low (i ∷ j ∷ is) p b zero ends inside few = omega (arith, code_some (i ∷ j ∷ is) p b ends)
  place_low (i ∷ j ∷ is) p b (suc q) ends inside few =
      let rest : List Op = code_at (sum p (piece_width s h tx b i)) (is_log i) (j ∷ is) in
      let long : length (one_at p b i ++ rest) ≡ length (one_at p b i) + length rest =
      length-append (one_at p b i) rest in
      let place : sum p (piece_width s h tx b i) ≡ p + length (one_at p b i) =
      next_place p b i (omega arith) in
      omega (
        arith,
        place_low (j ∷ is) (sum p (piece_width s h tx b i)) (is_log i) q ends
            (omega arith) (omega arith),
      )

trap_good : (us : List Function) (n : ℕ) → bad_in us (trap_function n) ≡ None
trap_good us n = let same : leb n n ≡ true = le-leb n n (omega arith) in rw same refl

abbrev made_if : IrFunction → List Op → Bool → Function
made_if u ops d = if d then record {
  parameters = u.parameters;
  registers = u.registers + 8;
  code = ops;
} else trap_function u.parameters

parameters_with : (u : IrFunction) (ops : List Op) (d : Bool)
    → (made_if u ops d).parameters ≡ u.parameters
parameters_with u ops true = refl
parameters_with u ops false = refl

abbrev coded_if : IrFunction → List Op → Bool → Function
coded_if u ops b = if b then with_code u ops else trap_function u.parameters

parameters_if : (u : IrFunction) (ops : List Op) (b : Bool)
    → (coded_if u ops b).parameters ≡ u.parameters
parameters_if u ops true = parameters_with u ops (nat_lt (length ops) (2 ^ 32))
parameters_if u ops false = refl

-- the machine's function takes as many arguments as the intermediate code's
takes_mapped : (s : Sizes) (h : Shapes) (o : Option IrFunction) (args : List ℕ) → TakesArgs o args
    → takes_arguments (option_map (function_of s h) o) (length args) ≡ true
takes_mapped s h None args same = absurd same
takes_mapped s h (Some u) args same =
    eq-eqb (function_of s h u).parameters (length args)
    (parameters_if u (emitted_code s h u.tx u.registers u.code) (has_room u.registers u.code)
    ∙ sym same)

takes_called : (s : Sizes) (program : Ir) (f : ℕ) (args : List ℕ)
    → TakesArgs (slice_get program.functions f) args
    → takes_arguments (slice_get (functions_of s program) f) (length args) ≡ true
takes_called s program f args same =
    ap (λ (o : Option Function). takes_arguments o (length args))
    (slice_get-map (function_of s program.shapes) program.functions f)
    ∙ takes_mapped s program.shapes (slice_get program.functions f) args same

reaches : (program : Ir) (us : List Function) (table : List ℕ) (size r n : ℕ)
    → ((q : ℕ) → q < n → nat_lt (place_in table q) size ≡ true)
    → ((f : ℕ) (args : List ℕ) → TakesArgs (slice_get program.functions f) args
    → takes_arguments (slice_get us f) (length args) ≡ true) → (i : Instruction)
    → IsInstruction program r n i → Reaches us table size i
reaches program us table size r n low takes_all (ir.Jump place) is = low place is
reaches program us table size r n low takes_all (ir.Branch on place) is = low place is.1
reaches program us table size r n low takes_all (ir.Call to f args) is = takes_all f args is.2
reaches program us table size r n low takes_all (ir.Return from) is = tt
reaches program us table size r n low takes_all (ir.Const to value) is = tt
reaches program us table size r n low takes_all (ir.Copy to from) is = tt
reaches program us table size r n low takes_all (ir.Bin o to left right) is = tt
reaches program us table size r n low takes_all (ir.Load to t) is = tt
reaches program us table size r n low takes_all (ir.Store t from line) is = tt
reaches program us table size r n low takes_all (ir.New to kind fill line) is = tt
reaches program us table size r n low takes_all (ir.Free from kind line) is = tt
reaches program us table size r n low takes_all ir.Tick is = tt
reaches program us table size r n low takes_all (ir.Trap k) is = tt
reaches program us table size r n low takes_all (ir.Log t) is = tt

all_reach : (program : Ir) (us : List Function) (table : List ℕ) (size r n : ℕ)
    → ((q : ℕ) → q < n → nat_lt (place_in table q) size ≡ true)
    → ((f : ℕ) (args : List ℕ) → TakesArgs (slice_get program.functions f) args
    → takes_arguments (slice_get us f) (length args) ≡ true) → (code : List Instruction)
    → AllByRecursion (IsInstruction program r n) code → AllByRecursion (Reaches us table size) code
all_reach program us table size r n low takes_all [] is = tt
all_reach program us table size r n low takes_all (i ∷ code) is = (
  reaches program us table size r n low takes_all i is.0,
  all_reach program us table size r n low takes_all code is.1,
)

-- u is well formed, and so is the program
module _ (s : Sizes) (program : Ir) (u : IrFunction) (formed : IsFunction program u) where
  abbrev us : List Function
  us = functions_of s program

  abbrev ops : List Op
  ops = emitted_code s program.shapes u.tx u.registers u.code

  abbrev table : List ℕ
  table = instruction_places s program.shapes u.tx 0 false u.code

  abbrev made : Function
  made = record { parameters = u.parameters; registers = u.registers + 8; code = ops }

  made_good : (nat_le u.registers (2 ^ 32 - 9) && list_all (is_below u.registers) u.code) ≡ true
      → length ops < 2 ^ 32 → bad_in us made ≡ None
  made_good fits short =
      let parts = and_parts (nat_le u.registers (2 ^ 32 - 9))
      (list_all (is_below u.registers) u.code) fits in
      let room : u.registers + 8 < 2 ^ 32 =
      omega (arith, leb-true u.registers (2 ^ 32 - 9) parts.0) in
      let some : 0 < length ops = code_some us made s program.shapes u.tx u.registers table refl
      room short u.code 0 false formed.2 in
      let first : leb u.parameters (u.registers + 8) ≡ true =
      le-leb u.parameters (u.registers + 8) (omega (arith, formed.0)) in
      let second : ltb 0 (length ops) ≡ true = lt-ltb 0 (length ops) some in
      let both : (leb u.parameters (u.registers + 8) && ltb 0 (length ops)) ≡ true =
      and_from _ _ first second in
      let low : (q : ℕ) → q < length u.code → nat_lt (place_in table q) (length ops) ≡ true =
      λ q inside. lt-ltb (place_in table q) (length ops)
      (omega (
        arith,
        place_low us made s program.shapes u.tx u.registers table refl room short
            u.code 0 false q formed.2 inside (omega arith),
      )) in
      let leads : AllByRecursion (Reaches us table (length ops)) u.code =
      all_reach program us table (length ops) u.registers (length u.code) low (λ f args same.
      takes_called s program f args same) u.code formed.3 in
      ap (λ (b : Bool). if b then bad_from us made 0 ops else Some 0) both
      ∙ code_good us made s program.shapes u.tx u.registers table refl room short u.code 0 false
      formed.2 parts.1 leads (omega arith)

  with_good : (d : Bool) → nat_lt (length ops) (2 ^ 32) ≡ d
      → (nat_le u.registers (2 ^ 32 - 9) && list_all (is_below u.registers) u.code) ≡ true
      → bad_in us (made_if u ops d) ≡ None
  with_good true e fits = made_good fits (ltb-true (length ops) (2 ^ 32) e)
  with_good false e fits = trap_good us u.parameters

  function_good_if : (b : Bool) → has_room u.registers u.code ≡ b
      → bad_in us (coded_if u ops b) ≡ None
  function_good_if true e = with_good (nat_lt (length ops) (2 ^ 32)) refl e
  function_good_if false e = trap_good us u.parameters

  function_good : bad_in us (function_of s program.shapes u) ≡ None
  function_good = function_good_if (has_room u.registers u.code) refl

functions_good : (s : Sizes) (program : Ir) (f : ℕ) (vs : List IrFunction)
    → AllByRecursion (IsFunction program) vs
    → bad_of (functions_of s program) f (map (function_of s program.shapes) vs) ≡ None
functions_good s program f [] formed = refl
functions_good s program f (v ∷ vs) formed =
    ap (λ (b : Option ℕ). at_function f b
    (bad_of (functions_of s program) (f + 1) (map (function_of s program.shapes) vs)))
    (function_good s program v formed.0)
    ∙ functions_good s program (f + 1) vs formed.1

-- no place of the code of a well formed program is bad
pub program_good : (s : Sizes) (program : Ir) → IsWellFormed program
    → bad_of (functions_of s program) 0 (functions_of s program) ≡ None
program_good s program formed = functions_good s program 0 program.functions formed.1
