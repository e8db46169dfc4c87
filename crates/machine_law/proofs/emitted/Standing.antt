-- The piece of an instruction is in its function.
use Rattle.std.proofs.Common.{◌≡◌, ℕ, zero, suc, ◌+◌, ◌-◌, ◌<◌, ◌^◌, Bool, true, false, List, []}
use Rattle.std.proofs.Common.{◌∷◌, ◌++◌, length, map, slice_get, Option, Some, refl, sym, ap, ◌∙◌}
use Rattle.std.proofs.Common.{subst, arith, ltb, length-append}
use Rattle.std.specs.Prelude.{if◌then◌else◌, nat_le, ◌&&◌, slice_index_or, option_map}
use Rattle.std.specs.List.{list_all, AllByRecursion}
use Rattle.std.proofs.lemmas.Bool.{leb-true, ltb-true, lt-ltb, and_parts}
use Rattle.std.proofs.lemmas.List.{length-map}
use Rattle.std.proofs.lemmas.Option.{slice_get-map}
use Rattle.pool_map.specs.declared.shapes.Shapes.{Shapes}
use Rattle.pool_layout.specs.declared.limits.Sizes.{Sizes}
use Rattle.ir.specs.declared.instruction.Instruction.{Instruction}
use Rattle.ir.specs.declared.instruction.Instruction.TheVariants as ir
use Rattle.ir.specs.declared.function.IrFunction.{IrFunction}
use Rattle.pm_machine.specs.declared.image.Image.{Image}
use Rattle.pm_machine.specs.declared.op.Op.{Op}
use Rattle.pm_machine.specs.declared.op.Function.{Function}
use Rattle.pm_machine.specs.Machine.{fetch_in}
use Rattle.pm_alloc.specs.declared.local.Reg.{Reg}
use Rattle.pm_alloc.specs.declared.local.Reg.TheVariants.{Own, Temp}
use Rattle.pm_alloc.specs.declared.local.Local.{Local}
use Rattle.pm_alloc.specs.declared.local.Local.TheVariants.{Const, Mov, Bin, Jmp, Jz, Load, Store}
use Rattle.pm_alloc.specs.declared.local.Local.TheVariants.{Find, Log, Tick, Trap}
use Rattle.pm_alloc.specs.Placing.{sum, placed}
use Rattle.codegen.specs.Names.{is_below}
use Rattle.codegen.specs.Emit.{local_code, piece_width, instruction_places}
use Rattle.ir.specs.Moving.{is_log, place_in}
use Rattle.codegen.specs.Emit.{instruction_code, code_from, emitted_code, trap_function, with_code}
use Rattle.codegen.specs.Emit.{function_of}
use Rattle.codegen.proofs.Fine.{reg_fine, fine, local_fine}
use Rattle.machine_law.specs.emitted.Placed.{IsReg, IsFine, IsPlaced}
use Rattle.machine_law.specs.emitted.Standing.{logged_before, Stays, table_of, HasRoom, StandsLaw}
use Rattle.machine_law.proofs.emitted.TidyCode.{next_is, get_after}

-- a fine piece, as a test and as a fact
reg_is : (r : ℕ) (a : Reg) → reg_fine r a ≡ true → IsReg r a
reg_is r (Own a) ok = ltb-true a r ok
reg_is r (Temp j) ok = ltb-true j 8 ok

fine_is : (n r : ℕ) (l : Local) → fine n r l ≡ true → IsFine n r l
fine_is n r (Const a v) ok = reg_is r a ok
fine_is n r (Mov a b) ok = let parts = and_parts (reg_fine r a) (reg_fine r b) ok in
    (reg_is r a parts.0, reg_is r b parts.1)
fine_is n r (Bin o a b c) ok =
    let parts = and_parts (reg_fine r a) (reg_fine r b && reg_fine r c) ok in
    let rest = and_parts (reg_fine r b) (reg_fine r c) parts.1 in
    (reg_is r a parts.0, reg_is r b rest.0, reg_is r c rest.1)
fine_is n r (Jmp t) ok = leb-true t n ok
fine_is n r (Jz a t) ok = let parts = and_parts (reg_fine r a) (nat_le t n) ok in
    (reg_is r a parts.0, leb-true t n parts.1)
fine_is n r (Load a b o) ok = let parts = and_parts (reg_fine r a) (reg_fine r b) ok in
    (reg_is r a parts.0, reg_is r b parts.1)
fine_is n r (Find a) ok = reg_is r a ok
fine_is n r (Store a o b) ok = let parts = and_parts (reg_fine r a) (reg_fine r b) ok in
    (reg_is r a parts.0, reg_is r b parts.1)
fine_is n r (Log a o) ok = reg_is r a ok
fine_is n r Tick ok = tt
fine_is n r (Trap k) ok = tt

all_fine : (n r : ℕ) (piece : List Local) → list_all (fine n r) piece ≡ true
    → AllByRecursion (IsFine n r) piece
all_fine n r [] ok = tt
all_fine n r (l ∷ piece) ok =
    let parts = and_parts (fine n r l) (list_all (fine n r) piece) ok in
    (fine_is n r l parts.0, all_fine n r piece parts.1)

all_below_at : (r : ℕ) (code : List Instruction) (q : ℕ) (i : Instruction)
    → list_all (is_below r) code ≡ true → slice_get code q ≡ Some i → is_below r i ≡ true
all_below_at r [] q i ok e = absurd (cc)
all_below_at r (j ∷ code) zero i ok e =
    let same : j ≡ i = cc in
    let parts = and_parts (is_below r j) (list_all (is_below r) code) ok in
    subst (λ (k : Instruction). is_below r k ≡ true) same parts.0
all_below_at r (j ∷ code) (suc q) i ok e = let parts =
    and_parts (is_below r j) (list_all (is_below r) code) ok in all_below_at r code q i parts.1 e

-- an element of a mapped list, with others after it
get_mapped : (f : Local → Op) (piece : List Local) (ops : List Op) (k : ℕ) (l : Local)
    → slice_get piece k ≡ Some l → slice_get (map f piece ++ ops) k ≡ Some (f l)
get_mapped f [] ops k l e = absurd (cc)
get_mapped f (j ∷ piece) ops zero l e = let same : j ≡ l = cc in ap (λ (x : Local). Some (f x)) same
get_mapped f (j ∷ piece) ops (suc k) l e = get_mapped f piece ops k l e

module _ (s : Sizes) (h : Shapes) (tx : Bool) (r : ℕ) (table : List ℕ) where
  -- an instruction's code within all code, after a front
  pub record IsAt (all : List Op) (p : ℕ) (b : Bool) (i : Instruction) : Type 0 where
    pub front : List Op
    pub rest : List Op
    pub is : all ≡ front ++ (instruction_code s h tx r table p b i ++ rest)
    pub long : length front ≡ p
    pub few : p + length (instruction_code s h tx r table p b i) < 2 ^ 32

  at_is : (code : List Instruction) (p : ℕ) (b : Bool) (pre : List Op) (q : ℕ) (i : Instruction)
      → length pre ≡ p → p + length (code_from s h tx r table p b code) < 2 ^ 32
      → slice_get code q ≡ Some i →
      IsAt (pre ++ code_from s h tx r table p b code)
      (slice_index_or (instruction_places s h tx p b code) q (2 ^ 32 - 1))
      (logged_before b code q) i
  at_is [] p b pre q i long few e = absurd (cc)
  at_is (j ∷ code) p b pre zero i long few e =
      let same : j ≡ i = cc in
      let rest : List Op = code_from s h tx r table (sum p (piece_width s h tx b j))
      (is_log j) code in
      let all : length (instruction_code s h tx r table p b j ++ rest)
      ≡ length (instruction_code s h tx r table p b j) + length rest =
      length-append (instruction_code s h tx r table p b j) rest in
      subst (λ (k : Instruction). IsAt (pre ++ code_from s h tx r table p b (j ∷ code)) p b k) same
      (record { front = pre; rest = rest; is = refl; long = long; few = omega arith })
  at_is (j ∷ code) p b pre (suc q) i long few e =
      let next = next_is s h tx r table p b j code pre long few in
      subst (λ (ops : List Op). IsAt ops
      (slice_index_or (instruction_places s h tx (sum p (piece_width s h tx b j)) (is_log j) code)
      q (2 ^ 32 - 1)) (logged_before (is_log j) code q) i) (sym next.same)
      (at_is code (sum p (piece_width s h tx b j)) (is_log j)
      (pre ++ instruction_code s h tx r table p b j) q i next.long next.few e)

  stays_code : (p : ℕ) (b : Bool) (i : Instruction) → Stays i
      → instruction_code s h tx r table p b i ≡ map (placed r p) (local_code s h b i)
  stays_code p b (ir.Jump place) is = absurd is
  stays_code p b (ir.Branch on place) is = absurd is
  stays_code p b (ir.Call to f args) is = absurd is
  stays_code p b (ir.Return from) is = absurd is
  stays_code p b (ir.Const to value) is = refl
  stays_code p b (ir.Copy to from) is = refl
  stays_code p b (ir.Bin o to left right) is = refl
  stays_code p b (ir.Load to t) is = refl
  stays_code p b (ir.Store t from line) is = refl
  stays_code p b (ir.New to kind fill line) is = refl
  stays_code p b (ir.Free from kind line) is = refl
  stays_code p b ir.Tick is = refl
  stays_code p b (ir.Trap k) is = refl
  stays_code p b (ir.Log t) is = refl

  placed_at : (image : Image) (f : ℕ) (u : Function) (p : ℕ) (b : Bool) (i : Instruction)
      → slice_get image.parts.functions f ≡ Some u → IsAt u.code p b i → Stays i
      → is_below r i ≡ true
      → r + 8 < 2 ^ 32 → IsPlaced image f r p (local_code s h b i)
  placed_at image f u p b i found at stays low room =
      let piece : List Local = local_code s h b i in
      let code : instruction_code s h tx r table p b i ≡ map (placed r p) piece =
      stays_code p b i stays in
      let whole : u.code ≡ at.front ++ (map (placed r p) piece ++ at.rest) =
      at.is ∙ ap (λ (ops : List Op). at.front ++ (ops ++ at.rest)) code in
      let long : length (instruction_code s h tx r table p b i) ≡ length piece =
      ap (λ (ops : List Op). length ops) code ∙ length-map piece (placed r p) in
      record {
        there = λ k l e.
            ap (fetch_in (p + k)) found
            ∙ ap (λ (ops : List Op). slice_get ops (p + k)) whole
            ∙ ap (λ (n : ℕ). slice_get (at.front ++ (map (placed r p) piece ++ at.rest)) (n + k))
            (sym at.long)
            ∙ get_after at.front (map (placed r p) piece ++ at.rest) k
            ∙ get_mapped (placed r p) piece at.rest k l e;
        fine = all_fine (length piece) r piece (local_fine s h r b i low);
        room = room;
        short = omega (arith, at.few, long);
      }

module _ (s : Sizes) (h : Shapes) (u : IrFunction) (room : HasRoom s h u) where
  abbrev ops_of : List Op
  ops_of = emitted_code s h u.tx u.registers u.code

  abbrev made : Function
  made = record { parameters = u.parameters; registers = u.registers + 8; code = ops_of }

  made_is : function_of s h u ≡ made
  made_is =
      let short : ltb (length ops_of) (2 ^ 32) ≡ true = lt-ltb (length ops_of) (2 ^ 32) room.code in
      ap (λ (d : Bool). if d then with_code u ops_of else trap_function u.parameters) room.registers
      ∙ ap (λ (d : Bool). if d then made else trap_function u.parameters) short

pub stands_all : StandsLaw
stands_all image s program f u q i functions found room at stays =
    let h : Shapes = program.shapes in
    let there : slice_get image.parts.functions f ≡ Some (made s h u room) =
    ap (λ (us : List Function). slice_get us f) functions
    ∙ slice_get-map (function_of s h) program.functions f
    ∙ ap (λ (o : Option IrFunction). option_map (function_of s h) o) found
    ∙ ap (λ (v : Function). Some v) (made_is s h u room) in
    let parts = and_parts (nat_le u.registers (2 ^ 32 - 9)) (list_all (is_below u.registers) u.code)
    room.registers in
    let few : 0 + length (emitted_code s h u.tx u.registers u.code) < 2 ^ 32 =
    omega (arith, room.code) in
    let wide : u.registers + 8 < 2 ^ 32 =
    omega (arith, leb-true u.registers (2 ^ 32 - 9) parts.0) in
    placed_at s h u.tx u.registers (table_of s h u) image f (made s h u room)
    (place_in (table_of s h u) q) (logged_before false u.code q) i there
    (at_is s h u.tx u.registers (table_of s h u) u.code 0 false [] q i refl few at) stays
    (all_below_at u.registers u.code q i parts.1 at) wide
