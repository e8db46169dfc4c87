-- The places where each instruction's code begins and where the next one's begins.
use Rattle.std.proofs.Common.{◌≡◌, ℕ, zero, suc, ◌+◌, ◌<◌, ◌^◌, Bool, true, false, List, [], ◌∷◌}
use Rattle.std.proofs.Common.{◌++◌, length, slice_get, Some, refl, sym, ap, ◌∙◌, subst, arith}
use Rattle.std.specs.Prelude.{◌-◌, slice_index_or, if◌then◌else◌, nat_lt}
use Rattle.std.proofs.lemmas.Bool.{lt-ltb}
use Rattle.pool_map.specs.declared.shapes.Shapes.{Shapes}
use Rattle.pool_layout.specs.declared.limits.Sizes.{Sizes}
use Rattle.ir.specs.declared.instruction.Instruction.{Instruction}
use Rattle.ir.specs.declared.function.IrFunction.{IrFunction}
use Rattle.pm_machine.specs.declared.op.Op.{Op}
use Rattle.pm_machine.specs.declared.op.Function.{Function}
use Rattle.pm_alloc.specs.Placing.{sum}
use Rattle.codegen.specs.Emit.{piece_width, instruction_places, instruction_code}
use Rattle.ir.specs.Moving.{is_log, place_in}
use Rattle.codegen.specs.Emit.{code_from, emitted_code, trap_function, with_code, function_of}
use Rattle.machine_law.specs.emitted.Standing.{table_of, logged_before, HasRoom}
use Rattle.machine_law.proofs.emitted.TidyCode.{next_is, get_after}

get_left : (a b : List Op) (k : ℕ) (o : Op) → slice_get a k ≡ Some o → slice_get (a ++ b) k ≡ Some o
get_left [] b k o e = absurd (cc)
get_left (x ∷ a) b zero o e = e
get_left (x ∷ a) b (suc k) o e = get_left a b k o e

module _ (s : Sizes) (h : Shapes) (tx : Bool) (r : ℕ) (table : List ℕ) where
  -- an instruction's code within all code, after a front, and the place of the next one
  record IsAt (all : List Op) (p next : ℕ) (b : Bool) (i : Instruction) : Type 0 where
    pub front : List Op
    pub rest : List Op
    pub is : all ≡ front ++ (instruction_code s h tx r table p b i ++ rest)
    pub long : length front ≡ p
    pub afterwards : next ≡ p + length (instruction_code s h tx r table p b i)

  first_place : (p : ℕ) (b : Bool) (code : List Instruction)
      → slice_index_or (instruction_places s h tx p b code) 0 (2 ^ 32 - 1) ≡ p
  first_place p b [] = refl
  first_place p b (i ∷ code) = refl

  at_is : (code : List Instruction) (p : ℕ) (b : Bool) (pre : List Op) (q : ℕ) (i : Instruction)
      → length pre ≡ p → p + length (code_from s h tx r table p b code) < 2 ^ 32
      → slice_get code q ≡ Some i →
      IsAt (pre ++ code_from s h tx r table p b code)
      (slice_index_or (instruction_places s h tx p b code) q (2 ^ 32 - 1))
      (slice_index_or (instruction_places s h tx p b code) (suc q) (2 ^ 32 - 1))
      (logged_before b code q) i
  at_is [] p b pre q i long few e = absurd (cc)
  at_is (j ∷ code) p b pre zero i long few e =
      let same : j ≡ i = cc in
      let rest : List Op = code_from s h tx r table (sum p (piece_width s h tx b j))
      (is_log j) code in
      let next = next_is s h tx r table p b j code pre long few in
      subst (λ (k : Instruction). IsAt (pre ++ code_from s h tx r table p b (j ∷ code)) p
      (slice_index_or (instruction_places s h tx p b (j ∷ code)) (suc zero) (2 ^ 32 - 1)) b k)
      same
      (record {
        front = pre;
        rest = rest;
        is = refl;
        long = long;
        afterwards = first_place (sum p (piece_width s h tx b j)) (is_log j) code ∙ next.place;
      })
  at_is (j ∷ code) p b pre (suc q) i long few e =
      let next = next_is s h tx r table p b j code pre long few in
      subst (λ (ops : List Op). IsAt ops
      (slice_index_or (instruction_places s h tx (sum p (piece_width s h tx b j)) (is_log j) code)
      q (2 ^ 32 - 1)) (slice_index_or (instruction_places s h tx (sum p (piece_width s h tx b j))
      (is_log j) code) (suc q) (2 ^ 32 - 1)) (logged_before (is_log j) code q) i) (sym next.same)
      (at_is code (sum p (piece_width s h tx b j)) (is_log j)
      (pre ++ instruction_code s h tx r table p b j) q i next.long next.few e)

  ops_at : (all : List Op) (p next : ℕ) (b : Bool) (i : Instruction) → IsAt all p next b i
      → (k : ℕ) (o : Op) → slice_get (instruction_code s h tx r table p b i) k ≡ Some o
      → slice_get all (p + k) ≡ Some o
  ops_at all p next b i at k o e =
      ap (λ (ops : List Op). slice_get ops (p + k)) at.is
      ∙ ap (λ (n : ℕ). slice_get (at.front ++ (instruction_code s h tx r table p b i ++ at.rest))
      (n + k)) (sym at.long)
      ∙ get_after at.front (instruction_code s h tx r table p b i ++ at.rest) k
      ∙ get_left (instruction_code s h tx r table p b i) at.rest k o e

module _ (s : Sizes) (h : Shapes) (u : IrFunction) (room : HasRoom s h u) where
  abbrev pub ops_of : List Op
  ops_of = emitted_code s h u.tx u.registers u.code

  abbrev pub made : Function
  made = record { parameters = u.parameters; registers = u.registers + 8; code = ops_of }

  pub made_is : function_of s h u ≡ made
  made_is =
      let short : nat_lt (length ops_of) (2 ^ 32) ≡ true =
      lt-ltb (length ops_of) (2 ^ 32) room.code in
      ap (λ (d : Bool). if d then with_code u ops_of else trap_function u.parameters) room.registers
      ∙ ap (λ (d : Bool). if d then made else trap_function u.parameters) short

  abbrev pub place : ℕ → ℕ
  place q = place_in (table_of s h u) q

  pub first_is : place 0 ≡ 0
  first_is = first_place s h u.tx u.registers (table_of s h u) 0 false u.code

  module _ (q : ℕ) (i : Instruction) (e : slice_get u.code q ≡ Some i) where
    abbrev there : IsAt s h u.tx u.registers (table_of s h u) ops_of (place q) (place (suc q))
        (logged_before false u.code q) i
    there = at_is s h u.tx u.registers (table_of s h u) u.code 0 false [] q i refl
        (omega (arith, room.code)) e

    -- the code of an instruction is at its place
    pub stands_op : (k : ℕ) (o : Op)
        → slice_get (instruction_code s h u.tx u.registers (table_of s h u) (place q)
        (logged_before false u.code q) i) k ≡ Some o → slice_get ops_of (place q + k) ≡ Some o
    stands_op k o at = ops_at s h u.tx u.registers (table_of s h u) ops_of (place q) (place (suc q))
        (logged_before false u.code q) i there k o at

    pub place_next : place (suc q) ≡ place q
        + length (instruction_code s h u.tx u.registers (table_of s h u) (place q)
        (logged_before false u.code q) i)
    place_next = there.afterwards
