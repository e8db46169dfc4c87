-- Emitted code is tidy: a FENCE comes only after a FLUSH, a HALT only after a FENCE, and no jump
-- leads to either.
use Rattle.std.proofs.Common.{◌≡◌, ℕ, zero, suc, ◌+◌, ◌-◌, ◌<◌, ◌≤◌, ◌^◌, Bool, true, false, List}
use Rattle.std.proofs.Common.{[], ◌∷◌, ◌++◌, length, map, slice_get, Option, Some, None, refl, sym}
use Rattle.std.proofs.Common.{ap, ◌∙◌, subst, arith, length-append, append_assoc}
use Rattle.std.specs.Prelude.{if◌then◌else◌, nat_lt, nat_le, slice_index_or}
use Rattle.std.specs.List.{list_all, AllByRecursion}
use Rattle.std.proofs.lemmas.Bool.{leb-true, ltb-true, and_parts}
use Rattle.std.proofs.lemmas.List.{length-map}
use Rattle.std.proofs.lemmas.Option.{slice_get_past, none-some}
use Rattle.pool_map.specs.declared.shapes.Shapes.{Shapes}
use Rattle.pool_layout.specs.declared.limits.Sizes.{Sizes}
use Rattle.ir.specs.declared.instruction.Instruction.{Instruction}
use Rattle.ir.specs.declared.instruction.Instruction.TheVariants as ir
use Rattle.ir.specs.declared.function.IrFunction.{IrFunction}
use Rattle.pm_machine.specs.declared.op.Op.{Op}
use Rattle.pm_machine.specs.declared.op.Op.TheVariants as op
use Rattle.pm_machine.specs.declared.op.Function.{Function}
use Rattle.pm_alloc.specs.declared.local.Local.{Local}
use Rattle.pm_alloc.specs.declared.local.Local.TheVariants.{Const, Mov, Bin, Jmp, Jz, Load, Store}
use Rattle.pm_alloc.specs.declared.local.Local.TheVariants.{Find, Log, Tick, Trap}
use Rattle.pm_alloc.specs.Placing.{sum, placed}
use Rattle.codegen.specs.Names.{is_below}
use Rattle.codegen.specs.Emit.{local_code, control, return_code, piece_width}
use Rattle.ir.specs.Moving.{is_log, place_in}
use Rattle.codegen.specs.Emit.{instruction_places, instruction_code, code_from}
use Rattle.codegen.specs.Emit.{emitted_code, has_room, trap_function, with_code, function_of}
use Rattle.codegen.proofs.Fine.{reg_fine, fine, local_fine}
use Rattle.machine_law.specs.emitted.Tidy.{IsPlain, IsPlainAt, MayPrecede, LeadsPlain, IsTidyCode}
use Rattle.machine_law.specs.emitted.TidyCode.{EmitsTidy}
use Rattle.machine_law.proofs.emitted.Placed.{sum_is}

-- each instruction may come before the next
abbrev AreTidy : List Op → Type 0
AreTidy [] = Unit {0}
AreTidy (o ∷ ops) = MayPrecede o (slice_get ops 0) × AreTidy ops

before_next : (ops : List Op) (p : ℕ) (o : Op) → AreTidy ops → slice_get ops p ≡ Some o
    → MayPrecede o (slice_get ops (p + 1))
before_next [] p o h e = absurd (cc)
before_next (q ∷ ops) zero o h e =
    let same : q ≡ o = cc in
    let one : zero + 1 ≡ suc zero = omega arith in
    subst (λ (n : ℕ). MayPrecede o (slice_get (q ∷ ops) n)) (sym one)
    (subst (λ (r : Op). MayPrecede r (slice_get ops 0)) same h.0)
before_next (q ∷ ops) (suc p) o h e =
    let next : suc p + 1 ≡ suc (p + 1) = omega arith in
    subst (λ (n : ℕ). MayPrecede o (slice_get (q ∷ ops) n)) (sym next) (before_next ops p o h.1 e)

abbrev LeadsIn : List Op → Op → Type 0
LeadsIn all (op.Jmp t) = IsPlainAt (slice_get all t)
LeadsIn all (op.Jz a t) = IsPlainAt (slice_get all t)
LeadsIn all (op.Const r v) = Unit {0}
LeadsIn all (op.Mov r a) = Unit {0}
LeadsIn all (op.Bin o r a b) = Unit {0}
LeadsIn all (op.Load r a o) = Unit {0}
LeadsIn all (op.Find r) = Unit {0}
LeadsIn all (op.Store a o b) = Unit {0}
LeadsIn all (op.Log a o) = Unit {0}
LeadsIn all op.Flush = Unit {0}
LeadsIn all op.Fence = Unit {0}
LeadsIn all (op.Call r f args) = Unit {0}
LeadsIn all (op.Ret a) = Unit {0}
LeadsIn all op.Tick = Unit {0}
LeadsIn all (op.Trap k) = Unit {0}
LeadsIn all (op.Halt a) = Unit {0}

pub op_at : (P : Op → Type 0) (ops : List Op) (k : ℕ) (o : Op) → AllByRecursion P ops
    → slice_get ops k ≡ Some o → P o
op_at P [] k o h e = absurd (cc)
op_at P (q ∷ ops) zero o h e = let same : q ≡ o = cc in subst P same h.0
op_at P (q ∷ ops) (suc k) o h e = op_at P ops k o h.1 e

pub ops_append : (P : Op → Type 0) (xs ys : List Op) → AllByRecursion P xs → AllByRecursion P ys
    → AllByRecursion P (xs ++ ys)
ops_append P [] ys h rest = rest
ops_append P (x ∷ xs) ys h rest = (h.0, ops_append P xs ys h.1 rest)

leads_plain : (u : Function) (o : Op) → LeadsIn u.code o → LeadsPlain (Some u) o
leads_plain u (op.Jmp t) h = h
leads_plain u (op.Jz a t) h = h
leads_plain u o h = tt

-- an instruction that isn't FLUSH, FENCE or HALT
pub record IsSimple (o : Op) : Type 0 where
  pub plain : IsPlain o
  pub before : (next : Option Op) → IsPlainAt next → MayPrecede o next

placed_simple : (r p : ℕ) (l : Local) → IsSimple (placed r p l)
placed_simple r p (Const a v) = record { plain = tt; before = λ next h. h }
placed_simple r p (Mov a b) = record { plain = tt; before = λ next h. h }
placed_simple r p (Bin o a b c) = record { plain = tt; before = λ next h. h }
placed_simple r p (Jmp t) = record { plain = tt; before = λ next h. tt }
placed_simple r p (Jz a t) = record { plain = tt; before = λ next h. h }
placed_simple r p (Load a b o) = record { plain = tt; before = λ next h. h }
placed_simple r p (Find a) = record { plain = tt; before = λ next h. h }
placed_simple r p (Store a o b) = record { plain = tt; before = λ next h. h }
placed_simple r p (Log a o) = record { plain = tt; before = λ next h. h }
placed_simple r p Tick = record { plain = tt; before = λ next h. h }
placed_simple r p (Trap k) = record { plain = tt; before = λ next h. tt }

-- tidy code that begins with neither FENCE nor HALT
pub record BeginsWell (ops : List Op) : Type 0 where
  pub first : IsPlainAt (slice_get ops 0)
  pub tidy : AreTidy ops

one_after : (o : Op) (ops : List Op) → IsSimple o → BeginsWell ops → BeginsWell (o ∷ ops)
one_after o ops is h = record {
  first = is.plain;
  tidy = (is.before (slice_get ops 0) h.first, h.tidy);
}

piece_after : (r p : ℕ) (piece : List Local) (ops : List Op) → BeginsWell ops
    → BeginsWell (map (placed r p) piece ++ ops)
piece_after r p [] ops h = h
piece_after r p (l ∷ piece) ops h =
    one_after (placed r p l) (map (placed r p) piece ++ ops) (placed_simple r p l)
    (piece_after r p piece ops h)

-- the target of a jump in a piece, from the piece's start
plain_within : (r p : ℕ) (piece : List Local) (t : ℕ) (ops : List Op) → t ≤ length piece
    → IsPlainAt (slice_get ops 0) → IsPlainAt (slice_get (map (placed r p) piece ++ ops) t)
plain_within r p [] zero ops few first = first
plain_within r p [] (suc t) ops few first = absurd (omega arith)
plain_within r p (l ∷ piece) zero ops few first = (placed_simple r p l).plain
plain_within r p (l ∷ piece) (suc t) ops few first =
    plain_within r p piece t ops (omega arith) first

pub get_after : (pre ops : List Op) (t : ℕ) → slice_get (pre ++ ops) (length pre + t)
    ≡ slice_get ops t
get_after [] ops t = let e : 0 + t ≡ t = omega arith in ap (λ (n : ℕ). slice_get ops n) e
get_after (q ∷ pre) ops t = let e : length (q ∷ pre) + t ≡ suc (length pre + t) = omega arith in
    ap (λ (n : ℕ). slice_get (q ∷ (pre ++ ops)) n) e ∙ get_after pre ops t

plain_at : (pre ops : List Op) (p t : ℕ) → length pre ≡ p → IsPlainAt (slice_get ops t)
    → IsPlainAt (slice_get (pre ++ ops) (p + t))
plain_at pre ops p t long h =
    subst (λ (n : ℕ). IsPlainAt (slice_get (pre ++ ops) (n + t))) long
    (subst IsPlainAt (sym (get_after pre ops t)) h)

plain_past : (ops : List Op) (n : ℕ) → length ops ≤ n → IsPlainAt (slice_get ops n)
plain_past ops n past = subst IsPlainAt (sym (slice_get_past ops n past)) tt

-- the jumps of a piece
piece_leads : (all : List Op) (r p n : ℕ) → ((t : ℕ) → t ≤ n → IsPlainAt (slice_get all (sum p t)))
    → (piece : List Local) → list_all (fine n r) piece ≡ true
    → AllByRecursion (LeadsIn all) (map (placed r p) piece)
piece_leads all r p n lands [] ok = tt
piece_leads all r p n lands (l ∷ piece) ok =
    let parts = and_parts (fine n r l) (list_all (fine n r) piece) ok in
    (one_leads l parts.0, piece_leads all r p n lands piece parts.1)
  where
    one_leads : (l : Local) → fine n r l ≡ true → LeadsIn all (placed r p l)
    one_leads (Jmp t) ok = lands t (leb-true t n ok)
    one_leads (Jz a t) ok = lands t (leb-true t n (and_parts (reg_fine r a) (nat_le t n) ok).1)
    one_leads (Const a v) ok = tt
    one_leads (Mov a b) ok = tt
    one_leads (Bin o a b c) ok = tt
    one_leads (Load a b o) ok = tt
    one_leads (Find a) ok = tt
    one_leads (Store a o b) ok = tt
    one_leads (Log a o) ok = tt
    one_leads Tick ok = tt
    one_leads (Trap k) ok = tt

module _ (s : Sizes) (h : Shapes) (tx : Bool) (r : ℕ) (table : List ℕ) where
  abbrev code_at : ℕ → Bool → List Instruction → List Op
  code_at p b code = code_from s h tx r table p b code

  abbrev one_at : ℕ → Bool → Instruction → List Op
  one_at p b i = instruction_code s h tx r table p b i

  return_after : (c : Bool) (from : ℕ) (ops : List Op) → BeginsWell ops
      → BeginsWell ((return_code c from ++ []) ++ ops)
  return_after true from ops well =
      record { first = tt; tidy = (refl, ((from, refl), (tt, well.tidy))) }
  return_after false from ops well = record { first = tt; tidy = (tt, well.tidy) }

  one_well : (p : ℕ) (b : Bool) (i : Instruction) (ops : List Op) → BeginsWell ops
      → BeginsWell (one_at p b i ++ ops)
  one_well p b (ir.Jump place) ops well = record { first = tt; tidy = (tt, well.tidy) }
  one_well p b (ir.Branch on place) ops well = record { first = tt; tidy = (well.first, well.tidy) }
  one_well p b (ir.Call to f args) ops well = record { first = tt; tidy = (well.first, well.tidy) }
  one_well p b (ir.Return from) ops well = return_after tx from ops well
  one_well p b (ir.Const to value) ops well =
      piece_after r p (local_code s h b (ir.Const to value)) ops well
  one_well p b (ir.Copy to from) ops well =
      piece_after r p (local_code s h b (ir.Copy to from)) ops well
  one_well p b (ir.Bin o to left right) ops well =
      piece_after r p (local_code s h b (ir.Bin o to left right)) ops well
  one_well p b (ir.Load to t) ops well = piece_after r p (local_code s h b (ir.Load to t)) ops well
  one_well p b (ir.Store t from line) ops well =
      piece_after r p (local_code s h b (ir.Store t from line)) ops well
  one_well p b (ir.New to kind fill line) ops well =
      piece_after r p (local_code s h b (ir.New to kind fill line)) ops well
  one_well p b (ir.Free from kind line) ops well =
      piece_after r p (local_code s h b (ir.Free from kind line)) ops well
  one_well p b ir.Tick ops well = piece_after r p (local_code s h b ir.Tick) ops well
  one_well p b (ir.Trap k) ops well = piece_after r p (local_code s h b (ir.Trap k)) ops well
  one_well p b (ir.Log t) ops well = well

  code_well : (code : List Instruction) (p : ℕ) (b : Bool) → BeginsWell (code_at p b code)
  code_well [] p b = record { first = tt; tidy = tt }
  code_well (i ∷ code) p b = one_well p b i
      (code_at (sum p (piece_width s h tx b i)) (is_log i) code)
      (code_well code (sum p (piece_width s h tx b i)) (is_log i))

  control_length : (i : Instruction) → length (control tx (place_in table) i)
      ≡ length (control tx (λ q. 0) i)
  control_length (ir.Jump place) = refl
  control_length (ir.Branch on place) = refl
  control_length (ir.Call to f args) = refl
  control_length (ir.Return from) = refl
  control_length (ir.Const to value) = refl
  control_length (ir.Copy to from) = refl
  control_length (ir.Bin o to left right) = refl
  control_length (ir.Load to t) = refl
  control_length (ir.Store t from line) = refl
  control_length (ir.New to kind fill line) = refl
  control_length (ir.Free from kind line) = refl
  control_length ir.Tick = refl
  control_length (ir.Trap k) = refl
  control_length (ir.Log t) = refl

  -- the next place is this one plus the code's length
  next_place : (p : ℕ) (b : Bool) (i : Instruction) → p + length (one_at p b i) < 2 ^ 32
      → sum p (piece_width s h tx b i) ≡ p + length (one_at p b i)
  next_place p b i few =
      let long : length (one_at p b i) ≡ length (control tx (place_in table) i)
      + length (map (placed r p) (local_code s h b i)) =
      length-append (control tx (place_in table) i) (map (placed r p) (local_code s h b i)) in
      let same : length (map (placed r p) (local_code s h b i)) ≡ length (local_code s h b i) =
      length-map (local_code s h b i) (placed r p) in
      omega (arith, control_length i)

  -- the place where an instruction's code ends and the next one's begins
  pub record IsNext (p : ℕ) (b : Bool) (i : Instruction) (code : List Instruction) (pre : List Op) :
      Type 0 where
    pub place : sum p (piece_width s h tx b i) ≡ p + length (one_at p b i)
    pub long : length (pre ++ one_at p b i) ≡ sum p (piece_width s h tx b i)
    pub same : pre ++ code_at p b (i ∷ code) ≡ (pre ++ one_at p b i)
        ++ code_at (sum p (piece_width s h tx b i)) (is_log i) code
    pub few : sum p (piece_width s h tx b i)
        + length (code_at (sum p (piece_width s h tx b i)) (is_log i) code) < 2 ^ 32

  pub next_is : (p : ℕ) (b : Bool) (i : Instruction) (code : List Instruction) (pre : List Op)
      → length pre ≡ p → p + length (code_at p b (i ∷ code)) < 2 ^ 32 → IsNext p b i code pre
  next_is p b i code pre at few =
      let rest : List Op = code_at (sum p (piece_width s h tx b i)) (is_log i) code in
      let all : length (one_at p b i ++ rest) ≡ length (one_at p b i) + length rest =
      length-append (one_at p b i) rest in
      let place : sum p (piece_width s h tx b i) ≡ p + length (one_at p b i) =
      next_place p b i (omega arith) in
      record {
        place = place;
        long = omega (arith, length-append pre (one_at p b i));
        same = sym (append_assoc pre (one_at p b i) rest);
        few = omega arith;
      }

  -- each place of the table is that of an instruction, or past the end
  starts : (code : List Instruction) (p : ℕ) (b : Bool) (pre : List Op) (q : ℕ) → length pre ≡ p
      → p + length (code_at p b code) < 2 ^ 32 →
      IsPlainAt (slice_get (pre ++ code_at p b code)
      (slice_index_or (instruction_places s h tx p b code) q (2 ^ 32 - 1)))
  starts [] p b pre zero at few = let none : List Op = [] in
      plain_past (pre ++ none) p (omega (arith, length-append pre none))
  starts [] p b pre (suc q) at few = let none : List Op = [] in
      plain_past (pre ++ none) (2 ^ 32 - 1) (omega (arith, length-append pre none))
  starts (i ∷ code) p b pre zero at few =
      let e : p + 0 ≡ p = omega arith in
      subst (λ (n : ℕ). IsPlainAt (slice_get (pre ++ code_at p b (i ∷ code)) n)) e
      (plain_at pre (code_at p b (i ∷ code)) p 0 at (code_well (i ∷ code) p b).first)
  starts (i ∷ code) p b pre (suc q) at few =
      let next = next_is p b i code pre at few in
      subst (λ (ops : List Op). IsPlainAt
      (slice_get ops (slice_index_or (instruction_places s h tx (sum p (piece_width s h tx b i))
      (is_log i) code) q (2 ^ 32 - 1)))) (sym next.same)
      (starts code (sum p (piece_width s h tx b i)) (is_log i) (pre ++ one_at p b i) q
      next.long next.few)

  module _ (all : List Op) (lands : (q : ℕ) → IsPlainAt (slice_get all (place_in table q))) where
    local_leads : (p : ℕ) (piece : List Local) (pre ops : List Op) → length pre ≡ p
        → p + length piece < 2 ^ 32 → all ≡ pre ++ (map (placed r p) piece ++ ops) → BeginsWell ops
        → list_all (fine (length piece) r) piece ≡ true
        → AllByRecursion (LeadsIn all) (map (placed r p) piece)
    local_leads p piece pre ops at few is well ok =
        piece_leads all r p (length piece)
        (λ t within.
        subst (λ (n : ℕ). IsPlainAt (slice_get all n)) (sym (sum_is p t (omega arith)))
        (subst (λ (xs : List Op). IsPlainAt (slice_get xs (p + t))) (sym is)
        (plain_at pre (map (placed r p) piece ++ ops) p t
        at (plain_within r p piece t ops within well.first)))) piece ok

    return_leads : (c : Bool) (from : ℕ) → AllByRecursion (LeadsIn all) (return_code c from ++ [])
    return_leads true from = (tt, (tt, (tt, tt)))
    return_leads false from = (tt, tt)

    one_leads : (p : ℕ) (b : Bool) (i : Instruction) (pre ops : List Op) → length pre ≡ p
        → p + length (one_at p b i) < 2 ^ 32 → all ≡ pre ++ (one_at p b i ++ ops) → BeginsWell ops
        → is_below r i ≡ true → AllByRecursion (LeadsIn all) (one_at p b i)
    one_leads p b (ir.Jump place) pre ops at few is well low = (lands place, tt)
    one_leads p b (ir.Branch on place) pre ops at few is well low = (lands place, tt)
    one_leads p b (ir.Call to f args) pre ops at few is well low = (tt, tt)
    one_leads p b (ir.Return from) pre ops at few is well low = return_leads tx from
    one_leads p b (ir.Const to value) pre ops at few is well low =
        local_leads p (local_code s h b (ir.Const to value)) pre ops
        at (omega (arith, length-map (local_code s h b (ir.Const to value)) (placed r p))) is well
        (local_fine s h r b (ir.Const to value) low)
    one_leads p b (ir.Copy to from) pre ops at few is well low =
        local_leads p (local_code s h b (ir.Copy to from)) pre ops
        at (omega (arith, length-map (local_code s h b (ir.Copy to from)) (placed r p))) is well
        (local_fine s h r b (ir.Copy to from) low)
    one_leads p b (ir.Bin o to left right) pre ops at few is well low =
        local_leads p (local_code s h b (ir.Bin o to left right)) pre ops
        at (omega (arith, length-map (local_code s h b (ir.Bin o to left right)) (placed r p))) is
        well (local_fine s h r b (ir.Bin o to left right) low)
    one_leads p b (ir.Load to t) pre ops at few is well low =
        local_leads p (local_code s h b (ir.Load to t)) pre ops
        at (omega (arith, length-map (local_code s h b (ir.Load to t)) (placed r p))) is well
        (local_fine s h r b (ir.Load to t) low)
    one_leads p b (ir.Store t from line) pre ops at few is well low =
        local_leads p (local_code s h b (ir.Store t from line)) pre ops
        at (omega (arith, length-map (local_code s h b (ir.Store t from line)) (placed r p))) is
        well
        (local_fine s h r b (ir.Store t from line) low)
    one_leads p b (ir.New to kind fill line) pre ops at few is well low =
        local_leads p (local_code s h b (ir.New to kind fill line)) pre ops
        at (omega (arith, length-map (local_code s h b (ir.New to kind fill line)) (placed r p))) is
        well (local_fine s h r b (ir.New to kind fill line) low)
    one_leads p b (ir.Free from kind line) pre ops at few is well low =
        local_leads p (local_code s h b (ir.Free from kind line)) pre ops
        at (omega (arith, length-map (local_code s h b (ir.Free from kind line)) (placed r p))) is
        well (local_fine s h r b (ir.Free from kind line) low)
    one_leads p b ir.Tick pre ops at few is well low = (tt, tt)
    one_leads p b (ir.Trap k) pre ops at few is well low = (tt, tt)
    one_leads p b (ir.Log t) pre ops at few is well low = tt

    code_leads : (code : List Instruction) (p : ℕ) (b : Bool) (pre : List Op) → length pre ≡ p
        → p + length (code_at p b code) < 2 ^ 32 → all ≡ pre ++ code_at p b code
        → list_all (is_below r) code ≡ true → AllByRecursion (LeadsIn all) (code_at p b code)
    code_leads [] p b pre at few is low = tt
    code_leads (i ∷ code) p b pre at few is low =
        let rest : List Op = code_at (sum p (piece_width s h tx b i)) (is_log i) code in
        let parts = and_parts (is_below r i) (list_all (is_below r) code) low in
        let next = next_is p b i code pre at few in
        let short : p + length (one_at p b i) < 2 ^ 32 =
        omega (arith, length-append (one_at p b i) rest) in
        ops_append (LeadsIn all) (one_at p b i) rest
        (one_leads p b i pre rest at short is
        (code_well code (sum p (piece_width s h tx b i)) (is_log i)) parts.0)
        (code_leads code (sum p (piece_width s h tx b i)) (is_log i) (pre ++ one_at p b i) next.long
        next.few (is ∙ next.same) parts.1)

-- a function whose code is tidy
tidy_from : (u : Function) → BeginsWell u.code → AllByRecursion (LeadsIn u.code) u.code
    → IsTidyCode (Some u)
tidy_from u well leads = record {
  first = well.first;
  next = λ p o e. before_next u.code p o well.tidy e;
  leads = λ p o e. leads_plain u o (op_at (LeadsIn u.code) u.code p o leads e);
}

trap_tidy : (n : ℕ) → IsTidyCode (Some (trap_function n))
trap_tidy n = tidy_from (trap_function n) (record { first = tt; tidy = (tt, tt) }) (tt, tt)

module _ (s : Sizes) (h : Shapes) (u : IrFunction) where
  abbrev ops : List Op
  ops = emitted_code s h u.tx u.registers u.code

  abbrev table_of : List ℕ
  table_of = instruction_places s h u.tx 0 false u.code

  with_if : (d : Bool) → nat_lt (length ops) (2 ^ 32) ≡ d → has_room u.registers u.code ≡ true
      → IsTidyCode (Some (if d then record {
        parameters = u.parameters;
        registers = u.registers
            + 8;
        code = ops;
      } else trap_function u.parameters))
  with_if true e fits =
      let parts = and_parts (nat_le u.registers (2 ^ 32 - 9))
      (list_all (is_below u.registers) u.code) fits in
      let few : 0 + length ops < 2 ^ 32 = omega (arith, ltb-true (length ops) (2 ^ 32) e) in
      tidy_from (record { parameters = u.parameters; registers = u.registers + 8; code = ops })
      (code_well s h u.tx u.registers table_of u.code 0 false)
      (code_leads s h u.tx u.registers table_of ops
      (λ q. starts s h u.tx u.registers table_of u.code 0 false [] q refl few) u.code 0 false []
      refl few refl parts.1)
  with_if false e fits = trap_tidy u.parameters

  function_if : (d : Bool) → has_room u.registers u.code ≡ d
      → IsTidyCode (Some (if d then with_code u ops else trap_function u.parameters))
  function_if true e = with_if (nat_lt (length ops) (2 ^ 32)) refl e
  function_if false e = trap_tidy u.parameters

none_tidy : IsTidyCode None
none_tidy = record {
  first = tt;
  next = λ p o e. absurd (none-some o e);
  leads = λ p o e. absurd (none-some o e);
}

all_tidy : (s : Sizes) (h : Shapes) (us : List IrFunction) (f : ℕ)
    → IsTidyCode (slice_get (map (function_of s h) us) f)
all_tidy s h [] f = none_tidy
all_tidy s h (u ∷ us) zero = function_if s h u (has_room u.registers u.code) refl
all_tidy s h (u ∷ us) (suc f) = all_tidy s h us f

pub emits_tidy : EmitsTidy
emits_tidy s program f = all_tidy s program.shapes program.functions f
