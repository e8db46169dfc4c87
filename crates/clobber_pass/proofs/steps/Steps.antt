-- A row records a fact after an instruction exactly if it recorded one of the fact's origins
-- before.
use Rattle.std.proofs.Common.{◌≡◌, ◌≢◌, ◌<◌, ◌+◌, ℕ, Bool, true, false, List, Some, None, length}
use Rattle.std.proofs.Common.{refl, sym, ◌∙◌, ap, arith}
use Rattle.std.specs.Borrow.{Bor}
use Rattle.std.specs.Prelude.{◌==◌, ◌&&◌, ◌||◌, not, slice_set, bit_and, bit_or, if◌then◌else◌}
use Rattle.std.proofs.lemmas.Bool.{false≢true, eqb-true, eq-eqb}
use Rattle.std.proofs.lemmas.List.{get_or-set_same, get_or-set_other, length-set}
use Rattle.ir.specs.declared.instruction.Target.{Target}
use Rattle.ir.specs.declared.instruction.Target.TheVariants.{Root, Field}
use Rattle.ir.specs.declared.instruction.Instruction.{Instruction}
use Rattle.ir.specs.declared.instruction.Instruction.TheVariants.{Const, Copy, Bin, Jump, Branch}
use Rattle.ir.specs.declared.instruction.Instruction.TheVariants.{Load, Store, New, Free, Call}
use Rattle.ir.specs.declared.instruction.Instruction.TheVariants.{Return, Tick, Trap, Log}
use Rattle.ir.specs.declared.function.Ir.{Ir}
use Rattle.ir.specs.declared.fact.Fact.TheVariants.{Here, Unwritten, ReadField}
use Rattle.ir.specs.declared.fact.Origins.{Origins}
use Rattle.ir.specs.declared.fact.Origins.TheVariants.{Nowhere, One, Two}
use Rattle.ir.specs.WellFormed.{IsInstruction}
use Rattle.ir.specs.Table.{origins}
use Rattle.clobber_pass.specs.declared.topic.StructField.{StructField}
use Rattle.clobber_pass.specs.declared.topic.Topic.{Topic}
use Rattle.clobber_pass.specs.declared.topic.Topic.TheVariants.{Frees, Root as Roots}
use Rattle.clobber_pass.specs.declared.topic.Topic.TheVariants.{Fields}
use Rattle.clobber_pass.specs.Row.{word, has_bit, tells}
use Rattle.clobber_pass.specs.inside.Row.{fields_mask, without, with_read, after_row}
use Rattle.clobber_pass.specs.inside.Told.{tells_any}
use Rattle.clobber_pass.proofs.bits.Bits.{has_bit_zero, has_bit_or, has_bit_and, has_bit_without}

-- the word that was written, and any other
pub at_same : (row : List ℕ) (s w : ℕ) → s < length row → word (slice_set row s w) s ≡ w
at_same row s w inside = get_or-set_same row s w 0 inside

pub at_other : (row : List ℕ) (s k w : ℕ) → k ≢ s → word (slice_set row s w) k ≡ word row k
at_other row s k w unlike = get_or-set_other row s k w 0 unlike

-- the register that was given a word, and any other
given_register : (row : List ℕ) (x to w r k y : ℕ) (o : Origins) → to + 2 < length row
    → has_bit x w ≡ tells_any row x o → tells (slice_set row (to + 2) w) x (r + 2) ≡ tells_any row x
    (if r == to then o else One (Unwritten r k y))
given_register row x to w r k y o inside is = by_cases (r == to) refl
  where
    by_cases : (b : Bool) → (r == to) ≡ b → tells (slice_set row (to + 2) w) x (r + 2)
        ≡ tells_any row x (if b then o else One (Unwritten r k y))
    by_cases true same =
        let e : r ≡ to = eqb-true r to same in
        ap (λ q. tells (slice_set row (to + 2) w) x (q + 2)) e
        ∙ ap (has_bit x) (at_same row (to + 2) w inside) ∙ is
    by_cases false other =
        let unlike : r + 2 ≢ to + 2 = λ (e : r + 2 ≡ to + 2).
        false≢true (sym other ∙ eq-eqb r to (omega arith)) in
        ap (has_bit x) (at_other row (to + 2) (r + 2) w unlike)

-- writing a register leaves the two other slots
pub given_start : (row : List ℕ) (x to w : ℕ) → tells (slice_set row (to + 2) w) x 0 ≡ tells row x 0
given_start row x to w = ap (has_bit x)
    (at_other row (to + 2) 0 w (λ (e : 0 ≡ to + 2). omega arith))

pub given_sought : (row : List ℕ) (x to w : ℕ) → tells (slice_set row (to + 2) w) x 1
    ≡ tells row x 1
given_sought row x to w = ap (has_bit x)
    (at_other row (to + 2) 1 w (λ (e : 1 ≡ to + 2). omega arith))

-- a load changes only the slot of the sought fact
pub read_length : (t : Topic) (target : Target) (row : List ℕ)
    → length (with_read t target row) ≡ length row
read_length Frees target row = refl
read_length (Roots f) (Root y i) row = length-set row 1 _
read_length (Roots f) (Field b k y i) row = refl
read_length (Fields all) (Root y i) row = refl
read_length (Fields all) (Field b k y i) row = length-set row 1 _

pub read_other : (t : Topic) (target : Target) (row : List ℕ) (s : ℕ) → s ≢ 1
    → word (with_read t target row) s ≡ word row s
read_other Frees target row s unlike = refl
read_other (Roots f) (Root y i) row s unlike = at_other row 1 s _ unlike
read_other (Roots f) (Field b k y i) row s unlike = refl
read_other (Fields all) (Root y i) row s unlike = refl
read_other (Fields all) (Field b k y i) row s unlike = at_other row 1 s _ unlike

begun_of : (t : Topic) (row : List ℕ) (x to r k y : ℕ) → to + 2 < length row
    → tells (slice_set row (to + 2) (word row 0)) x (r + 2) ≡ tells_any row x (if r == to
    then One Here else One (Unwritten r k y))
begun_of t row x to r k y inside = given_register row x to (word row 0) r k y (One Here) inside refl

-- what is recorded of a register after each instruction, for the class of bit x
module _ (ir : Ir) (all : Bor (List StructField)) (kind field : ℕ) (row : List ℕ)
    (x registers n : ℕ) (bit : (t y : ℕ) → has_bit x (fields_mask all.now t y)
    ≡ ((kind == t) && (field == y))) (long : length row ≡ registers + 2) where
  inside : (to : ℕ) → to < registers → to + 2 < length row
  inside to less = omega arith

  not_one : (r : ℕ) → r + 2 ≢ 1
  not_one r e = omega arith

  register_loaded : (target : Target) (to r : ℕ) → to < registers
      → tells (slice_set (with_read (Fields all) target row) (to + 2)
      (word (with_read (Fields all) target row) 0)) x (r + 2) ≡ tells_any row x (if r == to
      then One Here else One (Unwritten r kind field))
  register_loaded target to r less =
      let read = with_read (Fields all) target row in
      let long_read : to + 2 < length read =
      omega (arith, read_length (Fields all) target row) in
      let start : word read 0 ≡ word row 0 =
      read_other (Fields all) target row 0 (λ (e : 0 ≡ 1). omega arith) in
      let kept : word read (r + 2) ≡ word row (r + 2) =
      read_other (Fields all) target row (r + 2) (not_one r) in
      begun_of (Fields all) read x to r kind field long_read ∙ same read start kept (r == to)
    where
      same : (read : List ℕ) → word read 0 ≡ word row 0 → word read (r + 2) ≡ word row (r + 2)
          → (b : Bool) → tells_any read x (if b then One Here else One (Unwritten r kind field))
          ≡ tells_any row x (if b then One Here else One (Unwritten r kind field))
      same read start kept true = ap (has_bit x) start
      same read start kept false = ap (has_bit x) kept

  -- a field that is written through a register
  register_written : (b t y r : ℕ) → b < registers
      → tells (slice_set row (b + 2) (without (word row (b + 2)) (fields_mask all.now t y))) x
      (r + 2) ≡ tells_any row x (if (r == b) && ((kind == t) && (field == y)) then Nowhere
      else One (Unwritten r kind field))
  register_written b t y r less = through (r == b) refl
    where
      through : (c : Bool) → (r == b) ≡ c
          → tells (slice_set row (b + 2) (without (word row (b + 2)) (fields_mask all.now t y))) x
          (r + 2) ≡ tells_any row x (if c && ((kind == t) && (field == y)) then Nowhere
          else One (Unwritten r kind field))
      through true is =
          let e : r ≡ b = eqb-true r b is in
          ap (λ q. tells (slice_set row (b + 2)
          (without (word row (b + 2)) (fields_mask all.now t y))) x (q + 2)) e
          ∙ ap (has_bit x) (at_same row (b + 2)
          (without (word row (b + 2)) (fields_mask all.now t y)) (inside b less))
          ∙ has_bit_without x (word row (b + 2)) (fields_mask all.now t y)
          ∙ ap (λ m. has_bit x (word row (b + 2)) && not m) (bit t y)
          ∙ written ((kind == t) && (field == y))
          ∙ ap (λ q. tells_any row x (if (kind == t) && (field == y) then Nowhere
          else One (Unwritten q kind field))) (sym e)
        where
          written : (m : Bool) → (has_bit x (word row (b + 2)) && not m) ≡ tells_any row x
              (if m then Nowhere else One (Unwritten b kind field))
          written true = and_false (has_bit x (word row (b + 2)))
            where
              and_false : (a : Bool) → (a && false) ≡ false
              and_false true = refl
              and_false false = refl
          written false = and_true (has_bit x (word row (b + 2)))
            where
              and_true : (a : Bool) → (a && true) ≡ a
              and_true true = refl
              and_true false = refl
      through false is =
          let unlike : r + 2 ≢ b + 2 = λ (e : r + 2 ≡ b + 2).
          false≢true (sym is ∙ eq-eqb r b (omega arith)) in
          ap (has_bit x) (at_other row (b + 2) (r + 2) _ unlike)

  pub register_after : (i : Instruction) (r : ℕ) → IsInstruction ir registers n i
      → tells (after_row (Fields all) i row) x (r + 2) ≡ tells_any row x
      (origins i (Unwritten r kind field))
  register_after (Const to v) r ok = begun_of (Fields all) row x to r kind field (inside to ok)
  register_after (Bin op to left right) r ok =
      begun_of (Fields all) row x to r kind field (inside to ok.0)
  register_after (Copy to from) r ok =
      given_register row x to (word row (from + 2)) r kind field
      (One (Unwritten from kind field))
      (inside to ok.0) refl
  register_after (Load to target) r ok = register_loaded target to r ok.0
  register_after (New to k log_fill line) r ok =
      given_register row x to 0 r kind field Nowhere (inside to ok.0) (has_bit_zero x)
  register_after (Store (Field b t y None) from line) r ok = register_written b t y r ok.1.0
  register_after (Store (Field b t y (Some i)) from line) r ok = refl
  register_after (Store (Root y None) from line) r ok = refl
  register_after (Store (Root y (Some i)) from line) r ok = refl
  register_after (Free from k line) r ok = refl
  register_after (Jump p) r ok = refl
  register_after (Branch on p) r ok = refl
  register_after (Call to g args) r ok = refl
  register_after (Return from) r ok = refl
  register_after Tick r ok = refl
  register_after (Trap k) r ok = refl
  register_after (Log t) r ok = refl

  -- what is recorded of a walk
  pub start_after : (i : Instruction) → tells (after_row (Fields all) i row) x 0 ≡ tells row x 0
  start_after (Const to v) = given_start row x to _
  start_after (Bin op to left right) = given_start row x to _
  start_after (Copy to from) = given_start row x to _
  start_after (Load to target) = given_start (with_read (Fields all) target row) x to _
      ∙ ap (has_bit x) (read_other (Fields all) target row 0 (λ (e : 0 ≡ 1). omega arith))
  start_after (New to k log_fill line) = given_start row x to _
  start_after (Store (Field b t y None) from line) = given_start row x b _
  start_after (Store (Field b t y (Some i)) from line) = refl
  start_after (Store (Root y None) from line) = refl
  start_after (Store (Root y (Some i)) from line) = refl
  start_after (Free from k line) = refl
  start_after (Jump p) = refl
  start_after (Branch on p) = refl
  start_after (Call to g args) = refl
  start_after (Return from) = refl
  start_after Tick = refl
  start_after (Trap k) = refl
  start_after (Log t) = refl

  -- what is recorded of the class being read
  class_read : (b t y : ℕ) → tells (slice_set row 1 (bit_or (word row 1)
      (bit_and (word row (b + 2)) (fields_mask all.now t y)))) x 1
      ≡ tells_any row x (if (kind == t) && (field == y)
      then Two (ReadField kind field) (Unwritten b kind field)
      else One (ReadField kind field))
  class_read b t y =
      ap (has_bit x) (at_same row 1 (bit_or (word row 1)
      (bit_and (word row (b + 2)) (fields_mask all.now t y))) one_inside)
      ∙ has_bit_or x (word row 1) (bit_and (word row (b + 2)) (fields_mask all.now t y))
      ∙ ap (λ c. has_bit x (word row 1) || c)
      (has_bit_and x (word row (b + 2)) (fields_mask all.now t y)
      ∙ ap (λ m. has_bit x (word row (b + 2)) && m) (bit t y))
      ∙ of_field ((kind == t) && (field == y))
    where
      one_inside : 1 < length row
      one_inside = omega arith

      of_field : (m : Bool) → (has_bit x (word row 1) || (has_bit x (word row (b + 2)) && m))
          ≡ tells_any row x (if m then Two (ReadField kind field) (Unwritten b kind field)
          else One (ReadField kind field))
      of_field true = ap (λ c. has_bit x (word row 1) || c)
          (and_true (has_bit x (word row (b + 2))))
        where
          and_true : (a : Bool) → (a && true) ≡ a
          and_true true = refl
          and_true false = refl
      of_field false = ap (λ c. has_bit x (word row 1) || c)
          (and_false (has_bit x (word row (b + 2)))) ∙ or_false (has_bit x (word row 1))
        where
          and_false : (a : Bool) → (a && false) ≡ false
          and_false true = refl
          and_false false = refl

          or_false : (a : Bool) → (a || false) ≡ a
          or_false true = refl
          or_false false = refl

  pub sought_after : (i : Instruction) → tells (after_row (Fields all) i row) x 1
      ≡ tells_any row x (origins i (ReadField kind field))
  sought_after (Const to v) = given_sought row x to _
  sought_after (Bin op to left right) = given_sought row x to _
  sought_after (Copy to from) = given_sought row x to _
  sought_after (Load to (Field b t y i)) =
      given_sought (with_read (Fields all) (Field b t y i) row) x to _ ∙ class_read b t y
  sought_after (Load to (Root y i)) = given_sought row x to _
  sought_after (New to k log_fill line) = given_sought row x to _
  sought_after (Store (Field b t y None) from line) = given_sought row x b _
  sought_after (Store (Field b t y (Some i)) from line) = refl
  sought_after (Store (Root y None) from line) = refl
  sought_after (Store (Root y (Some i)) from line) = refl
  sought_after (Free from k line) = refl
  sought_after (Jump p) = refl
  sought_after (Branch on p) = refl
  sought_after (Call to g args) = refl
  sought_after (Return from) = refl
  sought_after Tick = refl
  sought_after (Trap k) = refl
  sought_after (Log t) = refl
