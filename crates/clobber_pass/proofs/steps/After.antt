-- The step of a row is the table's step on facts, for each topic.
use Rattle.std.proofs.Common.{◌≡◌, ◌<◌, ◌≤◌, ◌+◌, ℕ, Bool, true, false, List, Option, Some, None}
use Rattle.std.proofs.Common.{length, slice_get, refl, sym, ◌∙◌, ap, subst, arith}
use Rattle.std.specs.Borrow.{Bor}
use Rattle.std.specs.Prelude.{◌==◌, ◌&&◌, ◌||◌, not, slice_set, bit_and, bit_or, if◌then◌else◌}
use Rattle.std.proofs.lemmas.Bool.{false≢true, and_parts, eqb-true}
use Rattle.std.proofs.lemmas.List.{length-set}
use Rattle.ir.specs.declared.instruction.Target.TheVariants.{Root, Field}
use Rattle.ir.specs.declared.instruction.Instruction.{Instruction}
use Rattle.ir.specs.declared.instruction.Instruction.TheVariants.{Const, Copy, Bin, Jump, Branch}
use Rattle.ir.specs.declared.instruction.Instruction.TheVariants.{Load, Store, New, Free, Call}
use Rattle.ir.specs.declared.instruction.Instruction.TheVariants.{Return, Tick, Trap, Log}
use Rattle.ir.specs.declared.function.Ir.{Ir}
use Rattle.ir.specs.declared.fact.Fact.{Fact}
use Rattle.ir.specs.declared.fact.Fact.TheVariants.{Here, Unwritten, RootUnwritten, ReadRoot}
use Rattle.ir.specs.declared.fact.Fact.TheVariants.{ReadField, Freed}
use Rattle.ir.specs.declared.fact.Origins.TheVariants.{Nowhere, One, Two}
use Rattle.ir.specs.WellFormed.{IsInstruction}
use Rattle.ir.specs.Table.{origins}
use Rattle.clobber_pass.specs.declared.topic.StructField.{StructField}
use Rattle.clobber_pass.specs.declared.topic.Topic.{Topic}
use Rattle.clobber_pass.specs.declared.topic.Topic.TheVariants.{Frees, Root as Roots}
use Rattle.clobber_pass.specs.declared.topic.Topic.TheVariants.{Fields}
use Rattle.clobber_pass.specs.inside.Class.{class_at, class_of, is_about, slot}
use Rattle.clobber_pass.specs.Row.{word, has_bit, tells}
use Rattle.clobber_pass.specs.inside.Row.{mask, fields_mask, without, with_read, after_row}
use Rattle.clobber_pass.specs.inside.Told.{tells_any, row_width}
use Rattle.clobber_pass.proofs.bits.Bits.{has_bit_or, has_bit_and, has_bit_without, has_bit_mask}
use Rattle.clobber_pass.proofs.bits.Bits.{has_bit_fields, names}
use Rattle.clobber_pass.proofs.steps.Steps.{at_same, at_other, given_start, given_sought}
use Rattle.clobber_pass.proofs.steps.Steps.{read_length}
use Rattle.clobber_pass.proofs.steps.Steps.{register_after, start_after, sought_after}

and_true : (a : Bool) → (a && true) ≡ a
and_true true = refl
and_true false = refl

and_false : (a : Bool) → (a && false) ≡ false
and_false true = refl
and_false false = refl

or_false : (a : Bool) → (a || false) ≡ a
or_false true = refl
or_false false = refl

module _ (row : List ℕ) (x : ℕ) (long : 2 ≤ length row) where
  one_inside : 1 < length row
  one_inside = long

  zero_inside : 0 < length row
  zero_inside = omega arith

  -- whether a walk reaches a place, and whether one does after a free
  here_after : (i : Instruction) → tells (after_row Frees i row) x 0 ≡ tells row x 0
  here_after (Const to v) = given_start row x to _
  here_after (Bin op to left right) = given_start row x to _
  here_after (Copy to from) = given_start row x to _
  here_after (Load to target) = given_start row x to _
  here_after (New to k log_fill line) = given_start row x to _
  here_after (Free from k line) = ap (has_bit x) (at_other row 1 0 _ (λ (e : 0 ≡ 1). omega arith))
  here_after _ = refl

  freed_after : (i : Instruction) → tells (after_row Frees i row) x 1 ≡ tells_any row x
      (origins i Freed)
  freed_after (Const to v) = given_sought row x to _
  freed_after (Bin op to left right) = given_sought row x to _
  freed_after (Copy to from) = given_sought row x to _
  freed_after (Load to target) = given_sought row x to _
  freed_after (New to k log_fill line) = given_sought row x to _
  freed_after (Free from k line) = ap (has_bit x) (at_same row 1 _ one_inside)
  freed_after _ = refl

  module _ (f : ℕ) (few : x < 16) where
    root_written : (y : ℕ) → tells (slice_set row 0 (without (word row 0) (mask f y))) x 0
        ≡ tells_any row x (if f + x == y then Nowhere else One (RootUnwritten (f + x)))
    root_written y =
        ap (has_bit x) (at_same row 0 _ zero_inside)
        ∙ has_bit_without x (word row 0) (mask f y)
        ∙ ap (λ m. has_bit x (word row 0) && not m) (has_bit_mask x f y few)
        ∙ of_field (f + x == y)
      where
        of_field : (m : Bool) → (has_bit x (word row 0) && not m) ≡ tells_any row x
            (if m then Nowhere else One (RootUnwritten (f + x)))
        of_field true = and_false (has_bit x (word row 0))
        of_field false = and_true (has_bit x (word row 0))

    root_start : (i : Instruction) → tells (after_row (Roots f) i row) x 0 ≡ tells_any row x
        (origins i (RootUnwritten (f + x)))
    root_start (Const to v) = given_start row x to _
    root_start (Bin op to left right) = given_start row x to _
    root_start (Copy to from) = given_start row x to _
    root_start (Load to (Root y i)) = given_start (with_read (Roots f) (Root y i) row) x to _
        ∙ ap (has_bit x) (at_other row 1 0 _ (λ (e : 0 ≡ 1). omega arith))
    root_start (Load to (Field b t y i)) = given_start row x to _
    root_start (New to k log_fill line) = given_start row x to _
    root_start (Store (Root y None) from line) = root_written y
    root_start (Store (Root y (Some i)) from line) = refl
    root_start (Store (Field b t y i) from line) = refl
    root_start _ = refl

    root_loaded : (y : ℕ) → tells (slice_set row 1
        (bit_or (word row 1) (bit_and (word row 0) (mask f y)))) x 1 ≡ tells_any row x
        (if f + x == y
        then Two (ReadRoot (f + x)) (RootUnwritten (f + x)) else One (ReadRoot (f + x)))
    root_loaded y =
        ap (has_bit x) (at_same row 1 _ one_inside)
        ∙ has_bit_or x (word row 1) (bit_and (word row 0) (mask f y))
        ∙ ap (λ c. has_bit x (word row 1) || c) (has_bit_and x (word row 0) (mask f y)
        ∙ ap (λ m. has_bit x (word row 0) && m) (has_bit_mask x f y few))
        ∙ of_field (f + x == y)
      where
        of_field : (m : Bool) → (has_bit x (word row 1) || (has_bit x (word row 0) && m))
            ≡ tells_any row x (if m then Two (ReadRoot (f + x)) (RootUnwritten (f + x))
            else One (ReadRoot (f + x)))
        of_field true = ap (λ c. has_bit x (word row 1) || c) (and_true (has_bit x (word row 0)))
        of_field false = ap (λ c. has_bit x (word row 1) || c) (and_false (has_bit x (word row 0)))
            ∙ or_false (has_bit x (word row 1))

    root_sought : (i : Instruction) → tells (after_row (Roots f) i row) x 1 ≡ tells_any row x
        (origins i (ReadRoot (f + x)))
    root_sought (Const to v) = given_sought row x to _
    root_sought (Bin op to left right) = given_sought row x to _
    root_sought (Copy to from) = given_sought row x to _
    root_sought (Load to (Root y i)) = given_sought (with_read (Roots f) (Root y i) row) x to _
        ∙ root_loaded y
    root_sought (Load to (Field b t y i)) = given_sought row x to _
    root_sought (New to k log_fill line) = given_sought row x to _
    root_sought (Store (Root y None) from line) =
        ap (has_bit x) (at_other row 0 1 _ (λ (e : 1 ≡ 0). omega arith))
    root_sought (Store (Root y (Some i)) from line) = refl
    root_sought (Store (Field b t y i) from line) = refl
    root_sought _ = refl

field_told : (ir : Ir) (all : Bor (List StructField)) (c : StructField) (registers n x : ℕ)
    (row : List ℕ) (i : Instruction) → ((t y : ℕ) → has_bit x (fields_mask all.now t y)
    ≡ ((c.kind == t) && (c.field == y))) → length row ≡ registers + 2
    → IsInstruction ir registers n i → (b : Fact) → is_about (class_of (Some c)) b ≡ true
    → tells (after_row (Fields all) i row) x (slot b) ≡ tells_any row x (origins i b)
field_told ir all c registers n x row i bit long ok Here h =
    start_after ir all c.kind c.field row x registers n bit long i
field_told ir all c registers n x row i bit long ok (Unwritten r s y) h =
    let parts = and_parts (s == c.kind) (y == c.field) h in
    subst (λ q. tells (after_row (Fields all) i row) x (r + 2) ≡ tells_any row x
    (origins i (Unwritten r q y))) (sym (eqb-true s c.kind parts.0))
    (subst (λ z. tells (after_row (Fields all) i row) x (r + 2) ≡ tells_any row x
    (origins i (Unwritten r c.kind z))) (sym (eqb-true y c.field parts.1))
    (register_after ir all c.kind c.field row x registers n bit long i r ok))
field_told ir all c registers n x row i bit long ok (ReadField s y) h =
    let parts = and_parts (s == c.kind) (y == c.field) h in
    subst (λ q. tells (after_row (Fields all) i row) x 1 ≡ tells_any row x
    (origins i (ReadField q y))) (sym (eqb-true s c.kind parts.0))
    (subst (λ z. tells (after_row (Fields all) i row) x 1 ≡ tells_any row x
    (origins i (ReadField c.kind z))) (sym (eqb-true y c.field parts.1))
    (sought_after ir all c.kind c.field row x registers n bit long i))
field_told ir all c registers n x row i bit long ok (RootUnwritten y) h = absurd (false≢true h)
field_told ir all c registers n x row i bit long ok (ReadRoot y) h = absurd (false≢true h)
field_told ir all c registers n x row i bit long ok Freed h = absurd (false≢true h)

-- After an instruction that is no call, a row records a fact exactly if it recorded one of the
-- fact's origins before.
pub after_told : (ir : Ir) (topic : Topic) (registers n x : ℕ) (row : List ℕ) (i : Instruction)
    (b : Fact) → x < 16 → length row ≡ row_width topic registers → IsInstruction ir registers n i
    → is_about (class_at topic x) b ≡ true → tells (after_row topic i row) x (slot b)
    ≡ tells_any row x (origins i b)
after_told ir Frees registers n x row i Here few long ok h = here_after row x (omega arith) i
after_told ir Frees registers n x row i Freed few long ok h = freed_after row x (omega arith) i
after_told ir Frees registers n x row i (Unwritten r s y) few long ok h = absurd (false≢true h)
after_told ir Frees registers n x row i (RootUnwritten y) few long ok h = absurd (false≢true h)
after_told ir Frees registers n x row i (ReadRoot y) few long ok h = absurd (false≢true h)
after_told ir Frees registers n x row i (ReadField s y) few long ok h = absurd (false≢true h)
after_told ir (Roots f) registers n x row i (RootUnwritten y) few long ok h =
    subst (λ z. tells (after_row (Roots f) i row) x 0 ≡ tells_any row x
    (origins i (RootUnwritten z))) (sym (eqb-true y (f + x) h))
    (root_start row x (omega arith) f few i)
after_told ir (Roots f) registers n x row i (ReadRoot y) few long ok h =
    subst (λ z. tells (after_row (Roots f) i row) x 1 ≡ tells_any row x (origins i (ReadRoot z)))
    (sym (eqb-true y (f + x) h)) (root_sought row x (omega arith) f few i)
after_told ir (Roots f) registers n x row i Here few long ok h = absurd (false≢true h)
after_told ir (Roots f) registers n x row i (Unwritten r s y) few long ok h = absurd (false≢true h)
after_told ir (Roots f) registers n x row i (ReadField s y) few long ok h = absurd (false≢true h)
after_told ir (Roots f) registers n x row i Freed few long ok h = absurd (false≢true h)
after_told ir (Fields all) registers n x row i b few long ok h =
    by_class (slice_get all.now x) refl b h
  where
    by_class : (o : Option StructField) → slice_get all.now x ≡ o → (b : Fact)
        → is_about (class_of o) b ≡ true → tells (after_row (Fields all) i row) x (slot b)
        ≡ tells_any row x (origins i b)
    by_class None is b h = absurd (false≢true h)
    by_class (Some c) is b h =
        field_told ir all c registers n x row i (λ t y. has_bit_fields x all.now t y few
        ∙ ap (λ o. names o t y) is) long ok b h

-- the row keeps its length
pub length_after : (topic : Topic) (i : Instruction) (row : List ℕ)
    → length (after_row topic i row) ≡ length row
length_after topic (Const to v) row = length-set row (to + 2) _
length_after topic (Copy to from) row = length-set row (to + 2) _
length_after topic (Bin op to left right) row = length-set row (to + 2) _
length_after topic (Load to target) row = length-set (with_read topic target row) (to + 2) _
    ∙ read_length topic target row
length_after topic (New to kind log_fill line) row = length-set row (to + 2) 0
length_after topic (Jump place) row = refl
length_after topic (Branch on place) row = refl
length_after topic (Call to g args) row = refl
length_after topic (Return from) row = refl
length_after topic Tick row = refl
length_after topic (Trap kind) row = refl
length_after topic (Log target) row = refl
length_after Frees (Free from kind line) row = length-set row 1 _
length_after (Roots f) (Free from kind line) row = refl
length_after (Fields all) (Free from kind line) row = refl
length_after Frees (Store target from line) row = refl
length_after (Roots f) (Store (Root y None) from line) row = length-set row 0 _
length_after (Roots f) (Store (Root y (Some i)) from line) row = refl
length_after (Roots f) (Store (Field b t y i) from line) row = refl
length_after (Fields all) (Store (Root y i) from line) row = refl
length_after (Fields all) (Store (Field b t y (Some i)) from line) row = refl
length_after (Fields all) (Store (Field b t y None) from line) row = length-set row (b + 2) _
