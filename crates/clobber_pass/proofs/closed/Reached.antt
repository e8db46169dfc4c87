-- The facts of a closed table are closed under each step.
use Rattle.std.proofs.Common.{◌≡◌, ◌<◌, ◌≤◌, ◌+◌, ℕ, zero, suc, true, List, [], ◌∷◌, Option, Some}
use Rattle.std.proofs.Common.{None}
use Rattle.std.proofs.Common.{length, refl, sym, ◌∙◌, ap, subst, arith, inl, inr, ⊎_elim}
use Rattle.std.specs.Prelude.{slice_get, slice_set}
use Rattle.std.proofs.lemmas.Bool.{false≢true, cases_lt, or_left, or_right}
use Rattle.std.proofs.lemmas.List.{length-replicate, get_or-set_same}
use mathlib.Core.Logic.{◌⊎◌}
use Rattle.ir.specs.declared.instruction.Instruction.{Instruction}
use Rattle.ir.specs.declared.instruction.Instruction.TheVariants.{Const, Copy, Bin, Jump, Branch}
use Rattle.ir.specs.declared.instruction.Instruction.TheVariants.{Load, Store, New, Free, Call}
use Rattle.ir.specs.declared.instruction.Instruction.TheVariants.{Return, Tick, Trap, Log}
use Rattle.ir.specs.declared.fact.Fact.{Fact}
use Rattle.ir.specs.declared.fact.Fact.TheVariants.{Here, Unwritten, RootUnwritten, ReadRoot}
use Rattle.ir.specs.declared.fact.Fact.TheVariants.{ReadField, Freed}
use Rattle.ir.specs.declared.fact.Origins.{Origins}
use Rattle.ir.specs.declared.fact.Origins.TheVariants.{Nowhere, One, Two}
use Rattle.ir.specs.Table.{AmongOrigins, origins}
use Rattle.clobber_pass.specs.declared.topic.StructField.{StructField}
use Rattle.clobber_pass.specs.declared.topic.Topic.{Topic}
use Rattle.clobber_pass.specs.declared.topic.Topic.TheVariants.{Frees, Root as Roots}
use Rattle.clobber_pass.specs.declared.topic.Topic.TheVariants.{Fields}
use Rattle.clobber_pass.specs.inside.Class.{class_at, class_of, is_about, slot}
use Rattle.clobber_pass.specs.Row.{tells}
use Rattle.clobber_pass.specs.inside.Told.{tells_any, row_width, Fits}
use Rattle.clobber_pass.specs.Sweep.{row_in}
use Rattle.clobber_pass.specs.inside.Sweep.{exits_of, next_row, jump_target, or_from, row_joined}
use Rattle.clobber_pass.specs.inside.Sweep.{join_in, meet_in, row_or, rows_led}
use Rattle.clobber_pass.specs.inside.Closed.{Closed, row_reaching, seen_in_row, Shaped}
use Rattle.clobber_pass.proofs.steps.After.{length_after}
use Rattle.clobber_pass.proofs.steps.Calls.{length_call}
use Rattle.clobber_pass.proofs.bits.Joins.{or_more}

pub length_next : (topic : Topic) (exits : List (List (List ℕ))) (i : Instruction) (row : List ℕ)
    → length (next_row topic exits i row) ≡ length row
length_next topic exits (Jump place) row = length-replicate (length row) 0
length_next topic exits (Return from) row = length-replicate (length row) 0
length_next topic exits (Trap kind) row = length-replicate (length row) 0
length_next topic exits (Call to g args) row = length_call (exits_of exits g) to args row
length_next topic exits (Const to v) row = length_after topic (Const to v) row
length_next topic exits (Copy to from) row = length_after topic (Copy to from) row
length_next topic exits (Bin op to left right) row = length_after topic (Bin op to left right) row
length_next topic exits (Branch on place) row = refl
length_next topic exits (Load to t) row = length_after topic (Load to t) row
length_next topic exits (Store t from line) row = length_after topic (Store t from line) row
length_next topic exits (New to kind log_fill line) row =
    length_after topic (New to kind log_fill line) row
length_next topic exits (Free from kind line) row = length_after topic (Free from kind line) row
length_next topic exits Tick row = refl
length_next topic exits (Log t) row = refl

pub any_in : (row : List ℕ) (x : ℕ) (o : Origins) (a : Fact) → AmongOrigins a o
    → tells row x (slot a) ≡ true → tells_any row x o ≡ true
any_in row x Nowhere a m h = absurd m
any_in row x (One b) a m h = subst (λ c. tells row x (slot c) ≡ true) m h
any_in row x (Two b c) a (inl m) h =
    or_left (tells row x (slot b)) (tells row x (slot c))
    (subst (λ c. tells row x (slot c) ≡ true) m h)
any_in row x (Two b c) a (inr m) h =
    or_right (tells row x (slot b)) (tells row x (slot c))
    (subst (λ c. tells row x (slot c) ≡ true) m h)

pub jump_back : (place : ℕ) (a b : Fact) → AmongOrigins a (origins (Jump place) b) → a ≡ b
jump_back place a Here m = m
jump_back place a (Unwritten r s x) m = m
jump_back place a (RootUnwritten x) m = m
jump_back place a (ReadRoot x) m = m
jump_back place a (ReadField s x) m = m
jump_back place a Freed m = m

pub branch_back : (on place : ℕ) (a b : Fact) → AmongOrigins a (origins (Branch on place) b) → a ≡ b
branch_back on place a Here m = m
branch_back on place a (Unwritten r s x) m = m
branch_back on place a (RootUnwritten x) m = m
branch_back on place a (ReadRoot x) m = m
branch_back on place a (ReadField s x) m = m
branch_back on place a Freed m = m

-- a fact that matters has a slot in its function's rows
pub slot_inside : (topic : Topic) (registers x : ℕ) (b : Fact)
    → is_about (class_at topic x) b ≡ true → Fits registers b → slot b < row_width topic registers
slot_inside Frees registers x Here about fits = omega arith
slot_inside Frees registers x Freed about fits = omega arith
slot_inside Frees registers x (Unwritten r s y) about fits = absurd (false≢true about)
slot_inside Frees registers x (RootUnwritten y) about fits = absurd (false≢true about)
slot_inside Frees registers x (ReadRoot y) about fits = absurd (false≢true about)
slot_inside Frees registers x (ReadField s y) about fits = absurd (false≢true about)
slot_inside (Roots f) registers x (RootUnwritten y) about fits = omega arith
slot_inside (Roots f) registers x (ReadRoot y) about fits = omega arith
slot_inside (Roots f) registers x Here about fits = absurd (false≢true about)
slot_inside (Roots f) registers x (Unwritten r s y) about fits = absurd (false≢true about)
slot_inside (Roots f) registers x (ReadField s y) about fits = absurd (false≢true about)
slot_inside (Roots f) registers x Freed about fits = absurd (false≢true about)
slot_inside (Fields all) registers x b about fits = of_field (slice_get all.now x) b about fits
  where
    of_field : (o : Option StructField) (b : Fact) → is_about (class_of o) b ≡ true
        → Fits registers b → slot b < registers + 2
    of_field None b about fits = absurd (false≢true about)
    of_field (Some c) Here about fits = omega arith
    of_field (Some c) (Unwritten r s y) about fits = omega (arith, fits)
    of_field (Some c) (ReadField s y) about fits = omega arith
    of_field (Some c) (RootUnwritten y) about fits = absurd (false≢true about)
    of_field (Some c) (ReadRoot y) about fits = absurd (false≢true about)
    of_field (Some c) Freed about fits = absurd (false≢true about)

pub wide : (topic : Topic) (registers : ℕ) → 0 < row_width topic registers
wide Frees registers = omega arith
wide (Roots f) registers = omega arith
wide (Fields all) registers = omega arith

row_past : (rows : List (List ℕ)) (q : ℕ) → length rows ≤ q → row_in rows q ≡ []
row_past [] q past = refl
row_past (r ∷ rows) zero past = absurd (omega arith)
row_past (r ∷ rows) (suc q) past = row_past rows q (omega arith)

-- writing a row without a change wrote the row that was there
pub set_same : (rows : List (List ℕ)) (p : ℕ) (row : List ℕ) → slice_set rows p row ≡ rows
    → p < length rows → row_in rows p ≡ row
set_same rows p row same inside =
    ap (λ t. row_in t p) (sym same) ∙ get_or-set_same rows p row [] inside

-- what was joined to a row of a table is recorded there
brought_from : (rows : List (List ℕ)) (long x q s : ℕ) (row r : List ℕ) → (row_in rows q ≡ [])
    ⊎ (length (row_in rows q) ≡ long) → row_in rows q ≡ r → q < length rows → length row ≡ long
    → join_in rows q row ≡ rows → s < length row → tells row x s ≡ true
    → tells (row_in rows q) x s ≡ true
brought_from rows long x q s row [] shape is there size same inside h =
    let stands : row_in rows q ≡ row = set_same rows q (row_joined (row_in rows q) row) same there
    ∙ ap (λ t. row_joined t row) is in
    subst (λ t. tells t x s ≡ true) (sym stands) h
brought_from rows long x q s row (w ∷ ws) shape is there size same inside h = ⊎_elim none full shape
  where
    none : row_in rows q ≡ [] → tells (row_in rows q) x s ≡ true
    none empty = let no_way : w ∷ ws ≡ [] = sym is ∙ empty in absurd cc

    full : length (row_in rows q) ≡ long → tells (row_in rows q) x s ≡ true
    full size_is =
        let less : s < length (row_in rows q) = omega arith in
        let less_here : s < length (w ∷ ws) = subst (λ t. s < length t) is less in
        let stands : row_in rows q ≡ or_from row 0 (w ∷ ws) =
        set_same rows q (row_joined (row_in rows q) row) same there
        ∙ ap (λ t. row_joined t row) is in
        subst (λ t. tells t x s ≡ true) (sym stands) (or_more row (w ∷ ws) x s less_here h)

pub brought_one : (rows : List (List ℕ)) (long x q s : ℕ) (row : List ℕ) → (row_in rows q ≡ [])
    ⊎ (length (row_in rows q) ≡ long) → q < length rows → length row ≡ long
    → join_in rows q row ≡ rows → s < length row → tells row x s ≡ true
    → tells (row_in rows q) x s ≡ true
brought_one rows long x q s row shape there size same inside h =
    brought_from rows long x q s row (row_in rows q) shape refl there size same inside h

module _ (rows : List (List ℕ)) (long : ℕ) (some : 0 < long) (shape : Shaped long rows)
    (x : ℕ) where
  -- what reaches a place is recorded there
  met_from : (p s : ℕ) (row r : List ℕ) → row_in rows p ≡ r → length row ≡ long
      → meet_in rows p row ≡ rows → tells row x s ≡ true → s < length row
      → tells (row_or r row) x s ≡ true
  met_from p s row [] is size same h inside = h
  met_from p s row (w ∷ ws) is size same h inside = ⊎_elim none full (shape p)
    where
      none : row_in rows p ≡ [] → tells (w ∷ ws) x s ≡ true
      none empty = let no_way : w ∷ ws ≡ [] = sym is ∙ empty in absurd cc

      there : p < length rows
      there = ⊎_elim (λ (less : p < length rows). less) (λ (past : length rows ≤ p).
          let no_way : w ∷ ws ≡ [] = sym is ∙ row_past rows p past in
          absurd cc) (cases_lt p (length rows))

      full : length (row_in rows p) ≡ long → tells (w ∷ ws) x s ≡ true
      full size_is =
          let less : s < length (row_in rows p) = omega arith in
          subst (λ t. tells t x s ≡ true)
          (sym (set_same rows p (or_from row 0 (row_in rows p)) same there) ∙ is)
          (or_more row (row_in rows p) x s less h)

  pub met : (p s : ℕ) (row : List ℕ) → length row ≡ long → meet_in rows p row ≡ rows
      → s < length row → tells row x s ≡ true → tells (row_or (row_in rows p) row) x s ≡ true
  met p s row size same inside h = met_from p s row (row_in rows p) refl size same h inside

  pub brought : (q s : ℕ) (row : List ℕ) → q < length rows → length row ≡ long
      → join_in rows q row ≡ rows → s < length row → tells row x s ≡ true
      → tells (row_in rows q) x s ≡ true
  brought q s row there size same inside h =
      brought_one rows long x q s row (shape q) there size same inside h

pick_of : (row r : List ℕ) (s : ℕ) → s < length r → row_or r row ≡ r
pick_of row [] s inside = absurd (omega arith)
pick_of row (w ∷ ws) s inside = refl

length_pick : (long : ℕ) (row r : List ℕ) → (r ≡ []) ⊎ (length r ≡ long) → length row ≡ long
    → length (row_or r row) ≡ long
length_pick long row [] shape size = size
length_pick long row (w ∷ ws) (inl is) size = absurd cc
length_pick long row (w ∷ ws) (inr is) size = is

module _ (topic : Topic) (exits : List (List (List ℕ))) (end : ℕ) (rows : List (List ℕ)) (long : ℕ)
    (some : 0 < long) (shape : Shaped long rows) (x : ℕ) where
  -- the instruction and the rows at a place that a sweep reaches
  pub record Place (i : Instruction) (p : ℕ) (before slot_after : Option (List ℕ)) : Type 0 where
    pub here : List ℕ
    pub is : before ≡ Some here
    pub size : length here ≡ long
    pub leads : rows_led rows (jump_target end i) here ≡ rows
    pub next : (s : ℕ) → s < long → tells (next_row topic exits i here) x s ≡ true
        → seen_in_row x s slot_after ≡ true

  pub next_told : (rest : List Instruction) (row : List ℕ) (p s : ℕ)
      → Closed topic exits end rows row p rest → length row ≡ long → s < long → tells row x s ≡ true
      → seen_in_row x s (row_reaching topic exits rows row p rest 0) ≡ true
  next_told [] row p s closed size inside h = refl
  next_told (i ∷ is) row p s (same, leads, later) size inside h =
      met rows long some shape x p s row size same (subst (λ n. s < n) (sym size) inside) h

  pub place_at : (rest : List Instruction) (row : List ℕ) (p k : ℕ) (i : Instruction)
      → Closed topic exits end rows row p rest → length row ≡ long → slice_get rest k ≡ Some i
      → Place i (p + k) (row_reaching topic exits rows row p rest k)
      (row_reaching topic exits rows row p rest (suc k))
  place_at [] row p k i closed size is = absurd cc
  place_at (j ∷ js) row p zero i (same, leads, later) size is =
      let same_instruction : j ≡ i = cc in
      let here = row_or (row_in rows p) row in
      let size_here : length here ≡ long = length_pick long row (row_in rows p) (shape p) size in
      record {
        here = here;
        is = refl;
        size = size_here;
        leads = subst (λ k. rows_led rows (jump_target end k) here ≡ rows) same_instruction leads;
        next = λ s inside h. next_told js (next_row topic exits j here) (p + 1) s later
            (length_next topic exits j here ∙ size_here) inside
            (subst (λ k. tells (next_row topic exits k here) x s ≡ true) (sym same_instruction) h);
      }
  place_at (j ∷ js) row p (suc k) i (same, leads, later) size is =
      let here = row_or (row_in rows p) row in
      let moved : (p + 1) + k ≡ p + suc k = omega arith in
      let size_here : length here ≡ long = length_pick long row (row_in rows p) (shape p) size in
      subst (λ q. Place i q (row_reaching topic exits rows (next_row topic exits j here) (p + 1) js
      k) (row_reaching topic exits rows (next_row topic exits j here) (p + 1) js (suc k))) moved
      (place_at js (next_row topic exits j here) (p + 1) k i later (length_next topic exits j here
      ∙ size_here) is)

  -- what a table's row records is recorded at its place
  row_told : (rest : List Instruction) (row : List ℕ) (p k s : ℕ) → s < length (row_in rows (p + k))
      → tells (row_in rows (p + k)) x s ≡ true
      → seen_in_row x s (row_reaching topic exits rows row p rest k) ≡ true
  row_told [] row p k s inside h = refl
  row_told (i ∷ is) row p zero s inside h =
      let first : p + 0 ≡ p = omega arith in
      let less : s < length (row_in rows p) =
      subst (λ q. s < length (row_in rows q)) first inside in
      subst (λ t. tells t x s ≡ true) (sym (pick_of row (row_in rows p) s less))
      (subst (λ q. tells (row_in rows q) x s ≡ true) first h)
  row_told (i ∷ is) row p (suc k) s inside h =
      let moved : p + suc k ≡ (p + 1) + k = omega arith in
      row_told is (next_row topic exits i (row_or (row_in rows p) row)) (p + 1) k s
      (subst (λ q. s < length (row_in rows q)) moved inside)
      (subst (λ q. tells (row_in rows q) x s ≡ true) moved h)

  pub told_where : (rest : List Instruction) (row : List ℕ) (q s : ℕ) → s < length (row_in rows q)
      → tells (row_in rows q) x s ≡ true
      → seen_in_row x s (row_reaching topic exits rows row 0 rest q) ≡ true
  told_where rest row q s inside h =
      let first : q ≡ 0 + q = omega arith in
      row_told rest row 0 q s (subst (λ k. s < length (row_in rows k)) first inside)
      (subst (λ k. tells (row_in rows k) x s ≡ true) first h)
