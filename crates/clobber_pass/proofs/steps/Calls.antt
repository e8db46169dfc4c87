-- The row after a call, fact by fact.
use Rattle.std.proofs.Common.{◌≡◌, ◌<◌, ◌≤◌, ◌+◌, ◌-◌, ℕ, zero, suc, Bool, true, false, List, []}
use Rattle.std.proofs.Common.{◌∷◌, Option, Some, None, length, refl, sym, ◌∙◌, ap, subst, arith}
use Rattle.std.proofs.Common.{inl, inr, ⊎_elim}
use Rattle.std.specs.Prelude.{◌==◌, slice_get, slice_index_or, bit_and, bit_or, position}
use Rattle.std.specs.Prelude.{if◌then◌else◌}
use Rattle.std.proofs.lemmas.Bool.{and_parts, and_from, cases_lt, lt-ltb, le-ltb}
use Rattle.std.proofs.lemmas.Bool.{or_left, or_right, or_cases}
use Rattle.std.proofs.lemmas.Option.{slice_get_past, slice_get-get_or}
use mathlib.Core.Logic.{◌⊎◌}
use Rattle.ir.specs.declared.fact.Fact.{Fact}
use Rattle.ir.specs.declared.fact.Fact.TheVariants.{Here, Unwritten, RootUnwritten, ReadRoot}
use Rattle.ir.specs.declared.fact.Fact.TheVariants.{ReadField, Freed}
use Rattle.ir.specs.declared.fact.Back.{Back}
use Rattle.ir.specs.declared.fact.Back.TheVariants.{FromReturn, Stays}
use Rattle.ir.specs.Table.{argument_fact, at_call, from_parameter, back}
use Rattle.clobber_pass.specs.inside.Class.{slot}
use Rattle.clobber_pass.specs.Row.{word, has_bit, tells}
use Rattle.clobber_pass.specs.inside.Told.{column_of, column}
use Rattle.clobber_pass.specs.inside.Sweep.{exit, comes, from_args, gather, passed_on}
use Rattle.clobber_pass.specs.inside.Sweep.{register_after, slot_after, call_from}
use Rattle.clobber_pass.proofs.bits.Bits.{has_bit_or, has_bit_and}

-- the words after a call, from a slot on
call_word : (exits : List (List ℕ)) (to : ℕ) (args row words : List ℕ) (k s : ℕ) → s < length words
    → word (call_from exits to args row k words) s ≡ slot_after exits to args row (k + s)
call_word exits to args row [] k s less = absurd (omega arith)
call_word exits to args row (w ∷ words) k zero less = let e : k + 0 ≡ k = omega arith in rw e refl
call_word exits to args row (w ∷ words) k (suc s) less =
    let e : k + suc s ≡ (k + 1) + s = omega arith in
    rw e (call_word exits to args row words (k + 1) s (omega arith))

pub word_call : (exits : List (List ℕ)) (to : ℕ) (args row : List ℕ) (s : ℕ) → s < length row
    → word (call_from exits to args row 0 row) s ≡ slot_after exits to args row s
word_call exits to args row s less = let e : 0 + s ≡ s = omega arith in
    call_word exits to args row row 0 s less ∙ rw e refl

length_call_from : (exits : List (List ℕ)) (to : ℕ) (args row words : List ℕ) (k : ℕ)
    → length (call_from exits to args row k words) ≡ length words
length_call_from exits to args row [] k = refl
length_call_from exits to args row (w ∷ words) k =
    ap suc (length_call_from exits to args row words (k + 1))

pub length_call : (exits : List (List ℕ)) (to : ℕ) (args row : List ℕ)
    → length (call_from exits to args row 0 row) ≡ length row
length_call exits to args row = length_call_from exits to args row row 0

-- a slot at the call, and the column of the called function's entry that takes it
pub data Entry (args : List ℕ) : ℕ → ℕ → Type 0 where
  start : Entry args 0 0
  sought : Entry args 1 1
  argument_of : (k a : ℕ) → slice_get args k ≡ Some a → Entry args (2 + k) (a + 2)

module _ (exits : List (List ℕ)) (row : List ℕ) (x : ℕ) where
  abbrev pub Brings : ℕ → ℕ → ℕ → Type 0
  Brings c at s = (has_bit x (exit exits c s) ≡ true) × (tells row x at ≡ true)

  comes_in : (c at s : ℕ) → Brings c at s → has_bit x (comes exits row c at s) ≡ true
  comes_in c at s h = has_bit_and x (exit exits c s) (word row at)
      ∙ and_from (has_bit x (exit exits c s)) (tells row x at) h.0 h.1

  comes_out : (c at s : ℕ) → has_bit x (comes exits row c at s) ≡ true → Brings c at s
  comes_out c at s h = and_parts (has_bit x (exit exits c s)) (tells row x at)
      (sym (has_bit_and x (exit exits c s) (word row at)) ∙ h)

  -- what was recorded stays
  args_keep : (c : ℕ) (args : List ℕ) (s bits : ℕ) → has_bit x bits ≡ true
      → has_bit x (from_args exits row c args s bits) ≡ true
  args_keep c [] s bits h = h
  args_keep c (a ∷ args) s bits h =
      args_keep (c + 1) args s (bit_or bits (comes exits row c (a + 2) s))
      (has_bit_or x bits (comes exits row c (a + 2) s)
      ∙ or_left (has_bit x bits) (has_bit x (comes exits row c (a + 2) s)) h)

  args_in : (c : ℕ) (args : List ℕ) (s bits k a : ℕ) → slice_get args k ≡ Some a
      → Brings (c + k) (a + 2) s → has_bit x (from_args exits row c args s bits) ≡ true
  args_in c [] s bits k a is h = absurd cc
  args_in c (d ∷ args) s bits zero a is h =
      let first : c + 0 ≡ c = omega arith in
      let same : a ≡ d = cc in
      let here : Brings c (d + 2) s =
      subst (λ j. Brings j (d + 2) s) first (subst (λ b. Brings (c + 0) (b + 2) s) same h) in
      args_keep (c + 1) args s (bit_or bits (comes exits row c (d + 2) s))
      (has_bit_or x bits (comes exits row c (d + 2) s)
      ∙ or_right (has_bit x bits) (has_bit x (comes exits row c (d + 2) s))
      (comes_in c (d + 2) s here))
  args_in c (d ∷ args) s bits (suc k) a is h =
      let moved : c + suc k ≡ (c + 1) + k = omega arith in
      args_in (c + 1) args s (bit_or bits (comes exits row c (d + 2) s)) k a is
      (subst (λ j. Brings j (a + 2) s) moved h)

  -- some argument brings it, or it was there
  abbrev SomeArgument : ℕ → List ℕ → ℕ → Type 0
  SomeArgument c args s = (k : ℕ) × (a : ℕ) × (slice_get args k ≡ Some a) × Brings (c + k) (a + 2) s

  args_out : (c : ℕ) (args : List ℕ) (s bits : ℕ) → has_bit x (from_args exits row c args s bits)
      ≡ true → (has_bit x bits ≡ true) ⊎ SomeArgument c args s
  args_out c [] s bits h = inl h
  args_out c (d ∷ args) s bits h =
      ⊎_elim before later (args_out (c + 1) args s (bit_or bits (comes exits row c (d + 2) s)) h)
    where
      before : has_bit x (bit_or bits (comes exits row c (d + 2) s)) ≡ true
          → (has_bit x bits ≡ true) ⊎ SomeArgument c (d ∷ args) s
      before t =
          ⊎_elim inl
          (λ (u : has_bit x (comes exits row c (d + 2) s) ≡ true).
          let first : c ≡ c + 0 = omega arith in
          inr (0, d, refl, subst (λ j. Brings j (d + 2) s) first (comes_out c (d + 2) s u)))
          (or_cases (has_bit x bits) (has_bit x (comes exits row c (d + 2) s))
          (sym (has_bit_or x bits (comes exits row c (d + 2) s)) ∙ t))

      later : SomeArgument (c + 1) args s → (has_bit x bits ≡ true) ⊎ SomeArgument c (d ∷ args) s
      later (k, a, is, brings) =
          let moved : (c + 1) + k ≡ c + suc k = omega arith in
          inr (suc k, a, is, subst (λ j. Brings j (a + 2) s) moved brings)

  pub gather_in : (args : List ℕ) (s c at : ℕ) → Entry args c at → Brings c at s
      → has_bit x (gather exits row args s) ≡ true
  gather_in args s c at start h =
      args_keep 2 args s (bit_or (comes exits row 0 0 s) (comes exits row 1 1 s))
      (has_bit_or x (comes exits row 0 0 s) (comes exits row 1 1 s)
      ∙ or_left (has_bit x (comes exits row 0 0 s)) (has_bit x (comes exits row 1 1 s))
      (comes_in 0 0 s h))
  gather_in args s c at sought h =
      args_keep 2 args s (bit_or (comes exits row 0 0 s) (comes exits row 1 1 s))
      (has_bit_or x (comes exits row 0 0 s) (comes exits row 1 1 s)
      ∙ or_right (has_bit x (comes exits row 0 0 s)) (has_bit x (comes exits row 1 1 s))
      (comes_in 1 1 s h))
  gather_in args s c at (argument_of k a is) h =
      args_in 2 args s (bit_or (comes exits row 0 0 s) (comes exits row 1 1 s)) k a is h

  pub gather_out : (args : List ℕ) (s : ℕ) → has_bit x (gather exits row args s) ≡ true
      → (c : ℕ) × (at : ℕ) × Entry args c at × Brings c at s
  gather_out args s h = ⊎_elim others of_argument
      (args_out 2 args s (bit_or (comes exits row 0 0 s) (comes exits row 1 1 s)) h)
    where
      others : has_bit x (bit_or (comes exits row 0 0 s) (comes exits row 1 1 s)) ≡ true
          → (c : ℕ) × (at : ℕ) × Entry args c at × Brings c at s
      others t =
          ⊎_elim
          (λ (u : has_bit x (comes exits row 0 0 s) ≡ true). (0, 0, start, comes_out 0 0 s u))
          (λ (u : has_bit x (comes exits row 1 1 s) ≡ true). (1, 1, sought, comes_out 1 1 s u))
          (or_cases (has_bit x (comes exits row 0 0 s)) (has_bit x (comes exits row 1 1 s))
          (sym (has_bit_or x (comes exits row 0 0 s) (comes exits row 1 1 s)) ∙ t))

      of_argument : SomeArgument 2 args s → (c : ℕ) × (at : ℕ) × Entry args c at × Brings c at s
      of_argument (k, a, is, brings) = (2 + k, a + 2, argument_of k a is, brings)

-- the column of a fact at a called function's entry takes the slot of the fact at the call
module _ (args : List ℕ) (n : ℕ) (size : length args ≡ n) where
  small_column : (s : ℕ) → s < 2 → column_of n s ≡ s
  small_column s less = let inside : s < n + 2 = omega arith in rw (lt-ltb s (n + 2) inside) refl

  inner_column : (r : ℕ) → r < n → column_of n (r + 2) ≡ r + 2
  inner_column r less = let inside : r + 2 < n + 2 = omega arith in
      rw (lt-ltb (r + 2) (n + 2) inside) refl

  outer_column : (r : ℕ) → n ≤ r → column_of n (r + 2) ≡ 0
  outer_column r past = let outside : n + 2 ≤ r + 2 = omega arith in
      rw (le-ltb (r + 2) (n + 2) outside) refl

  register_entry : (r s y : ℕ) →
      Entry args (column_of n (r + 2)) (slot (argument_fact (slice_get args r) s y))
  register_entry r s y = ⊎_elim inside outside (cases_lt r n)
    where
      inside : r < n → Entry args (column_of n (r + 2))
          (slot (argument_fact (slice_get args r) s y))
      inside less =
          let few : r < length args = omega arith in
          let there : slice_get args r ≡ Some (slice_index_or args r 0) =
          slice_get-get_or args r 0 few in
          let turned : 2 + r ≡ r + 2 = omega arith in
          subst (λ c. Entry args c (slot (argument_fact (slice_get args r) s y)))
          (turned ∙ sym (inner_column r less))
          (subst (λ a. Entry args (2 + r) (slot (argument_fact a s y))) (sym there)
          (argument_of r (slice_index_or args r 0) there))

      outside : n ≤ r → Entry args (column_of n (r + 2))
          (slot (argument_fact (slice_get args r) s y))
      outside past =
          let many : length args ≤ r = omega arith in
          subst (λ c. Entry args c (slot (argument_fact (slice_get args r) s y)))
          (sym (outer_column r past))
          (subst (λ a. Entry args 0 (slot (argument_fact a s y)))
          (sym (slice_get_past args r many)) start)

  pub entry_of : (e : Fact) → Entry args (column n e) (slot (at_call args e))
  entry_of Here = subst (λ c. Entry args c 0) (sym (small_column 0 (omega arith))) start
  entry_of (RootUnwritten y) = subst (λ c. Entry args c 0) (sym (small_column 0 (omega arith)))
      start
  entry_of (ReadRoot y) = subst (λ c. Entry args c 1) (sym (small_column 1 (omega arith))) sought
  entry_of (ReadField s y) = subst (λ c. Entry args c 1) (sym (small_column 1 (omega arith))) sought
  entry_of Freed = subst (λ c. Entry args c 1) (sym (small_column 1 (omega arith))) sought
  entry_of (Unwritten r s y) = register_entry r s y

-- a column takes only one slot
entry_slot : (args : List ℕ) (c at : ℕ) → Entry args c at → (d other : ℕ) → Entry args d other
    → c ≡ d → at ≡ other
entry_slot args c at start d other start same = refl
entry_slot args c at start d other sought same = absurd (omega arith)
entry_slot args c at start d other (argument_of k a is) same = absurd (omega arith)
entry_slot args c at sought d other start same = absurd (omega arith)
entry_slot args c at sought d other sought same = refl
entry_slot args c at sought d other (argument_of k a is) same = absurd (omega arith)
entry_slot args c at (argument_of k a is) d other start same = absurd (omega arith)
entry_slot args c at (argument_of k a is) d other sought same = absurd (omega arith)
entry_slot args c at (argument_of k a is) d other (argument_of l b was) same =
    let e : k ≡ l = omega arith in
    let both : Some a ≡ Some b = sym is ∙ ap (slice_get args) e ∙ was in
    let same_register : a ≡ b = cc in
    ap (λ r. r + 2) same_register

pub entry_is : (args : List ℕ) (n : ℕ) (e : Fact) (c at : ℕ) → length args ≡ n → column n e ≡ c
    → Entry args c at → slot (at_call args e) ≡ at
entry_is args n e c at size same entry =
    entry_slot args (column n e) (slot (at_call args e)) (entry_of args n size e) c at entry same

-- the word of a fact after a call, by the fact's origin
module _ (exits : List (List ℕ)) (to : ℕ) (args row : List ℕ) where
  abbrev pub By : Back → ℕ → ℕ
  By (FromReturn y) s = gather exits row args (slot y)
  By Stays s = bit_and (exit exits 0 0) (word row s)

  register_after_call : (r s y : ℕ) → register_after exits to args row r
      ≡ By (back to args (Unwritten r s y)) (r + 2)
  register_after_call r s y = of_result (r == to)
    where
      of_position : (j : Option ℕ) → passed_on exits row args (r + 2) j
          ≡ By (from_parameter j s y) (r + 2)
      of_position None = refl
      of_position (Some j) = refl

      of_result : (b : Bool) → (if b then gather exits row args 0
          else passed_on exits row args (r + 2) (position (λ a. a == r) args))
          ≡ By (if b then FromReturn Here else from_parameter (position (λ a. a == r) args) s y)
          (r + 2)
      of_result true = refl
      of_result false = of_position (position (λ a. a == r) args)

  pub after_by : (b : Fact) → slot_after exits to args row (slot b) ≡ By (back to args b) (slot b)
  after_by Here = refl
  after_by (RootUnwritten y) = refl
  after_by (ReadRoot y) = refl
  after_by (ReadField s y) = refl
  after_by Freed = refl
  after_by (Unwritten r s y) =
      let outside : 2 ≤ r + 2 = omega arith in
      let less : (r + 2) - 2 ≡ r = omega arith in
      rw (le-ltb (r + 2) 2 outside, less) (register_after_call r s y)
