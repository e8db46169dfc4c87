-- Words that are carried on come from rows that reach their places.
use Rattle.std.proofs.Common.{◌≡◌, ◌≢◌, ◌<◌, ◌+◌, ℕ, zero, suc, Bool, true, false, List, [], ◌∷◌}
use Rattle.std.proofs.Common.{◌++◌, Option, Some, None, length, replicate, refl, sym, ◌∙◌, ap}
use Rattle.std.proofs.Common.{subst, arith, inl, inr, ⊎_elim}
use Rattle.std.specs.Prelude.{◌==◌, slice_get, slice_set, bit_xor}
use Rattle.std.specs.Int.Bits.{and_zero_l}
use Rattle.std.proofs.lemmas.Bool.{false≢true, eqb-true, eq-eqb}
use Rattle.std.proofs.lemmas.List.{length-replicate, length-set}
use mathlib.Core.Logic.{◌⊎◌}
use Rattle.ir.specs.declared.instruction.Target.TheVariants.{Root, Field}
use Rattle.ir.specs.declared.instruction.Instruction.{Instruction}
use Rattle.ir.specs.declared.instruction.Instruction.TheVariants.{Const, Copy, Bin, Jump, Branch}
use Rattle.ir.specs.declared.instruction.Instruction.TheVariants.{Load, Store, New, Free, Call}
use Rattle.ir.specs.declared.instruction.Instruction.TheVariants.{Return, Tick, Trap, Log}
use Rattle.clobber_pass.specs.declared.topic.Topic.{Topic}
use Rattle.clobber_pass.specs.declared.topic.Topic.TheVariants.{Frees, Root as Roots}
use Rattle.clobber_pass.specs.declared.topic.Topic.TheVariants.{Fields}
use Rattle.clobber_pass.specs.declared.growth.Grown.{Grown}
use Rattle.clobber_pass.specs.Row.{word}
use Rattle.clobber_pass.specs.Sweep.{row_in}
use Rattle.clobber_pass.specs.inside.Row.{without, mask, fields_mask, after_row, with_read}
use Rattle.clobber_pass.specs.inside.Sweep.{next_row, jump_target, call_from, slot_after}
use Rattle.clobber_pass.specs.inside.Closed.{Reached, Made, one_word_row, raised_in}
use Rattle.clobber_pass.specs.inside.Closed.Stage.{RowAt}
use Rattle.clobber_pass.specs.inside.Closed.Reached.{raised, taken, picked, dropped, leads, goes}
use Rattle.clobber_pass.specs.inside.Carrying.{result_slot, grown_from, Arrives, AllArrive}
use Rattle.clobber_pass.specs.inside.Carrying.{Carrying, Arrived, Led, Carries, CarriesOn}
use Rattle.clobber_pass.proofs.steps.Steps.{at_other, read_other}
use Rattle.clobber_pass.proofs.steps.After.{length_after}
use Rattle.clobber_pass.proofs.steps.Calls.{word_call}
use Rattle.clobber_pass.proofs.bits.Joins.{word_zeros}

-- a row of zeros
zeros_of : (row : List ℕ) → ((t : ℕ) → word row t ≡ 0) → row ≡ replicate (length row) 0
zeros_of [] all = refl
zeros_of (w ∷ row) all =
    ap (λ v. v ∷ row) (all 0) ∙ ap (λ rest. 0 ∷ rest) (zeros_of row (λ t. all (suc t)))

equal_or_not : (a b : ℕ) → (a ≡ b) ⊎ (a ≢ b)
equal_or_not a b = by_cases (a == b) refl
  where
    by_cases : (t : Bool) → (a == b) ≡ t → (a ≡ b) ⊎ (a ≢ b)
    by_cases true is = inl (eqb-true a b is)
    by_cases false is = inr (λ (e : a ≡ b). false≢true (sym is ∙ eq-eqb a b e))

-- a word that is written stays 0 if the slot's word was, and 0 is written then
set_low : (row : List ℕ) (s w t : ℕ) → word row t ≡ 0 → (word row s ≡ 0 → w ≡ 0)
    → word (slice_set row s w) t ≡ 0
set_low [] s w t is low = refl
set_low (v ∷ row) zero w zero is low = low is
set_low (v ∷ row) zero w (suc t) is low = is
set_low (v ∷ row) (suc s) w zero is low = is
set_low (v ∷ row) (suc s) w (suc t) is low = set_low row s w t is low

cleared : (row : List ℕ) (s : ℕ) → word (slice_set row s 0) s ≡ 0
cleared [] s = refl
cleared (v ∷ row) zero = refl
cleared (v ∷ row) (suc s) = cleared row s

-- if only this slot is set, clearing it leaves zeros
clear_rest : (row : List ℕ) (s t : ℕ) → (t ≢ s → word row t ≡ 0) → word (slice_set row s 0) t ≡ 0
clear_rest row s t rest = ⊎_elim
    (λ (e : t ≡ s). subst (λ k. word (slice_set row s 0) k ≡ 0) (sym e) (cleared row s))
    (λ (unlike : t ≢ s). at_other row s t 0 unlike ∙ rest unlike) (equal_or_not t s)

without_zero : (m : ℕ) → without 0 m ≡ 0
unfolding without
without_zero m = ap (bit_xor 0) (and_zero_l m)

-- an instruction that is no call adds bits in two slots alone
after_zero : (topic : Topic) (i : Instruction) (row : List ℕ) (t : ℕ) → t ≢ 1 → t ≢ result_slot i
    → word row t ≡ 0 → word (after_row topic i row) t ≡ 0
after_zero topic (Const to v) row t one other is = at_other row (to + 2) t _ other ∙ is
after_zero topic (Copy to from) row t one other is = at_other row (to + 2) t _ other ∙ is
after_zero topic (Bin op to left right) row t one other is = at_other row (to + 2) t _ other ∙ is
after_zero topic (Load to target) row t one other is =
    at_other (with_read topic target row) (to + 2) t _ other
    ∙ read_other topic target row t one ∙ is
after_zero topic (New to kind log_fill line) row t one other is =
    at_other row (to + 2) t _ other ∙ is
after_zero topic (Jump place) row t one other is = is
after_zero topic (Branch on place) row t one other is = is
after_zero topic (Call to g args) row t one other is = is
after_zero topic (Return from) row t one other is = is
after_zero topic Tick row t one other is = is
after_zero topic (Trap kind) row t one other is = is
after_zero topic (Log target) row t one other is = is
after_zero Frees (Free from kind line) row t one other is = at_other row 1 t _ one ∙ is
after_zero (Roots f) (Free from kind line) row t one other is = is
after_zero (Fields all) (Free from kind line) row t one other is = is
after_zero Frees (Store target from line) row t one other is = is
after_zero (Roots f) (Store (Root y None) from line) row t one other is =
    set_low row 0 (without (word row 0) (mask f y)) t is
    (λ (e : word row 0 ≡ 0). ap (λ w. without w (mask f y)) e ∙ without_zero (mask f y))
after_zero (Roots f) (Store (Root y (Some i)) from line) row t one other is = is
after_zero (Roots f) (Store (Field b k y i) from line) row t one other is = is
after_zero (Fields all) (Store (Root y i) from line) row t one other is = is
after_zero (Fields all) (Store (Field b c y (Some i)) from line) row t one other is = is
after_zero (Fields all) (Store (Field b c y None) from line) row t one other is =
    let m = fields_mask all.now c y in
    set_low row (b + 2) (without (word row (b + 2)) m) t is
    (λ (e : word row (b + 2) ≡ 0). ap (λ w. without w m) e ∙ without_zero m)

one_word_zero : (n s w t : ℕ) → t ≢ s → word (one_word_row n s w) t ≡ 0
one_word_zero n s w t unlike = at_other (replicate n 0) s t w unlike ∙ word_zeros n t

length_one_word : (n s w : ℕ) → length (one_word_row n s w) ≡ n
length_one_word n s w = length-set (replicate n 0) s w ∙ length-replicate n 0

-- the same after an instruction, for the slots that it may write
pub step_cleared : (topic : Topic) (i : Instruction) (n s w : ℕ)
    → slice_set (slice_set (slice_set (after_row topic i (one_word_row n s w)) s 0) 1 0)
    (result_slot i) 0
    ≡ replicate n 0
step_cleared topic i n s w =
    zeros_of last (λ t. clear_rest second (result_slot i) t (λ other.
    clear_rest first 1 t (λ one. clear_rest row s t (λ unlike.
    after_zero topic i (one_word_row n s w) t one other (one_word_zero n s w t unlike)))))
    ∙ ap (λ m. replicate m 0) (length-set second (result_slot i) 0 ∙ length-set first 1 0
    ∙ length-set row s 0 ∙ length_after topic i (one_word_row n s w) ∙ length_one_word n s w)
  where
    row : List ℕ
    row = after_row topic i (one_word_row n s w)

    first : List ℕ
    first = slice_set row s 0

    second : List ℕ
    second = slice_set first 1 0

    last : List ℕ
    last = slice_set second (result_slot i) 0

-- words to carry on
module _ (topic : Topic) (exits : List (List (List ℕ))) (entry : List ℕ)
    (code : List Instruction) where
  pub arrive_both : (one other : List Grown) → AllArrive topic exits entry code one
      → AllArrive topic exits entry code other → AllArrive topic exits entry code (one ++ other)
  arrive_both [] other all more = more
  arrive_both (g ∷ gs) other all more = (all.0, arrive_both gs other all.1 more)

  pub arrive_last : (gs : List Grown) (g : Grown) → AllArrive topic exits entry code (gs ++ g ∷ [])
      → AllArrive topic exits entry code gs × Arrives topic exits entry code g.place g.slot g.word
  arrive_last [] g all = (tt, all.0)
  arrive_last (h ∷ gs) g all = let rest = arrive_last gs g all.1 in ((all.0, rest.0), rest.1)

  -- the words of a table's row
  row_arrives : (rows : List (List ℕ)) (p s : ℕ) (rest : List ℕ) → Made topic exits entry code rows
      → ((k : ℕ) → word rest k ≡ word (row_in rows p) (s + k))
      → AllArrive topic exits entry code (grown_from p s rest)
  row_arrives rows p s [] made same = tt
  row_arrives rows p s (w ∷ ws) made same =
      let first : s + 0 ≡ s = omega arith in
      let is : w ≡ word (row_in rows p) s = same 0 ∙ ap (word (row_in rows p)) first in (
        subst (λ v. Arrives topic exits entry code p s v) (sym is) (taken rows p s made),
        row_arrives rows p (s + 1) ws made (λ k.
            let moved : s + suc k ≡ (s + 1) + k = omega arith in
            same (suc k) ∙ ap (word (row_in rows p)) moved),
      )

  pub row_carrying : (rows : List (List ℕ)) (p : ℕ) (growth : List Grown)
      → Made topic exits entry code rows → growth ≡ grown_from p 0 (row_in rows p)
      → Carrying topic exits entry code rows growth
  row_carrying rows p growth made is = record {
    made = made;
    all = subst (AllArrive topic exits entry code) (sym is)
        (row_arrives rows p 0 (row_in rows p) made
        (λ k. let e : k ≡ 0 + k = omega arith in ap (word (row_in rows p)) e));
  }

  pub arrived_carrying : (p s w : ℕ) (rows new : List (List ℕ)) (growth later : List Grown)
      → Arrived p s w rows new growth later → Arrives topic exits entry code p s w
      → Carrying topic exits entry code rows growth → Carrying topic exits entry code new later
  arrived_carrying p s w rows new growth later a at c = record {
    made = ⊎_elim
        (λ (e : new ≡ rows). subst (Made topic exits entry code) (sym e) c.made)
        (λ (e : new ≡ raised_in rows p s w). subst (Made topic exits entry code) (sym e)
        (raised rows p s w c.made at))
        a.table;
    all = ⊎_elim
        (λ (e : later ≡ growth). subst (AllArrive topic exits entry code) (sym e) c.all)
        (λ (e : later ≡ growth ++ record { place = p; slot = s; word = w } ∷ []).
        subst (AllArrive topic exits entry code) (sym e)
        (arrive_both growth (record { place = p; slot = s; word = w } ∷ []) c.all (at, tt)))
        a.list;
  }

  pub popped : (rows : List (List ℕ)) (growth rest : List Grown) (g : Grown)
      → growth ≡ rest ++ g ∷ [] → Carrying topic exits entry code rows growth
      → Carrying topic exits entry code rows rest
      × Arrives topic exits entry code g.place g.slot g.word
  popped rows growth rest g is c =
      let parts = arrive_last rest g (subst (AllArrive topic exits entry code) is c.all) in
      (record { made = c.made; all = parts.0 }, parts.1)

-- what arrives at a place is one of the words of the row there
pub arrived_carries : (p s w : ℕ) (row : List ℕ) (rows new : List (List ℕ))
    (growth later : List Grown) → Arrived p s w rows new growth later → word row s ≡ w
    → Carries p row rows new growth later
arrived_carries p s w row rows new growth later a is = record {
  keeps = λ topic exits entry code at c.
      arrived_carrying topic exits entry code p s w rows new growth later a
      (subst (λ v. Arrives topic exits entry code p s v) is (picked p row s at)) c;
}

pub carries_none : (p : ℕ) (row : List ℕ) (rows : List (List ℕ)) (growth : List Grown)
    → Carries p row rows rows growth growth
carries_none p row rows growth = record { keeps = λ topic exits entry code at c. c }

pub carries_then : (p : ℕ) (row : List ℕ) (rows mid new : List (List ℕ))
    (growth between later : List Grown) → Carries p row rows mid growth between
    → Carries p row mid new between later → Carries p row rows new growth later
carries_then p row rows mid new growth between later one other = record {
  keeps = λ topic exits entry code at c.
      other.keeps topic exits entry code at (one.keeps topic exits entry code at c);
}

pub carries_dropped : (p : ℕ) (row : List ℕ) (s : ℕ) (rows new : List (List ℕ))
    (growth later : List Grown) → Carries p (slice_set row s 0) rows new growth later
    → Carries p row rows new growth later
carries_dropped p row s rows new growth later one = record {
  keeps = λ topic exits entry code at c.
      one.keeps topic exits entry code (dropped p row s at) c;
}

pub ruleset carried = (carries_none, carries_then)

-- the words of a row that are handed on one after the other, each cleared before the next
pub step_carries : (p : ℕ) (row r0 r1 r2 : List ℕ) (s t : ℕ) (rows a b new : List (List ℕ))
    (growth c d later : List Grown) → r0 ≡ row → r1 ≡ slice_set r0 s 0 → r2 ≡ slice_set r1 t 0
    → Carries p r0 rows a growth c → Carries p r1 a b c d → Carries p r2 b new d later
    → Carries p row rows new growth later
step_carries p row r0 r1 r2 s t rows a b new growth c d later is0 is1 is2 one two three =
    subst (λ r. Carries p r rows new growth later) is0
    (carries_then p r0 rows a new growth c later one
    (carries_dropped p r0 s a new c later
    (subst (λ r. Carries p r a new c later) is1
    (carries_then p r1 a b new c d later two
    (carries_dropped p r1 t b new d later
    (subst (λ r. Carries p r b new d later) is2 three))))))

pub step_blank : (topic : Topic) (i : Instruction) (n s w d : ℕ) (r0 r1 r2 r3 : List ℕ)
    → r0 ≡ after_row topic i (one_word_row n s w) → r1 ≡ slice_set r0 s 0 → r2 ≡ slice_set r1 1 0
    → d ≡ result_slot i → r3 ≡ slice_set r2 d 0 → r3 ≡ replicate n 0
step_blank topic i n s w d r0 r1 r2 r3 is0 is1 is2 is_d is3 =
    is3 ∙ ap (λ k. slice_set r2 k 0) is_d
    ∙ ap (λ r. slice_set r (result_slot i) 0)
    (is2 ∙ ap (λ r. slice_set r 1 0) (is1 ∙ ap (λ r. slice_set r s 0) is0))
    ∙ step_cleared topic i n s w

-- the word of a slot after a call is added
pub call_carries : (p s w : ℕ) (exits : List (List ℕ)) (to : ℕ) (args row : List ℕ)
    (rows new : List (List ℕ)) (growth later : List Grown) → s < length row
    → w ≡ slot_after exits to args row s → Arrived p s w rows new growth later
    → Carries p (call_from exits to args row 0 row) rows new growth later
call_carries p s w exits to args row rows new growth later inside is a =
    arrived_carries p s w (call_from exits to args row 0 row) rows new growth later a
    (word_call exits to args row s inside ∙ sym is)

-- a word leads to another place, and goes to the next one
module _ (topic : Topic) (exits : List (List (List ℕ))) (code : List Instruction) (n : ℕ)
    (g : Grown) (i : Instruction) (there : slice_get code g.place ≡ Some i)
    (rows led : List (List ℕ)) (growth between : List Grown)
    (leading : Led (jump_target (length code) i) g rows led growth between) where
  led_carrying : (to : Option ℕ) → jump_target (length code) i ≡ to
      → Led to g rows led growth between
      → (entry : List ℕ) → Arrives topic exits entry code g.place g.slot g.word
      → Carrying topic exits entry code rows growth → Carrying topic exits entry code led between
  led_carrying None same still entry at c =
      subst (λ r. Carrying topic exits entry code r between) (sym still.0)
      (subst (Carrying topic exits entry code rows) (sym still.1) c)
  led_carrying (Some q) same a entry at c =
      arrived_carrying topic exits entry code q g.slot g.word rows led growth between a
      (leads g.place q i (one_word_row (length entry) g.slot g.word) there same at) c

  pub leads_on : CarriesOn topic exits code n g rows led growth between
  leads_on = record {
    keeps = λ entry long at c.
        led_carrying (jump_target (length code) i) refl leading entry at c;
  }

  pub passes_on : (new : List (List ℕ)) (later : List Grown) → g.place + 1 < length code
      → Carries (g.place + 1) (next_row topic exits i (one_word_row n g.slot g.word)) led new
      between later
      → CarriesOn topic exits code n g rows new growth later
  passes_on new later inside on = record {
    keeps = λ entry long at c.
        let next : suc g.place ≡ g.place + 1 = omega arith in
        let less : suc g.place < length code = omega (arith, inside) in
        on.keeps topic exits entry code
        (subst (λ q. Reached topic exits entry code (RowAt q
        (next_row topic exits i (one_word_row n g.slot g.word)))) next
        (subst (λ m. Reached topic exits entry code (RowAt (suc g.place)
        (next_row topic exits i (one_word_row m g.slot g.word)))) long
        (goes g.place i (one_word_row (length entry) g.slot g.word) there less at)))
        (led_carrying (jump_target (length code) i) refl leading entry at c);
  }
