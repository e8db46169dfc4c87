-- Entries joined with what calls bring record only derived facts.
use Rattle.std.proofs.Common.{◌≡◌, ◌<◌, ◌≤◌, ◌+◌, ◌-◌, ℕ, zero, suc, Bool, true, false, List, []}
use Rattle.std.proofs.Common.{◌∷◌, Option, Some, None, length, refl, sym, ◌∙◌, ap, subst, arith}
use Rattle.std.proofs.Common.{inl, inr, ⊎_elim}
use Rattle.std.specs.Prelude.{◌==◌, slice_get, slice_set, nat_lt, if◌then◌else◌}
use Rattle.std.proofs.lemmas.Bool.{false≢true, le-ltb, eqb-true, eq-eqb, or_left}
use Rattle.std.proofs.lemmas.List.{length-set, get_or-set_same}
use Rattle.std.proofs.lemmas.Option.{slice_get_within}
use Rattle.std.specs.List.{AllByRecursion}
use Rattle.nvm_base.proofs.Lists.{all_at}
use mathlib.Core.Logic.{◌⊎◌}
use Rattle.ir.specs.declared.instruction.Instruction.{Instruction}
use Rattle.ir.specs.declared.instruction.Instruction.TheVariants.{Const, Copy, Bin, Jump, Branch}
use Rattle.ir.specs.declared.instruction.Instruction.TheVariants.{Load, Store, New, Free, Call}
use Rattle.ir.specs.declared.instruction.Instruction.TheVariants.{Return, Tick, Trap, Log}
use Rattle.ir.specs.declared.function.IrFunction.{IrFunction}
use Rattle.ir.specs.declared.function.Ir.{Ir}
use Rattle.ir.specs.declared.fact.Fact.{Fact}
use Rattle.ir.specs.declared.fact.Fact.TheVariants.{Here, Unwritten, RootUnwritten, ReadRoot}
use Rattle.ir.specs.declared.fact.Fact.TheVariants.{ReadField, Freed}
use Rattle.ir.specs.Places.{instruction_at}
use Rattle.ir.specs.Table.{argument_fact, at_call}
use Rattle.ir.specs.Derived.{Flows}
use Rattle.ir.specs.Derived.Flows.{called as calling, on, across, beside}
use Rattle.ir.specs.WellFormed.{TakesArgs, IsInstruction, IsFunction, IsWellFormed}
use Rattle.clobber_pass.specs.declared.topic.Topic.{Topic}
use Rattle.clobber_pass.specs.inside.Class.{class_at, is_about, slot}
use Rattle.clobber_pass.specs.Row.{word, has_bit, tells}
use Rattle.clobber_pass.specs.inside.Told.{row_width, register_count, registers_at}
use Rattle.clobber_pass.specs.Sweep.{row_in}
use Rattle.clobber_pass.specs.inside.Sweep.{exits_of, or_from, row_joined, join_in, next_row}
use Rattle.clobber_pass.specs.inside.Sweep.{row_or}
use Rattle.clobber_pass.specs.inside.Closed.{Closed, Shaped, Made, Within}
use Rattle.clobber_pass.specs.inside.Sound.{SoundExits}
use Rattle.clobber_pass.specs.inside.Flow.{BroughtBy, AllBrought, FlowIn, FlowEnded, Flowing, Wakes}
use Rattle.clobber_pass.specs.inside.Flow.{waits, Entries, StartEntries, argument_word, enter_word}
use Rattle.clobber_pass.specs.inside.Flow.{enter_from, enter_row, entries_after_call}
use Rattle.clobber_pass.specs.inside.Flow.{entries_after_calls, SoundEntries, ShapedEntries}
use Rattle.clobber_pass.specs.inside.Flow.{at_entry}
use Rattle.clobber_pass.proofs.bits.Bits.{has_bit_zero, has_bit_or}
use Rattle.clobber_pass.proofs.Waking.{waits_other}
use Rattle.clobber_pass.proofs.steps.About.{about_at_call}
use Rattle.clobber_pass.proofs.bits.Joins.{tells_inside, word_or, row_in_set, joined_tells}
use Rattle.clobber_pass.proofs.bits.Joins.{exits_of_other}
use Rattle.clobber_pass.proofs.derived.Good.{Steps, Good, GoodRow, GoodOrNone, good_pick, good_next}
use Rattle.clobber_pass.proofs.derived.Good.{reached_good}
use Rattle.clobber_pass.proofs.derived.Columns.{joined_out, joined_shape}

-- the words at a called function's entry
word_enter_from : (args row : List ℕ) (s k j : ℕ) → j < k
    → word (enter_from args row s k) j ≡ enter_word args row (s + j)
word_enter_from args row s zero j less = absurd (omega arith)
word_enter_from args row s (suc k) zero less = let e : s + 0 ≡ s = omega arith in rw e refl
word_enter_from args row s (suc k) (suc j) less =
    let e : s + suc j ≡ (s + 1) + j = omega arith in
    rw e (word_enter_from args row (s + 1) k j (omega arith))

length_enter_from : (args row : List ℕ) (s k : ℕ) → length (enter_from args row s k) ≡ k
length_enter_from args row s zero = refl
length_enter_from args row s (suc k) = ap suc (length_enter_from args row (s + 1) k)

pub length_enter : (topic : Topic) (registers : ℕ) (args row : List ℕ)
    → length (enter_row topic registers args row) ≡ row_width topic registers
length_enter topic registers args row = length_enter_from args row 0 (row_width topic registers)

enter_slot : (args row : List ℕ) (a : Option ℕ) (k y : ℕ)
    → argument_word row a ≡ word row (slot (argument_fact a k y))
enter_slot args row None k y = refl
enter_slot args row (Some a) k y = refl

enter_is : (args row : List ℕ) (e : Fact)
    → enter_word args row (slot e) ≡ word row (slot (at_call args e))
enter_is args row Here = refl
enter_is args row (RootUnwritten y) = refl
enter_is args row (ReadRoot y) = refl
enter_is args row (ReadField s y) = refl
enter_is args row Freed = refl
enter_is args row (Unwritten r s y) =
    let outside : 2 ≤ r + 2 = omega arith in
    let less : (r + 2) - 2 ≡ r = omega arith in
    rw (le-ltb (r + 2) 2 outside, less) (enter_slot args row (slice_get args r) s y)

pub enter_told : (topic : Topic) (registers : ℕ) (args row : List ℕ) (x : ℕ) (e : Fact)
    → slot e < row_width topic registers → tells (enter_row topic registers args row) x (slot e)
    ≡ tells row x (slot (at_call args e))
enter_told topic registers args row x e less =
    let first : 0 + slot e ≡ slot e = omega arith in
    ap (has_bit x) (word_enter_from args row 0 (row_width topic registers) (slot e) less
    ∙ ap (enter_word args row) first ∙ enter_is args row e)

-- an empty row brings nothing
empty_word : (s : ℕ) → enter_word [] [] s ≡ 0
empty_word s = by_cases (nat_lt s 2)
  where
    by_cases : (b : Bool) → (if b then word [] s else argument_word [] (slice_get [] (s - 2))) ≡ 0
    by_cases true = refl
    by_cases false = refl

empty_told : (topic : Topic) (registers x s : ℕ) → tells (enter_row topic registers [] []) x s
    ≡ true → ⊥
empty_told topic registers x s h =
    let first : 0 + s ≡ s = omega arith in
    let less : s < row_width topic registers =
    subst (λ n. s < n) (length_enter topic registers [] [])
    (tells_inside (enter_row topic registers [] []) x s h) in
    false≢true (sym (ap (has_bit x) (word_enter_from [] [] 0 (row_width topic registers) s less
    ∙ empty_word (0 + s)) ∙ has_bit_zero x) ∙ h)

pub length_at_entry : (topic : Topic) (registers : ℕ) (row : List ℕ)
    → (row ≡ []) ⊎ (length row ≡ row_width topic registers) → length (at_entry topic registers row)
    ≡ row_width topic registers
length_at_entry topic registers [] shape = length_enter topic registers [] []
length_at_entry topic registers (w ∷ ws) (inl is) = absurd cc
length_at_entry topic registers (w ∷ ws) (inr is) = is

at_entry_out : (topic : Topic) (registers : ℕ) (row : List ℕ) (x s : ℕ)
    → tells (at_entry topic registers row) x s ≡ true → tells row x s ≡ true
at_entry_out topic registers [] x s h = absurd (empty_told topic registers x s h)
at_entry_out topic registers (w ∷ ws) x s h = h

-- entries joined with a row that records only derived facts
pub sound_entry : (functions : List IrFunction) (topic : Topic) (entries : List (List ℕ)) (g : ℕ)
    (row : List ℕ) → SoundEntries functions topic entries
    → ((x : ℕ) (b : Fact) → x < 16 → is_about (class_at topic x) b ≡ true
    → tells row x (slot b) ≡ true → Flows functions g 0 b)
    → SoundEntries functions topic (join_in entries g row)
sound_entry functions topic entries g row sound new = record { flows = each }
  where
    each : (x f : ℕ) (b : Fact) → x < 16 → is_about (class_at topic x) b ≡ true
        → tells (row_in (join_in entries g row) f) x (slot b) ≡ true → Flows functions f 0 b
    each x f b few about h =
        ⊎_elim
        (λ (same : row_in (join_in entries g row) f ≡ row_in entries f).
        sound.flows x f b few about (subst (λ r. tells r x (slot b) ≡ true) same h))
        (λ (e : (f ≡ g) × (row_in (join_in entries g row) f ≡ row_joined (row_in entries g) row)).
        subst (λ k. Flows functions k 0 b) (sym e.0)
        (⊎_elim (λ (t : tells (row_in entries g) x (slot b) ≡ true). sound.flows x g b few about t)
        (λ (t : tells row x (slot b) ≡ true). new x b few about t)
        (joined_out (row_in entries g) row x (slot b)
        (subst (λ r. tells r x (slot b) ≡ true) e.1 h))))
        (row_in_set entries g (row_joined (row_in entries g) row) f)

pub shaped_entry : (functions : List IrFunction) (topic : Topic) (entries : List (List ℕ)) (g : ℕ)
    (row : List ℕ) → ShapedEntries functions topic entries
    → ((u : IrFunction) → slice_get functions g ≡ Some u
    → (row ≡ []) ⊎ (length row ≡ row_width topic u.registers))
    → ShapedEntries functions topic (join_in entries g row)
shaped_entry functions topic entries g row shaped one =
    record { count = length-set entries g _ ∙ shaped.count; each = each }
  where
    each : (f : ℕ) (u : IrFunction) → slice_get functions f ≡ Some u
        → (row_in (join_in entries g row) f ≡ [])
        ⊎ (length (row_in (join_in entries g row) f) ≡ row_width topic u.registers)
    each f u there =
        ⊎_elim
        (λ (same : row_in (join_in entries g row) f ≡ row_in entries f).
        subst (λ r. (r ≡ []) ⊎ (length r ≡ row_width topic u.registers)) (sym same)
        (shaped.each f u there))
        (λ (e : (f ≡ g) × (row_in (join_in entries g row) f ≡ row_joined (row_in entries g) row)).
        let there_g : slice_get functions g ≡ Some u = ap (slice_get functions) (sym e.0) ∙ there in
        subst (λ r. (r ≡ []) ⊎ (length r ≡ row_width topic u.registers)) (sym e.1)
        (joined_shape (row_width topic u.registers) (row_in entries g) row
        (shaped.each g u there_g) (one u there_g)))
        (row_in_set entries g (row_joined (row_in entries g) row) f)

module _ (ir : Ir) (well : IsWellFormed ir) (topic : Topic) (exits : List (List (List ℕ)))
    (sound : SoundExits ir.functions topic exits)
    (f : ℕ) (u : IrFunction) (there : slice_get ir.functions f ≡ Some u) where
  abbrev end : ℕ
  end = length u.code

  abbrev At : ℕ → Fact → Type 0
  At p b = Flows ir.functions f p b ⊎ (p ≡ end)

  code_at : (p : ℕ) (i : Instruction) → slice_get u.code p ≡ Some i
      → instruction_at ir.functions f p ≡ Some i
  code_at p i is = rw there is

  inner : (p : ℕ) (i : Instruction) (b : Fact) → slice_get u.code p ≡ Some i → At p b
      → Flows ir.functions f p b
  inner p i b is (inl d) = d
  inner p i b is (inr same) = let less : p < end = slice_get_within u.code p i is in
      absurd (omega arith)

  pub flow_steps : Steps ir f u At
  flow_steps = record {
    along = λ p q i a b is to inside m h. inl (on i (inner p i a is h) (code_at p i is) to m);
    through = λ p g to q args y z b is inside h d ret same.
        inl (across (inner p (Call to g args) (at_call args y) is h)
        (code_at p (Call to g args) is) d
        ret same);
    past = λ p g to q args b is inside h d ret same.
        inl (beside (inner p (Call to g args) b is h) (code_at p (Call to g args) is) d ret same);
    ends = λ p from b is h. inr refl;
  }

  module _ (entries : List (List ℕ)) (begins : SoundEntries ir.functions topic entries)
      (shaped : ShapedEntries ir.functions topic entries) where
    abbrev entry : List ℕ
    entry = at_entry topic u.registers (row_in entries f)

    size : length entry ≡ row_width topic u.registers
    size = length_at_entry topic u.registers (row_in entries f) (shaped.each f u there)

    pub entry_is_good : (x : ℕ) (few : x < 16)
        → GoodRow ir well topic exits sound x few f u there At flow_steps 0 entry
    entry_is_good x few = (
      size,
      λ b about h.
          inl (begins.flows x f b few about
          (at_entry_out topic u.registers (row_in entries f) x (slot b) h)),
    )

    pub flow_good : (x : ℕ) (few : x < 16) {rows : List (List ℕ)}
        → Made topic exits entry u.code rows
        → Good ir well topic exits sound x few f u there At flow_steps rows
    flow_good x few made =
        reached_good ir well topic exits sound x few f u there At flow_steps entry size
        (λ inside. entry_is_good x few) made

    pub flow_shaped : {rows : List (List ℕ)} → Made topic exits entry u.code rows
        → Shaped (row_width topic u.registers) rows
    flow_shaped {rows} made q = of_good (flow_good 0 (omega arith) made q)
      where
        of_good : GoodOrNone ir well topic exits sound 0 (omega arith) f u there At flow_steps q
            (row_in rows q) → (row_in rows q ≡ [])
            ⊎ (length (row_in rows q) ≡ row_width topic u.registers)
        of_good (inl is) = inl is
        of_good (inr good) = inr good.0

  -- each row that reaches a place is good
  abbrev pub GoodAt : ℕ → List ℕ → Type 0
  GoodAt p row = (x : ℕ) (few : x < 16) → GoodRow ir well topic exits sound x few f u there At
      flow_steps p row

  abbrev pub AllGood : List (List ℕ) → Type 0
  AllGood rows = (x : ℕ) (few : x < 16)
      → Good ir well topic exits sound x few f u there At flow_steps rows

  pub pick_is_good : (rows : List (List ℕ)) (row : List ℕ) (p : ℕ) → AllGood rows → GoodAt p row
      → GoodAt p (row_or (row_in rows p) row)
  pick_is_good rows row p all one x few =
      good_pick ir well topic exits sound x few f u there At flow_steps p (row_in rows p) row
      (all x few p) (one x few)

  pub next_is_good : (row : List ℕ) (p : ℕ) (i : Instruction) → slice_get u.code p ≡ Some i
      → suc p < end → GoodAt p row → GoodAt (suc p) (next_row topic exits i row)
  next_is_good row p i is inside one x few =
      good_next ir well topic exits sound x few f u there At flow_steps p i row is inside
      (one x few)

  -- what a call brings
  called_sound : (entries : List (List ℕ)) (i : Instruction) (row : List ℕ) (p : ℕ)
      → slice_get u.code p ≡ Some i → GoodAt p row → SoundEntries ir.functions topic entries
      → SoundEntries ir.functions topic (entries_after_call ir.functions topic entries i row)
  called_sound entries (Call to g args) row p is good begins =
      sound_entry ir.functions topic entries g
      (enter_row topic (registers_at ir.functions g) args row) begins new
    where
      new : (x : ℕ) (b : Fact) → x < 16 → is_about (class_at topic x) b ≡ true
          → tells (enter_row topic (registers_at ir.functions g) args row) x (slot b) ≡ true
          → Flows ir.functions g 0 b
      new x b few about h =
          let less : slot b < row_width topic (registers_at ir.functions g) =
          subst (λ n. slot b < n) (length_enter topic (registers_at ir.functions g) args row)
          (tells_inside (enter_row topic (registers_at ir.functions g) args row) x (slot b) h) in
          let before : tells row x (slot (at_call args b)) ≡ true =
          sym (enter_told topic (registers_at ir.functions g) args row x b less) ∙ h in
          calling (inner p (Call to g args) (at_call args b) is
          ((good x few).1 (at_call args b) (about_at_call (class_at topic x) args b about)
          before)) (code_at p (Call to g args) is)
  called_sound entries (Const to v) row p is good begins = begins
  called_sound entries (Copy to from) row p is good begins = begins
  called_sound entries (Bin op to left right) row p is good begins = begins
  called_sound entries (Jump place) row p is good begins = begins
  called_sound entries (Branch reg place) row p is good begins = begins
  called_sound entries (Load to t) row p is good begins = begins
  called_sound entries (Store t from line) row p is good begins = begins
  called_sound entries (New to kind log_fill line) row p is good begins = begins
  called_sound entries (Free from kind line) row p is good begins = begins
  called_sound entries (Return from) row p is good begins = begins
  called_sound entries Tick row p is good begins = begins
  called_sound entries (Trap kind) row p is good begins = begins
  called_sound entries (Log t) row p is good begins = begins

  abbrev RestOf : ℕ → List Instruction → Type 0
  RestOf p rest = (k : ℕ) → slice_get rest k ≡ slice_get u.code (p + k)

  entered_sound_from : (rest : List Instruction) (rows entries : List (List ℕ)) (row : List ℕ)
      (p : ℕ) → RestOf p rest → AllGood rows → (p < end → GoodAt p row)
      → SoundEntries ir.functions topic entries
      → SoundEntries ir.functions topic (entries_after_calls ir.functions topic exits rows entries
      row p rest)
  entered_sound_from [] rows entries row p same all one begins = begins
  entered_sound_from (i ∷ is) rows entries row p same all one begins =
      entered_sound_from is rows (entries_after_call ir.functions topic entries i
      (row_or (row_in rows p) row)) (next_row topic exits i (row_or (row_in rows p) row))
      (p + 1) later all
      (λ (less : p + 1 < end). subst
      (λ q. GoodAt q (next_row topic exits i (row_or (row_in rows p) row))) next
      (next_is_good (row_or (row_in rows p) row) p i at (subst (λ q. q < end) (sym next) less)
      (pick_is_good rows row p all (one inside))))
      (called_sound entries i (row_or (row_in rows p) row) p
      at (pick_is_good rows row p all (one inside)) begins)
    where
      next : suc p ≡ p + 1
      next = omega arith

      first : p + 0 ≡ p
      first = omega arith

      at : slice_get u.code p ≡ Some i
      at = subst (λ q. slice_get u.code q ≡ Some i) first (sym (same 0))

      inside : p < end
      inside = slice_get_within u.code p i at

      later : RestOf (p + 1) is
      later k = let moved : p + suc k ≡ (p + 1) + k = omega arith in
          same (suc k) ∙ ap (slice_get u.code) moved

  pub entered_sound : (rows entries : List (List ℕ)) (row : List ℕ) → AllGood rows → GoodAt 0 row
      → SoundEntries ir.functions topic entries
      → SoundEntries ir.functions topic (entries_after_calls ir.functions topic exits rows entries
      row 0 u.code)
  entered_sound rows entries row all one begins =
      entered_sound_from u.code rows entries row 0 (λ k. let e : k ≡ 0 + k = omega arith in
      ap (slice_get u.code) e) all (λ inside. one) begins

called_shaped : (ir : Ir) (topic : Topic) (entries : List (List ℕ)) (i : Instruction) (row : List ℕ)
    → ShapedEntries ir.functions topic entries
    → ShapedEntries ir.functions topic (entries_after_call ir.functions topic entries i row)
called_shaped ir topic entries (Call to g args) row shaped =
    shaped_entry ir.functions topic entries g
    (enter_row topic (registers_at ir.functions g) args row) shaped
    (λ u there. inr (length_enter topic (registers_at ir.functions g) args row
    ∙ ap (row_width topic) (registers_is ir g u there)))
  where
    registers_is : (ir : Ir) (g : ℕ) (u : IrFunction) → slice_get ir.functions g ≡ Some u
        → registers_at ir.functions g ≡ u.registers
    registers_is ir g u there = rw there refl
called_shaped ir topic entries (Const to v) row shaped = shaped
called_shaped ir topic entries (Copy to from) row shaped = shaped
called_shaped ir topic entries (Bin op to left right) row shaped = shaped
called_shaped ir topic entries (Jump place) row shaped = shaped
called_shaped ir topic entries (Branch reg place) row shaped = shaped
called_shaped ir topic entries (Load to t) row shaped = shaped
called_shaped ir topic entries (Store t from line) row shaped = shaped
called_shaped ir topic entries (New to kind log_fill line) row shaped = shaped
called_shaped ir topic entries (Free from kind line) row shaped = shaped
called_shaped ir topic entries (Return from) row shaped = shaped
called_shaped ir topic entries Tick row shaped = shaped
called_shaped ir topic entries (Trap kind) row shaped = shaped
called_shaped ir topic entries (Log t) row shaped = shaped

pub entered_shaped : (ir : Ir) (topic : Topic) (exits : List (List (List ℕ)))
    (rest : List Instruction) (rows entries : List (List ℕ)) (row : List ℕ) (p : ℕ)
    → ShapedEntries ir.functions topic entries
    → ShapedEntries ir.functions topic (entries_after_calls ir.functions topic exits rows entries
    row p rest)
entered_shaped ir topic exits [] rows entries row p shaped = shaped
entered_shaped ir topic exits (i ∷ is) rows entries row p shaped =
    entered_shaped ir topic exits is rows
    (entries_after_call ir.functions topic entries i (row_or (row_in rows p) row))
    (next_row topic exits i (row_or (row_in rows p) row)) (p + 1)
    (called_shaped ir topic entries i (row_or (row_in rows p) row) shaped)

-- what entries record stays
keeps_or : (row other : List ℕ) (x s : ℕ) → tells row x s ≡ true
    → tells (or_from other 0 row) x s ≡ true
keeps_or row other x s h =
    let less : s < length row = tells_inside row x s h in
    ap (has_bit x) (word_or other row s less) ∙ has_bit_or x (word row s) (word other s)
    ∙ or_left (tells row x s) (tells other x s) h

keeps_joined : (row other : List ℕ) → Within row (row_joined row other)
keeps_joined [] other x s h = let nothing : s < length {A = ℕ} [] = tells_inside [] x s h in
    absurd (omega (arith, nothing))
keeps_joined (w ∷ ws) other x s h = keeps_or (w ∷ ws) other x s h

abbrev Grows : List (List ℕ) → List (List ℕ) → Type 0
Grows entries new = (f : ℕ) → Within (row_in entries f) (row_in new f)

pub grows_join : (entries : List (List ℕ)) (g : ℕ) (row : List ℕ)
    → Grows entries (join_in entries g row)
grows_join entries g row f x s h =
    ⊎_elim
    (λ (same : row_in (join_in entries g row) f ≡ row_in entries f).
    subst (λ r. tells r x s ≡ true) (sym same) h)
    (λ (e : (f ≡ g) × (row_in (join_in entries g row) f ≡ row_joined (row_in entries g) row)).
    subst (λ r. tells r x s ≡ true) (sym e.1)
    (keeps_joined (row_in entries g) row x s
    (subst (λ k. tells (row_in entries k) x s ≡ true) e.0 h)))
    (row_in_set entries g (row_joined (row_in entries g) row) f)

grows_called : (functions : List IrFunction) (topic : Topic) (entries : List (List ℕ))
    (i : Instruction) (row : List ℕ)
    → Grows entries (entries_after_call functions topic entries i row)
grows_called functions topic entries (Call to g args) row f x s h =
    grows_join entries g (enter_row topic (registers_at functions g) args row) f x s h
grows_called functions topic entries (Const to v) row f x s h = h
grows_called functions topic entries (Copy to from) row f x s h = h
grows_called functions topic entries (Bin op to left right) row f x s h = h
grows_called functions topic entries (Jump place) row f x s h = h
grows_called functions topic entries (Branch reg place) row f x s h = h
grows_called functions topic entries (Load to t) row f x s h = h
grows_called functions topic entries (Store t from line) row f x s h = h
grows_called functions topic entries (New to kind log_fill line) row f x s h = h
grows_called functions topic entries (Free from kind line) row f x s h = h
grows_called functions topic entries (Return from) row f x s h = h
grows_called functions topic entries Tick row f x s h = h
grows_called functions topic entries (Trap kind) row f x s h = h
grows_called functions topic entries (Log t) row f x s h = h

grows_entered : (functions : List IrFunction) (topic : Topic) (exits : List (List (List ℕ)))
    (rest : List Instruction) (rows entries : List (List ℕ)) (row : List ℕ) (p : ℕ)
    → Grows entries (entries_after_calls functions topic exits rows entries row p rest)
grows_entered functions topic exits [] rows entries row p f x s h = h
grows_entered functions topic exits (i ∷ is) rows entries row p f x s h =
    grows_entered functions topic exits is rows
    (entries_after_call functions topic entries i (row_or (row_in rows p) row))
    (next_row topic exits i (row_or (row_in rows p) row)) (p + 1) f x s
    (grows_called functions topic entries i (row_or (row_in rows p) row) f x s h)

pub start_grows : (functions : List IrFunction) (topic : Topic) (entries new : List (List ℕ))
    → Grows entries new → StartEntries functions topic entries → StartEntries functions topic new
start_grows functions topic entries new grows start =
    record { starts = λ f u there tx x s h. grows f x s (start.starts f u there tx x s h) }

-- the result of the sweeps from an entry, as the code has it
module _ (ir : Ir) (well : IsWellFormed ir) (topic : Topic) (exits : List (List (List ℕ)))
    (sound : SoundExits ir.functions topic exits) (f : ℕ) (u : IrFunction)
    (there : slice_get ir.functions f ≡ Some u)
    (entries new : List (List ℕ)) (all : Entries ir.functions topic entries)
    (start : StartEntries ir.functions topic entries) (rows : List (List ℕ)) (entry : List ℕ)
    (entry_is : entry ≡ at_entry topic u.registers (row_in entries f))
    (made : Made topic exits entry u.code rows) where
  made_here : Made topic exits (at_entry topic u.registers (row_in entries f)) u.code rows
  made_here = subst (λ e. Made topic exits e u.code rows) entry_is made

  pub through_entries : new ≡ entries_after_calls ir.functions topic exits rows entries entry 0
      u.code → Entries ir.functions topic new
  through_entries is = record {
    sound = subst (SoundEntries ir.functions topic) (sym is)
        (subst (λ e. SoundEntries ir.functions topic
        (entries_after_calls ir.functions topic exits rows entries e 0 u.code)) (sym entry_is)
        (entered_sound ir well topic exits sound f u there rows entries
        (at_entry topic u.registers (row_in entries f))
        (λ x few. flow_good ir well topic exits sound f u there entries all.sound all.shaped x few
        made_here) (entry_is_good ir well topic exits sound f u there entries all.sound
        all.shaped) all.sound));
    shaped = subst (ShapedEntries ir.functions topic) (sym is)
        (entered_shaped ir topic exits u.code rows entries entry 0 all.shaped);
  }

  pub through_start : new ≡ entries_after_calls ir.functions topic exits rows entries entry 0 u.code
      → StartEntries ir.functions topic new
  through_start is = subst (StartEntries ir.functions topic) (sym is)
      (start_grows ir.functions topic entries
      (entries_after_calls ir.functions topic exits rows entries entry 0 u.code)
      (grows_entered ir.functions topic exits u.code rows entries entry 0) start)

-- what a call brings stays recorded as entries grow
brought_by_grows : (functions : List IrFunction) (topic : Topic) (entries new : List (List ℕ))
    (i : Instruction) (row : List ℕ) → Grows entries new → BroughtBy functions topic entries i row
    → BroughtBy functions topic new i row
brought_by_grows functions topic entries new (Call to g args) row grows brought =
    λ x s h. grows g x s (brought x s h)
brought_by_grows functions topic entries new (Const to v) row grows brought = tt
brought_by_grows functions topic entries new (Copy to from) row grows brought = tt
brought_by_grows functions topic entries new (Bin op to left right) row grows brought = tt
brought_by_grows functions topic entries new (Jump place) row grows brought = tt
brought_by_grows functions topic entries new (Branch reg place) row grows brought = tt
brought_by_grows functions topic entries new (Load to t) row grows brought = tt
brought_by_grows functions topic entries new (Store t from line) row grows brought = tt
brought_by_grows functions topic entries new (New to kind log_fill line) row grows brought = tt
brought_by_grows functions topic entries new (Free from kind line) row grows brought = tt
brought_by_grows functions topic entries new (Return from) row grows brought = tt
brought_by_grows functions topic entries new Tick row grows brought = tt
brought_by_grows functions topic entries new (Trap kind) row grows brought = tt
brought_by_grows functions topic entries new (Log t) row grows brought = tt

all_brought_grows : (functions : List IrFunction) (topic : Topic) (exits : List (List (List ℕ)))
    (rest : List Instruction) (rows entries new : List (List ℕ)) (row : List ℕ) (p : ℕ)
    → Grows entries new
    → AllBrought functions topic exits rows entries row p rest
    → AllBrought functions topic exits rows new row p rest
all_brought_grows functions topic exits [] rows entries new row p grows brought = tt
all_brought_grows functions topic exits (i ∷ is) rows entries new row p grows brought = (
  brought_by_grows functions topic entries new i (row_or (row_in rows p) row) grows brought.0,
  all_brought_grows functions topic exits is rows entries new
      (next_row topic exits i (row_or (row_in rows p) row)) (p + 1) grows brought.1,
)

callee_there : (o : Option IrFunction) (args : List ℕ) → TakesArgs o args → (v : IrFunction)
    × (o ≡ Some v)
callee_there None args takes = absurd takes
callee_there (Some v) args takes = (v, refl)

-- what a call brings is recorded at the called function's entry
called_brings : (ir : Ir) (topic : Topic) (entries : List (List ℕ)) (r n : ℕ) (i : Instruction)
    (row : List ℕ) → IsInstruction ir r n i → ShapedEntries ir.functions topic entries
    → BroughtBy ir.functions topic (entries_after_call ir.functions topic entries i row) i row
called_brings ir topic entries r n (Call to g args) row well shaped = λ x s h.
    let callee = callee_there (slice_get ir.functions g) args well.2 in
    let brings = enter_row topic (registers_at ir.functions g) args row in
    let size : length brings ≡ row_width topic callee.0.registers =
    length_enter topic (registers_at ir.functions g) args row
    ∙ registers_is (slice_get ir.functions g) callee.0 callee.1 in
    let inside : g < length entries =
    subst (λ m. g < m) (sym shaped.count) (slice_get_within ir.functions g callee.0 callee.1) in
    let stands : row_in (join_in entries g brings) g ≡ row_joined (row_in entries g) brings =
    get_or-set_same entries g (row_joined (row_in entries g) brings) [] inside in
    subst (λ t. tells t x s ≡ true) (sym stands)
    (joined_tells (row_width topic callee.0.registers) (row_in entries g) brings x s
    (shaped.each g callee.0 callee.1) size h)
  where
    registers_is : (o : Option IrFunction) (v : IrFunction) → o ≡ Some v
        → row_width topic (register_count o) ≡ row_width topic v.registers
    registers_is o v is = rw is refl
called_brings ir topic entries r n (Const to v) row well shaped = tt
called_brings ir topic entries r n (Copy to from) row well shaped = tt
called_brings ir topic entries r n (Bin op to left right) row well shaped = tt
called_brings ir topic entries r n (Jump place) row well shaped = tt
called_brings ir topic entries r n (Branch reg place) row well shaped = tt
called_brings ir topic entries r n (Load to t) row well shaped = tt
called_brings ir topic entries r n (Store t from line) row well shaped = tt
called_brings ir topic entries r n (New to kind log_fill line) row well shaped = tt
called_brings ir topic entries r n (Free from kind line) row well shaped = tt
called_brings ir topic entries r n (Return from) row well shaped = tt
called_brings ir topic entries r n Tick row well shaped = tt
called_brings ir topic entries r n (Trap kind) row well shaped = tt
called_brings ir topic entries r n (Log t) row well shaped = tt

entered_brings : (ir : Ir) (topic : Topic) (exits : List (List (List ℕ))) (r n : ℕ)
    (rest : List Instruction) (rows entries : List (List ℕ)) (row : List ℕ) (p : ℕ)
    → AllByRecursion (IsInstruction ir r n) rest
    → ShapedEntries ir.functions topic entries
    → AllBrought ir.functions topic exits rows
    (entries_after_calls ir.functions topic exits rows entries row p rest) row p rest
entered_brings ir topic exits r n [] rows entries row p well shaped = tt
entered_brings ir topic exits r n (i ∷ is) rows entries row p well shaped =
    let here = row_or (row_in rows p) row in
    let after = entries_after_call ir.functions topic entries i here in (
      brought_by_grows ir.functions topic after
          (entries_after_calls ir.functions topic exits rows after (next_row topic exits i here)
          (p + 1) is) i here
          (grows_entered ir.functions topic exits is rows after (next_row topic exits i here)
          (p + 1)) (called_brings ir topic entries r n i here well.0 shaped),
      entered_brings ir topic exits r n is rows after (next_row topic exits i here) (p + 1) well.1
          (called_shaped ir topic entries i here shaped),
    )

-- a function whose entry stayed while others grew
flow_moves : (functions : List IrFunction) (topic : Topic) (exits : List (List (List ℕ)))
    (entries new : List (List ℕ)) (g : ℕ) (rows : List (List ℕ)) → Grows entries new
    → row_in new g ≡ row_in entries g
    → FlowEnded functions topic exits entries g rows → FlowEnded functions topic exits new g rows
flow_moves functions topic exits entries new g rows grows same old = record { ends = ends }
  where
    ends : (v : IrFunction) → slice_get functions g ≡ Some v → (row_in new g ≡ [] → ⊥)
        → FlowIn functions topic exits new g rows v
    ends v there reached =
        let before = old.ends v there (λ none. reached (same ∙ none)) in
        record {
          closed = subst (λ r. Closed topic exits (length v.code) rows
              (at_entry topic v.registers r) 0 v.code) (sym same) before.closed;
          made = subst (λ r. Made topic exits (at_entry topic v.registers r) v.code rows) (sym same)
              before.made;
          brings = subst (λ r. AllBrought functions topic exits rows new
              (at_entry topic v.registers r) 0 v.code) (sym same)
              (all_brought_grows functions topic exits v.code rows entries new
              (at_entry topic v.registers (row_in entries g)) 0 grows before.brings);
        }

-- one function that was swept
module _ (ir : Ir) (well : IsWellFormed ir) (topic : Topic) (exits : List (List (List ℕ)))
    (sound : SoundExits ir.functions topic exits) (f : ℕ) (u : IrFunction)
    (there : slice_get ir.functions f ≡ Some u)
    (entries new : List (List ℕ)) (tables changed : List (List (List ℕ)))
    (waiting later : List Bool) (flow : Flowing ir.functions topic exits entries tables waiting)
    (rows : List (List ℕ)) (entry : List ℕ)
    (entry_is : entry ≡ at_entry topic u.registers (row_in entries f))
    (made : Made topic exits entry u.code rows)
    (closed : Closed topic exits (length u.code) rows entry 0 u.code)
    (brought : new ≡ entries_after_calls ir.functions topic exits rows entries entry 0 u.code)
    (written : changed ≡ slice_set tables f rows)
    (wakes : Wakes (slice_set waiting f false) later entries new) where
  grows : Grows entries new
  grows = subst (Grows entries) (sym brought)
      (grows_entered ir.functions topic exits u.code rows entries entry 0)

  here : row_in new f ≡ row_in entries f
      → FlowEnded ir.functions topic exits new f (exits_of changed f)
  here same = subst (FlowEnded ir.functions topic exits new f) (sym stands) (record { ends = ends })
    where
      stands : exits_of changed f ≡ rows
      stands =
          let inside : f < length tables =
          subst (λ n. f < n) (sym flow.count) (slice_get_within ir.functions f u there) in
          ap (λ t. exits_of t f) written ∙ get_or-set_same tables f rows [] inside

      brings : AllBrought ir.functions topic exits rows new entry 0 u.code
      brings =
          let whole : IsFunction ir u = all_at (IsFunction ir) ir.functions f u well.1 there in
          subst (λ e. AllBrought ir.functions topic exits rows e entry 0 u.code) (sym brought)
          (entered_brings ir topic exits u.registers (length u.code) u.code rows entries entry 0
          whole.3 flow.entries_are.shaped)

      entry_now : entry ≡ at_entry topic u.registers (row_in new f)
      entry_now = entry_is ∙ ap (at_entry topic u.registers) (sym same)

      ends : (v : IrFunction) → slice_get ir.functions f ≡ Some v → (row_in new f ≡ [] → ⊥)
          → FlowIn ir.functions topic exits new f rows v
      ends v is reached =
          let both : Some u ≡ Some v = sym there ∙ is in
          let body_is : u ≡ v = cc in
          subst (FlowIn ir.functions topic exits new f rows) body_is (record {
            closed = subst (λ e. Closed topic exits (length u.code) rows e 0 u.code)
                entry_now closed;
            made = subst (λ e. Made topic exits e u.code rows) entry_now made;
            brings = subst (λ e. AllBrought ir.functions topic exits rows new e 0 u.code)
                entry_now brings;
          })

  settled : (g : ℕ) → waits later g ≡ false
      → FlowEnded ir.functions topic exits new g (exits_of changed g)
  settled g quiet = by_place (g == f) refl
    where
      by_place : (b : Bool) → (g == f) ≡ b
          → FlowEnded ir.functions topic exits new g (exits_of changed g)
      by_place true is =
          let same : g ≡ f = eqb-true g f is in
          subst (λ k. FlowEnded ir.functions topic exits new k (exits_of changed k)) (sym same)
          (here (subst (λ k. row_in new k ≡ row_in entries k) same (wakes.kept g quiet).1))
      by_place false is =
          let unlike : (g ≡ f → ⊥) = λ same. false≢true (sym is ∙ eq-eqb g f same) in
          let before : waits waiting g ≡ false = sym (waits_other waiting f g false unlike)
          ∙ (wakes.kept g quiet).0 in
          let stands : exits_of changed g ≡ exits_of tables g =
          ap (λ t. exits_of t g) written ∙ exits_of_other tables f g rows unlike in
          flow_moves ir.functions topic exits entries new g (exits_of changed g) grows
          (wakes.kept g quiet).1
          (subst (FlowEnded ir.functions topic exits entries g) (sym stands)
          (flow.settled g before))

  pub through : Flowing ir.functions topic exits new changed later
  through = record {
    entries_are = through_entries ir well topic exits sound f u there entries new flow.entries_are
        flow.start rows entry entry_is made brought;
    start = through_start ir well topic exits sound f u there entries new flow.entries_are
        flow.start rows entry entry_is made brought;
    count = ap (λ (t : List (List (List ℕ))). length t) written ∙ length-set tables f rows
        ∙ flow.count;
    size = wakes.size ∙ length-set waiting f false ∙ flow.size;
    settled = settled;
  }
