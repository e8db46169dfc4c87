-- The marks of a function's places for a topic agree with the derived facts.
use Rattle.std.proofs.Common.{◌≡◌, ◌<◌, ◌+◌, ℕ, zero, suc, Bool, true, false, List, []}
use Rattle.std.proofs.Common.{◌∷◌, Option, Some, None, length, refl, sym, ◌∙◌, ap, subst, arith}
use Rattle.std.proofs.Common.{inl, inr}
use Rattle.std.specs.Borrow.{Bor}
use Rattle.std.specs.Prelude.{◌==◌, ◌&&◌, slice_get, if◌then◌else◌}
use Rattle.std.proofs.lemmas.Bool.{false≢true, and_parts, and_from, eqb-true, eq-eqb}
use Rattle.std.proofs.lemmas.Option.{slice_get_within}
use Rattle.nvm_base.proofs.Lists.{all_at}
use mathlib.Core.Logic.{◌⊎◌}
use Rattle.ir.specs.declared.instruction.Target.{Target}
use Rattle.ir.specs.declared.instruction.Target.TheVariants.{Root, Field}
use Rattle.ir.specs.declared.instruction.Instruction.{Instruction}
use Rattle.ir.specs.declared.instruction.Instruction.TheVariants.{Const, Copy, Bin, Jump, Branch}
use Rattle.ir.specs.declared.instruction.Instruction.TheVariants.{Load, Store, New, Free, Call}
use Rattle.ir.specs.declared.instruction.Instruction.TheVariants.{Return, Tick, Trap, Log}
use Rattle.ir.specs.declared.function.IrFunction.{IrFunction}
use Rattle.ir.specs.declared.function.Ir.{Ir}
use Rattle.ir.specs.declared.fact.Fact.{Fact}
use Rattle.ir.specs.declared.fact.Fact.TheVariants.{Unwritten, RootUnwritten, ReadRoot, ReadField}
use Rattle.ir.specs.declared.fact.Fact.TheVariants.{Freed}
use Rattle.ir.specs.Places.{instruction_at}
use Rattle.ir.specs.Clobber.{unwritten, read_fact}
use Rattle.ir.specs.Derived.{Flows}
use Rattle.ir.specs.WellFormed.{IsInstruction, IsFunction, IsWellFormed}
use Rattle.clobber_pass.specs.declared.topic.StructField.{StructField}
use Rattle.clobber_pass.specs.declared.topic.Topic.{Topic}
use Rattle.clobber_pass.specs.declared.topic.Topic.TheVariants.{Frees, Root as Roots}
use Rattle.clobber_pass.specs.declared.topic.Topic.TheVariants.{Fields}
use Rattle.clobber_pass.specs.inside.Class.{class_at, class_of, is_about, slot}
use Rattle.clobber_pass.specs.Row.{word, has_bit, tells}
use Rattle.clobber_pass.specs.inside.Row.{mask, fields_mask}
use Rattle.clobber_pass.specs.inside.Told.{registers_at, Fits}
use Rattle.clobber_pass.specs.Sweep.{row_in}
use Rattle.clobber_pass.specs.inside.Sweep.{exits_of, next_row, row_or}
use Rattle.clobber_pass.specs.inside.Closed.{row_reaching, seen_in_row}
use Rattle.clobber_pass.specs.inside.Calling.{CalledEnded}
use Rattle.clobber_pass.specs.inside.Sound.{SoundExits}
use Rattle.clobber_pass.specs.inside.Flow.{Entries, StartEntries, at_entry, AllFlow}
use Rattle.clobber_pass.specs.Logged.{part}
use Rattle.clobber_pass.specs.inside.Marking.{meets, store_word, fill_word, mark_word, marks_from}
use Rattle.clobber_pass.specs.inside.Marking.{Logged, Covers}
use Rattle.clobber_pass.proofs.bits.Bits.{has_bit_zero, names, has_bit_fields, fields_few}
use Rattle.clobber_pass.proofs.steps.Fits.{registers_there}
use Rattle.clobber_pass.proofs.derived.Flowing.{GoodAt, AllGood, pick_is_good, next_is_good}
use Rattle.clobber_pass.proofs.derived.Flowing.{flow_good}
use Rattle.clobber_pass.proofs.derived.Flowing.{entry_is_good}
use Rattle.clobber_pass.proofs.closed.FlowLaw.{told_there}
use Rattle.clobber_pass.proofs.bits.Meeting.{meets_in, Met, meets_out, first_out, first_in}
use Rattle.clobber_pass.proofs.bits.Meeting.{meets_bit, Common, meets_some}

pub test_store : has_bit 0 1 ≡ true
unfolding has_bit
test_store = refl

pub test_store_fill : has_bit 1 1 ≡ false
unfolding has_bit
test_store_fill = refl

test_fill : has_bit 1 2 ≡ true
unfolding has_bit
test_fill = refl

test_fill_store : has_bit 0 2 ≡ false
unfolding has_bit
test_fill_store = refl

-- a word that is 1 or 0 concerns only a store
abbrev when : Bool → ℕ → ℕ
when b w = if b then w else 0

when_store : (b : Bool) → has_bit 0 (when b 1) ≡ true → b ≡ true
when_store true h = refl
when_store false h = absurd (false≢true (sym (has_bit_zero 0) ∙ h))

when_no_fill : (b : Bool) → has_bit 1 (when b 1) ≡ true → ⊥
when_no_fill true h = false≢true (sym test_store_fill ∙ h)
when_no_fill false h = false≢true (sym (has_bit_zero 1) ∙ h)

when_fill : (b : Bool) → has_bit 1 (when b 2) ≡ true → b ≡ true
when_fill true h = refl
when_fill false h = absurd (false≢true (sym (has_bit_zero 1) ∙ h))

when_no_store : (b : Bool) → has_bit 0 (when b 2) ≡ true → ⊥
when_no_store true h = false≢true (sym test_fill_store ∙ h)
when_no_store false h = false≢true (sym (has_bit_zero 0) ∙ h)

pub nothing_set : (fill : Bool) → has_bit (part fill) 0 ≡ true → ⊥
nothing_set fill h = false≢true (sym (has_bit_zero (part fill)) ∙ h)

-- the class of a field that is named
names_about : (o : Option StructField) (b t y : ℕ) → names o t y ≡ true
    → (is_about (class_of o) (Unwritten b t y) ≡ true)
    × (is_about (class_of o) (ReadField t y) ≡ true)
names_about None b t y h = absurd (false≢true h)
names_about (Some c) b t y h =
    let parts = and_parts (c.kind == t) (c.field == y) h in
    let both : ((t == c.kind) && (y == c.field)) ≡ true =
    and_from (t == c.kind) (y == c.field) (eq-eqb t c.kind (sym (eqb-true c.kind t parts.0)))
    (eq-eqb y c.field (sym (eqb-true c.field y parts.1))) in (both, both)

about_names : (o : Option StructField) (t y : ℕ) → is_about (class_of o) (ReadField t y) ≡ true
    → names o t y ≡ true
about_names None t y h = absurd (false≢true h)
about_names (Some c) t y h =
    let parts = and_parts (t == c.kind) (y == c.field) h in
    and_from (c.kind == t) (c.field == y) (eq-eqb c.kind t (sym (eqb-true t c.kind parts.0)))
    (eq-eqb c.field y (sym (eqb-true y c.field parts.1)))

pub same_true : (y : ℕ) → (y == y) ≡ true
same_true y = eq-eqb y y refl

module _ (ir : Ir) (well : IsWellFormed ir) (topic : Topic) (exits : List (List (List ℕ)))
    (sound : SoundExits ir.functions topic exits)
    (f : ℕ) (u : IrFunction) (there : slice_get ir.functions f ≡ Some u) where
  abbrev end : ℕ
  end = length u.code

  abbrev Good : ℕ → List ℕ → Type 0
  Good p row = GoodAt ir well topic exits sound f u there p row

  code_at : (p : ℕ) (i : Instruction) → slice_get u.code p ≡ Some i
      → instruction_at ir.functions f p ≡ Some i
  code_at p i is = rw there is

  flow_of : (p : ℕ) (i : Instruction) (b : Fact) → slice_get u.code p ≡ Some i
      → Flows ir.functions f p b ⊎ (p ≡ end) → Flows ir.functions f p b
  flow_of p i b is (inl d) = d
  flow_of p i b is (inr same) = let less : p < end = slice_get_within u.code p i is in
      absurd (omega arith)

  told_flow : (p : ℕ) (i : Instruction) (row : List ℕ) (x : ℕ) (b : Fact)
      → slice_get u.code p ≡ Some i → Good p row → x < 16 → is_about (class_at topic x) b ≡ true
      → tells row x (slot b) ≡ true → Flows ir.functions f p b
  told_flow p i row x b is good few about h = flow_of p i b is ((good x few).1 b about h)

  store_of : (p : ℕ) (target : Target) (from line : ℕ)
      → slice_get u.code p ≡ Some (Store target from line)
      → Flows ir.functions f p (unwritten target)
      → Flows ir.functions f p (read_fact target) → Logged ir.functions false f p
  store_of p target from line is bare seen_before =
      inl (target, from, line, code_at p (Store target from line) is, bare, seen_before)

  root_logged : (first : ℕ) → topic ≡ Roots first
      → (p y : ℕ) (i : Option ℕ) (from line : ℕ) (row : List ℕ)
      → slice_get u.code p ≡ Some (Store (Root y i) from line) → Good p row
      → Met (word row 0) (word row 1) first y → Logged ir.functions false f p
  root_logged first topic_is p y i from line row is good met =
      let about : is_about (class_at topic met.x) (RootUnwritten y) ≡ true =
      ap (λ t. is_about (class_at t met.x) (RootUnwritten y)) topic_is
      ∙ eq-eqb y (first + met.x) (sym met.is) in
      let about_read : is_about (class_at topic met.x) (ReadRoot y) ≡ true =
      ap (λ t. is_about (class_at t met.x) (ReadRoot y)) topic_is
      ∙ eq-eqb y (first + met.x) (sym met.is) in
      store_of p (Root y i) from line is (told_flow p _ row met.x (RootUnwritten y) is good met.few
      about met.one) (told_flow p _ row met.x (ReadRoot y) is good met.few about_read met.other)

  field_logged : (all : Bor (List StructField)) → topic ≡ Fields all
      → (p b t y : ℕ) (i : Option ℕ) (from line : ℕ) (row : List ℕ)
      → slice_get u.code p ≡ Some (Store (Field b t y i) from line) → Good p row
      → Common (word row (b + 2)) (word row 1) (fields_mask all.now t y)
      → Logged ir.functions false f p
  field_logged all topic_is p b t y i from line row is good met =
      let named : names (slice_get all.now met.x) t y ≡ true =
      sym (has_bit_fields met.x all.now t y met.few) ∙ met.third in
      let about = names_about (slice_get all.now met.x) b t y named in
      let bare : is_about (class_at topic met.x) (Unwritten b t y) ≡ true =
      ap (λ c. is_about (class_at c met.x) (Unwritten b t y)) topic_is ∙ about.0 in
      let about_read : is_about (class_at topic met.x) (ReadField t y) ≡ true =
      ap (λ c. is_about (class_at c met.x) (ReadField t y)) topic_is ∙ about.1 in
      store_of p (Field b t y i) from line is
      (told_flow p _ row met.x (Unwritten b t y) is good met.few bare met.one)
      (told_flow p _ row met.x (ReadField t y) is good met.few about_read met.other)

  store_sound : (t : Topic) → topic ≡ t → (p : ℕ) (target : Target) (from line : ℕ) (row : List ℕ)
      (fill : Bool) → slice_get u.code p ≡ Some (Store target from line) → Good p row
      → has_bit (part fill) (store_word t target row) ≡ true → Logged ir.functions fill f p
  store_sound (Roots first) topic_is p (Root y i) from line row false is good h =
      root_logged first topic_is p y i from line row is good
      (meets_out (word row 0) (word row 1) first y
      (when_store (meets (word row 0) (word row 1) (mask first y)) h))
  store_sound (Roots first) topic_is p (Root y i) from line row true is good h =
      absurd (when_no_fill (meets (word row 0) (word row 1) (mask first y)) h)
  store_sound (Roots first) topic_is p (Field b t y i) from line row fill is good h =
      absurd (nothing_set fill h)
  store_sound (Fields all) topic_is p (Field b t y i) from line row false is good h =
      let m = fields_mask all.now t y in
      field_logged all topic_is p b t y i from line row is good
      (meets_some (word row (b + 2)) (word row 1) m (fields_few all.now t y)
      (when_store (meets (word row (b + 2)) (word row 1) m) h))
  store_sound (Fields all) topic_is p (Field b t y i) from line row true is good h =
      absurd (when_no_fill (meets (word row (b + 2)) (word row 1) (fields_mask all.now t y)) h)
  store_sound (Fields all) topic_is p (Root y i) from line row fill is good h =
      absurd (nothing_set fill h)
  store_sound Frees topic_is p target from line row fill is good h = absurd (nothing_set fill h)

  fill_sound : (t : Topic) → topic ≡ t → (p to kind : ℕ) (log_fill : Bool) (line : ℕ) (row : List ℕ)
      (fill : Bool) → slice_get u.code p ≡ Some (New to kind log_fill line) → Good p row
      → has_bit (part fill) (fill_word t row) ≡ true → Logged ir.functions fill f p
  fill_sound Frees topic_is p to kind log_fill line row true is good h =
      let set : has_bit 0 (word row 1) ≡ true =
      first_out (word row 1) (when_fill (meets (word row 1) (word row 1) 1) h) in
      let about : is_about (class_at topic 0) Freed ≡ true =
      ap (λ c. is_about (class_at c 0) Freed) topic_is in (
        to,
        kind,
        log_fill,
        line,
        code_at p (New to kind log_fill line) is,
        told_flow p _ row 0 Freed is good (omega arith) about set,
      )
  fill_sound Frees topic_is p to kind log_fill line row false is good h =
      absurd (when_no_store (meets (word row 1) (word row 1) 1) h)
  fill_sound (Roots first) topic_is p to kind log_fill line row fill is good h =
      absurd (nothing_set fill h)
  fill_sound (Fields all) topic_is p to kind log_fill line row fill is good h =
      absurd (nothing_set fill h)

  word_sound : (p : ℕ) (i : Instruction) (row : List ℕ) (fill : Bool) → slice_get u.code p ≡ Some i
      → Good p row → has_bit (part fill) (mark_word topic i row) ≡ true
      → Logged ir.functions fill f p
  word_sound p (Store target from line) row fill is good h =
      store_sound topic refl p target from line row fill is good h
  word_sound p (New to kind log_fill line) row fill is good h =
      fill_sound topic refl p to kind log_fill line row fill is good h
  word_sound p (Const to v) row fill is good h = absurd (nothing_set fill h)
  word_sound p (Copy to from) row fill is good h = absurd (nothing_set fill h)
  word_sound p (Bin op to left right) row fill is good h = absurd (nothing_set fill h)
  word_sound p (Jump place) row fill is good h = absurd (nothing_set fill h)
  word_sound p (Branch reg place) row fill is good h = absurd (nothing_set fill h)
  word_sound p (Load to t) row fill is good h = absurd (nothing_set fill h)
  word_sound p (Free from kind line) row fill is good h = absurd (nothing_set fill h)
  word_sound p (Call to g args) row fill is good h = absurd (nothing_set fill h)
  word_sound p (Return from) row fill is good h = absurd (nothing_set fill h)
  word_sound p Tick row fill is good h = absurd (nothing_set fill h)
  word_sound p (Trap kind) row fill is good h = absurd (nothing_set fill h)
  word_sound p (Log t) row fill is good h = absurd (nothing_set fill h)

  abbrev RestOf : ℕ → List Instruction → Type 0
  RestOf p rest = (k : ℕ) → slice_get rest k ≡ slice_get u.code (p + k)

  first_at : (p : ℕ) (i : Instruction) (is : List Instruction) → RestOf p (i ∷ is)
      → slice_get u.code p ≡ Some i
  first_at p i is same = let first : p + 0 ≡ p = omega arith in
      subst (λ q. slice_get u.code q ≡ Some i) first (sym (same 0))

  later_from : (p : ℕ) (i : Instruction) (is : List Instruction) → RestOf p (i ∷ is)
      → RestOf (p + 1) is
  later_from p i is same k = let moved : p + suc k ≡ (p + 1) + k = omega arith in
      same (suc k) ∙ ap (slice_get u.code) moved

  here_good : (p : ℕ) (i : Instruction) (is : List Instruction) (rows : List (List ℕ))
      (row : List ℕ) → RestOf p (i ∷ is) → AllGood ir well topic exits sound f u there rows
      → (p < end → Good p row) → Good p (row_or (row_in rows p) row)
  here_good p i is rows row same all one =
      pick_is_good ir well topic exits sound f u there rows row p all
      (one (slice_get_within u.code p i (first_at p i is same)))

  next_good : (p : ℕ) (i : Instruction) (is : List Instruction) (rows : List (List ℕ))
      (row : List ℕ) → RestOf p (i ∷ is) → AllGood ir well topic exits sound f u there rows
      → (p < end → Good p row) → p + 1 < end
      → Good (p + 1) (next_row topic exits i (row_or (row_in rows p) row))
  next_good p i is rows row same all one less =
      let next : suc p ≡ p + 1 = omega arith in
      subst (λ q. Good q (next_row topic exits i (row_or (row_in rows p) row))) next
      (next_is_good ir well topic exits sound f u there (row_or (row_in rows p) row) p i
      (first_at p i is same) (subst (λ q. q < end) (sym next) less)
      (here_good p i is rows row same all one))

  marks_sound_from : (rest : List Instruction) (rows : List (List ℕ)) (row : List ℕ) (p k : ℕ)
      (fill : Bool) → RestOf p rest → AllGood ir well topic exits sound f u there rows
      → (p < end → Good p row) → tells (marks_from topic exits rows row p rest) (part fill) k ≡ true
      → Logged ir.functions fill f (p + k)
  marks_sound_from [] rows row p k fill same all one h = absurd (nothing_set fill h)
  marks_sound_from (i ∷ is) rows row p zero fill same all one h =
      let first : p + 0 ≡ p = omega arith in
      subst (λ q. Logged ir.functions fill f q) (sym first)
      (word_sound p i (row_or (row_in rows p) row) fill (first_at p i is same)
      (here_good p i is rows row same all one) h)
  marks_sound_from (i ∷ is) rows row p (suc k) fill same all one h =
      let moved : (p + 1) + k ≡ p + suc k = omega arith in
      subst (λ q. Logged ir.functions fill f q) moved
      (marks_sound_from is rows (next_row topic exits i (row_or (row_in rows p) row)) (p + 1) k fill
      (later_from p i is same) all (next_good p i is rows row same all one) h)

  pub marks_sound : (rows : List (List ℕ)) (row : List ℕ) (p : ℕ) (fill : Bool)
      → AllGood ir well topic exits sound f u there rows → Good 0 row
      → tells (marks_from topic exits rows row 0 u.code) (part fill) p ≡ true
      → Logged ir.functions fill f p
  marks_sound rows row p fill all one h =
      let first : 0 + p ≡ p = omega arith in
      subst (λ q. Logged ir.functions fill f q) first
      (marks_sound_from u.code rows row 0 p fill (λ k. let e : k ≡ 0 + k = omega arith in
      ap (slice_get u.code) e) all (λ inside. one) h)

-- the mark at a place is that of the row that reaches it
pub record MarkAt (topic : Topic) (i : Instruction) (before : Option (List ℕ)) (mark : ℕ) :
    Type 0 where
  pub here : List ℕ
  pub is : before ≡ Some here
  pub marked : mark ≡ mark_word topic i here

pub mark_at : (topic : Topic) (exits : List (List (List ℕ))) (rows : List (List ℕ))
    (rest : List Instruction) (row : List ℕ) (p k : ℕ) (i : Instruction) → slice_get rest k ≡ Some i
    → MarkAt topic i (row_reaching topic exits rows row p rest k)
    (word (marks_from topic exits rows row p rest) k)
mark_at topic exits rows [] row p k i is = absurd cc
mark_at topic exits rows (j ∷ js) row p zero i is =
    let same : j ≡ i = cc in
    record {
      here = row_or (row_in rows p) row;
      is = refl;
      marked = ap (λ k. mark_word topic k (row_or (row_in rows p) row)) same;
    }
mark_at topic exits rows (j ∷ js) row p (suc k) i is =
    mark_at topic exits rows js (next_row topic exits j (row_or (row_in rows p) row)) (p + 1) k i is

pub length_marks : (topic : Topic) (exits : List (List (List ℕ))) (rows : List (List ℕ))
    (rest : List Instruction) (row : List ℕ) (p : ℕ)
    → length (marks_from topic exits rows row p rest)
    ≡ length rest
length_marks topic exits rows [] row p = refl
length_marks topic exits rows (i ∷ is) row p =
    ap suc (length_marks topic exits rows is (next_row topic exits i (row_or (row_in rows p) row))
    (p + 1))

module _ (ir : Ir) (well : IsWellFormed ir) (topic : Topic) (exits : List (List (List ℕ)))
    (sound : SoundExits ir.functions topic exits) (ended : CalledEnded ir.functions topic exits)
    (entries : List (List ℕ)) (all : Entries ir.functions topic entries)
    (start : StartEntries ir.functions topic entries)
    (tables : List (List (List ℕ))) (flow : AllFlow ir.functions topic exits entries tables) (f : ℕ)
    (u : IrFunction) (there : slice_get ir.functions f ≡ Some u) (reached : row_in entries f ≡ []
    → ⊥) where
  abbrev rows : List (List ℕ)
  rows = exits_of tables f

  abbrev entry : List ℕ
  entry = at_entry topic u.registers (row_in entries f)

  abbrev marks : List ℕ
  marks = marks_from topic exits rows entry 0 u.code

  pub row_sound : (p : ℕ) (fill : Bool) → tells marks (part fill) p ≡ true
      → Logged ir.functions fill f p
  row_sound p fill h =
      let made = ((flow f (slice_get_within ir.functions f u there)).ends u there reached).made in
      marks_sound ir well topic exits sound f u there rows entry p fill
      (λ x few. flow_good ir well topic exits sound f u there entries all.sound all.shaped x few
      made) (entry_is_good ir well topic exits sound f u there entries all.sound all.shaped) h

  -- what is derived is recorded in the row that reaches a place
  here_tells : (p x : ℕ) (i : Instruction) (b : Fact) → x < 16
      → is_about (class_at topic x) b ≡ true → Fits (registers_at ir.functions f) b
      → (m : MarkAt topic i (row_reaching topic exits rows entry 0 u.code p) (word marks p))
      → Flows ir.functions f p b → tells m.here x (slot b) ≡ true
  here_tells p x i b few about fits m d =
      subst (λ o. seen_in_row x (slot b) o ≡ true) m.is
      (told_there ir well topic exits sound ended entries all.sound all.shaped start tables flow x
      few u there d (about, fits))

  root_marked : (p first x y : ℕ) (index : Option ℕ) (from line : ℕ) → topic ≡ Roots first
      → x < 16 → is_about (class_at topic x) (RootUnwritten y) ≡ true
      → is_about (class_at topic x) (ReadRoot y) ≡ true
      → slice_get u.code p ≡ Some (Store (Root y index) from line)
      → Flows ir.functions f p (RootUnwritten y) → Flows ir.functions f p (ReadRoot y)
      → tells marks 0 p ≡ true
  root_marked p first x y index from line topic_is few about about_read is bare before =
      let m = mark_at topic exits rows u.code entry 0 p (Store (Root y index) from line) is in
      let one = here_tells p x _ (RootUnwritten y) few about tt m bare in
      let other = here_tells p x _ (ReadRoot y) few about_read tt m before in
      let same : y ≡ first + x = eqb-true y (first + x)
      (ap (λ t. is_about (class_at t x) (RootUnwritten y)) (sym topic_is) ∙ about) in
      let met = meets_in (word m.here 0) (word m.here 1) first x y few (sym same) one other in
      ap (has_bit 0) (m.marked ∙ ap (λ t. store_word t (Root y index) m.here) topic_is
      ∙ ap (λ b. when b 1) met) ∙ test_store

  field_marked : (p x b k y : ℕ) (index : Option ℕ) (from line : ℕ)
      (all : Bor (List StructField)) → topic ≡ Fields all → x < 16
      → is_about (class_at topic x) (Unwritten b k y) ≡ true
      → is_about (class_at topic x) (ReadField k y) ≡ true
      → slice_get u.code p ≡ Some (Store (Field b k y index) from line) → b < u.registers
      → Flows ir.functions f p (Unwritten b k y) → Flows ir.functions f p (ReadField k y)
      → tells marks 0 p ≡ true
  field_marked p x b k y index from line all topic_is few about about_read is inside bare before =
      let m = mark_at topic exits rows u.code entry 0 p (Store (Field b k y index) from line) is in
      let fits : b < registers_at ir.functions f =
      subst (λ n. b < n) (sym (registers_there ir well f u there)) inside in
      let one = here_tells p x _ (Unwritten b k y) few about fits m bare in
      let other = here_tells p x _ (ReadField k y) few about_read tt m before in
      let third : has_bit x (fields_mask all.now k y) ≡ true =
      has_bit_fields x all.now k y few ∙ about_names (slice_get all.now x) k y
      (ap (λ t. is_about (class_at t x) (ReadField k y)) (sym topic_is) ∙ about_read) in
      let met = meets_bit (word m.here (b + 2)) (word m.here 1) (fields_mask all.now k y) x
      one other third in
      ap (has_bit 0) (m.marked ∙ ap (λ t. store_word t (Field b k y index) m.here) topic_is
      ∙ ap (λ b. when b 1) met) ∙ test_store

  pub fill_marked : (p to kind : ℕ) (log_fill : Bool) (line : ℕ) → topic ≡ Frees
      → slice_get u.code p ≡ Some (New to kind log_fill line) → Flows ir.functions f p Freed
      → tells marks 1 p ≡ true
  fill_marked p to kind log_fill line topic_is is before =
      let m = mark_at topic exits rows u.code entry 0 p (New to kind log_fill line) is in
      let about : is_about (class_at topic 0) Freed ≡ true =
      ap (λ t. is_about (class_at t 0) Freed) topic_is in
      let one = here_tells p 0 _ Freed (omega arith) about tt m before in
      ap (has_bit 1) (m.marked ∙ ap (λ t. fill_word t m.here) topic_is
      ∙ ap (λ b. when b 2) (first_in (word m.here 1) one)) ∙ test_fill

  root_covered : (t : Topic) → topic ≡ t → (p y : ℕ) (index : Option ℕ) (from line : ℕ)
      → Covers topic (Root y index) → slice_get u.code p ≡ Some (Store (Root y index) from line)
      → Flows ir.functions f p (RootUnwritten y) → Flows ir.functions f p (ReadRoot y)
      → tells marks 0 p ≡ true
  root_covered (Roots first) topic_is p y index from line c is bare before =
      root_marked p first c.x y index from line topic_is c.few c.bare c.before is bare before
  root_covered Frees topic_is p y index from line c is bare before =
      absurd (false≢true (ap (λ t. is_about (class_at t c.x) (RootUnwritten y)) (sym topic_is)
      ∙ c.bare))
  root_covered (Fields all) topic_is p y index from line c is bare before =
      absurd (no_root (slice_get all.now c.x)
      (ap (λ t. is_about (class_at t c.x) (RootUnwritten y)) (sym topic_is) ∙ c.bare))
    where
      no_root : (o : Option StructField) → is_about (class_of o) (RootUnwritten y) ≡ true → ⊥
      no_root None h = false≢true h
      no_root (Some s) h = false≢true h

  field_covered : (t : Topic) → topic ≡ t → (p b k y : ℕ) (index : Option ℕ) (from line : ℕ)
      → Covers topic (Field b k y index)
      → slice_get u.code p ≡ Some (Store (Field b k y index) from line) → b < u.registers
      → Flows ir.functions f p (Unwritten b k y) → Flows ir.functions f p (ReadField k y)
      → tells marks 0 p ≡ true
  field_covered (Fields all) topic_is p b k y index from line c is inside bare before =
      field_marked p c.x b k y index from line all topic_is c.few c.bare c.before is inside
      bare before
  field_covered Frees topic_is p b k y index from line c is inside bare before =
      absurd (false≢true (ap (λ t. is_about (class_at t c.x) (ReadField k y)) (sym topic_is)
      ∙ c.before))
  field_covered (Roots first) topic_is p b k y index from line c is inside bare before =
      absurd (false≢true (ap (λ t. is_about (class_at t c.x) (ReadField k y)) (sym topic_is)
      ∙ c.before))

  pub store_marked : (p : ℕ) (target : Target) (from line : ℕ) → Covers topic target
      → slice_get u.code p ≡ Some (Store target from line)
      → Flows ir.functions f p (unwritten target)
      → Flows ir.functions f p (read_fact target) → tells marks 0 p ≡ true
  store_marked p (Root y index) from line c is bare before =
      root_covered topic refl p y index from line c is bare before
  store_marked p (Field b k y index) from line c is bare before =
      let whole : IsFunction ir u = all_at (IsFunction ir) ir.functions f u well.1 there in
      let ok : IsInstruction ir u.registers (length u.code) (Store (Field b k y index) from line) =
      all_at (IsInstruction ir u.registers (length u.code)) u.code p
      (Store (Field b k y index) from line) whole.3 is in
      field_covered topic refl p b k y index from line c is ok.1.0 bare before
