-- A table of marks after one more function was marked for a topic.
use Rattle.std.proofs.Common.{◌≡◌, ◌<◌, ℕ, zero, suc, Bool, true, false, List, [], ◌∷◌}
use Rattle.std.proofs.Common.{Option, Some, None, length, refl, sym, ◌∙◌, ap, subst, inl, inr}
use Rattle.std.proofs.Common.{⊎_elim, arith}
use Rattle.std.specs.Prelude.{slice_get, option_and_then}
use Rattle.std.proofs.lemmas.Bool.{false≢true}
use Rattle.std.proofs.lemmas.List.{length-set, get_or-set_same}
use Rattle.std.proofs.lemmas.Option.{slice_get_within}
use mathlib.Core.Logic.{◌⊎◌}
use Rattle.ir.specs.declared.instruction.Instruction.{Instruction}
use Rattle.ir.specs.declared.instruction.Instruction.TheVariants.{Const, Copy, Bin, Jump, Branch}
use Rattle.ir.specs.declared.instruction.Instruction.TheVariants.{Load, Store, New, Free, Call}
use Rattle.ir.specs.declared.instruction.Instruction.TheVariants.{Return, Tick, Trap, Log}
use Rattle.ir.specs.declared.function.IrFunction.{IrFunction}
use Rattle.ir.specs.declared.function.Ir.{Ir}
use Rattle.ir.specs.declared.instruction.Target.{Target}
use Rattle.ir.specs.declared.instruction.Target.TheVariants.{Root, Field}
use Rattle.ir.specs.declared.fact.Fact.{Fact}
use Rattle.ir.specs.declared.fact.Fact.TheVariants.{RootUnwritten, Unwritten, Freed}
use Rattle.ir.specs.Derived.{Flows}
use Rattle.ir.specs.Places.{instruction_at}
use Rattle.ir.specs.Clobber.{WritesHeader, unwritten}
use Rattle.ir.specs.WellFormed.{IsInstruction, IsWellFormed}
use Rattle.clobber_pass.specs.declared.topic.Topic.{Topic}
use Rattle.clobber_pass.specs.inside.Class.{class_at, is_about}
use Rattle.clobber_pass.specs.inside.Told.{registers_at, Fits}
use Rattle.clobber_pass.specs.Row.{word, has_bit, tells}
use Rattle.clobber_pass.specs.Sweep.{row_in}
use Rattle.clobber_pass.specs.inside.Sweep.{exits_of, row_joined, join_in}
use Rattle.clobber_pass.specs.inside.Calling.{CalledEnded}
use Rattle.clobber_pass.specs.inside.Sound.{SoundExits}
use Rattle.clobber_pass.specs.inside.Flow.{Entries, StartEntries, at_entry, AllFlow}
use Rattle.clobber_pass.specs.Logged.{part}
use Rattle.clobber_pass.specs.inside.Marking.{Covers, marks_from, Logged, SoundMarks, ShapedMarks}
use Rattle.clobber_pass.specs.inside.Marking.{says, Headers, Marked, KeepsRows, Marks, header_mark}
use Rattle.clobber_pass.specs.inside.Marking.{headers, headers_of}
use Rattle.clobber_pass.proofs.bits.Joins.{row_in_set, joined_tells}
use Rattle.clobber_pass.proofs.derived.Columns.{joined_out, joined_shape}
use Rattle.clobber_pass.proofs.derived.Flowing.{grows_join}
use Rattle.clobber_pass.proofs.steps.Fits.{standing, registers_there}
use Rattle.clobber_pass.proofs.closed.FlowLaw.{nothing_comes}
use Rattle.clobber_pass.proofs.marked.PlaceMarks.{length_marks, row_sound}
use Rattle.clobber_pass.proofs.marked.PlaceMarks.{store_marked, fill_marked, test_store}
use Rattle.clobber_pass.proofs.marked.PlaceMarks.{test_store_fill}
use Rattle.clobber_pass.proofs.marked.PlaceMarks.{nothing_set}

module _ (ir : Ir) (well : IsWellFormed ir) (topic : Topic) (exits : List (List (List ℕ)))
    (sound : SoundExits ir.functions topic exits) (ended : CalledEnded ir.functions topic exits)
    (entries : List (List ℕ)) (all : Entries ir.functions topic entries)
    (start : StartEntries ir.functions topic entries)
    (tables : List (List (List ℕ))) (flow : AllFlow ir.functions topic exits entries tables) (f : ℕ)
    (u : IrFunction) (there : slice_get ir.functions f ≡ Some u)
    (reached : row_in entries f ≡ [] → ⊥)
    (table new : List (List ℕ)) (marks : Marks ir.functions table) (row : List ℕ)
    (row_is : row ≡ marks_from topic exits (exits_of tables f)
    (at_entry topic u.registers (row_in entries f)) 0 u.code)
    (is : new ≡ join_in table f row) where
  size : length row ≡ length u.code
  size = ap length row_is ∙ length_marks topic exits (exits_of tables f) u.code
      (at_entry topic u.registers (row_in entries f)) 0

  said : (fill : Bool) (p : ℕ) → tells row (part fill) p ≡ true → Logged ir.functions fill f p
  said fill p h = row_sound ir well topic exits sound ended entries all start tables flow f u there
      reached p fill (subst (λ r. tells r (part fill) p ≡ true) row_is h)

  marks_sound : SoundMarks ir.functions (join_in table f row)
  marks_sound = record { logged = each }
    where
      each : (fill : Bool) (g p : ℕ) → says (join_in table f row) fill g p ≡ true
          → Logged ir.functions fill g p
      each fill g p h =
          ⊎_elim
          (λ (same : row_in (join_in table f row) g ≡ row_in table g).
          marks.sound.logged fill g p (subst (λ r. tells r (part fill) p ≡ true) same h))
          (λ (e : (g ≡ f) × (row_in (join_in table f row) g ≡ row_joined (row_in table f) row)).
          subst (λ k. Logged ir.functions fill k p) (sym e.0)
          (⊎_elim (λ (t : tells (row_in table f) (part fill) p ≡ true).
          marks.sound.logged fill f p t) (λ (t : tells row (part fill) p ≡ true). said fill p t)
          (joined_out (row_in table f) row (part fill) p
          (subst (λ r. tells r (part fill) p ≡ true) e.1 h))))
          (row_in_set table f (row_joined (row_in table f) row) g)

  marks_shaped : ShapedMarks ir.functions (join_in table f row)
  marks_shaped = record { count = length-set table f _ ∙ marks.shaped.count; each = each }
    where
      each : (g : ℕ) (v : IrFunction) → slice_get ir.functions g ≡ Some v
          → (row_in (join_in table f row) g ≡ [])
          ⊎ (length (row_in (join_in table f row) g) ≡ length v.code)
      each g v v_there =
          ⊎_elim
          (λ (same : row_in (join_in table f row) g ≡ row_in table g).
          subst (λ r. (r ≡ []) ⊎ (length r ≡ length v.code)) (sym same)
          (marks.shaped.each g v v_there))
          (λ (e : (g ≡ f) × (row_in (join_in table f row) g ≡ row_joined (row_in table f) row)).
          let both : Some v ≡ Some u = sym v_there ∙ ap (slice_get ir.functions) e.0 ∙ there in
          let body : v ≡ u = cc in
          subst (λ r. (r ≡ []) ⊎ (length r ≡ length v.code)) (sym e.1)
          (subst (λ (w : IrFunction). (row_joined (row_in table f) row ≡ [])
          ⊎ (length (row_joined (row_in table f) row) ≡ length w.code)) (sym body)
          (joined_shape (length u.code) (row_in table f) row (marks.shaped.each f u there)
          (inr size))))
          (row_in_set table f (row_joined (row_in table f) row) g)

  pub function_marks : Marks ir.functions new
  function_marks = subst (Marks ir.functions) (sym is)
      (record { sound = marks_sound; shaped = marks_shaped })

  pub function_keeps : KeepsRows table new
  function_keeps = record {
    keeps = λ g x s h. subst (λ t. tells (row_in t g) x s ≡ true) (sym is)
        (grows_join table f row g x s h);
  }

  now_said : (x p : ℕ) → tells row x p ≡ true → tells (row_in new f) x p ≡ true
  now_said x p h =
      let inside : f < length table =
      subst (λ n. f < n) (sym marks.shaped.count) (slice_get_within ir.functions f u there) in
      let stands : row_in new f ≡ row_joined (row_in table f) row =
      ap (λ e. row_in e f) is ∙ get_or-set_same table f (row_joined (row_in table f) row)
      [] inside in
      subst (λ r. tells r x p ≡ true) (sym stands)
      (joined_tells (length u.code) (row_in table f) row x p (marks.shaped.each f u there) size h)

  code_there : (p : ℕ) (i : Instruction) → instruction_at ir.functions f p ≡ Some i
      → slice_get u.code p ≡ Some i
  code_there p i at =
      let s = standing ir f p i well at in
      let both : Some s.body ≡ Some u = sym s.there ∙ there in
      let body : s.body ≡ u = cc in
      subst (λ v. slice_get v.code p ≡ Some i) body s.at

  pub function_marked : Marked ir.functions topic new f
  function_marked = record {
    stores = λ p target from line covers at bare before.
        now_said 0 p (subst (λ r. tells r 0 p ≡ true) (sym row_is)
        (store_marked ir well topic exits sound ended entries all start tables flow f u
        there reached
        p target from line covers (code_there p (Store target from line) at) bare before));
    fills = λ p to kind log_fill line topic_is at before.
        now_said 1 p (subst (λ r. tells r 1 p ≡ true) (sym row_is)
        (fill_marked ir well topic exits sound ended entries all start tables flow f u
        there reached p
        to kind log_fill line topic_is (code_there p (New to kind log_fill line) at) before));
  }

-- what was marked stays marked
pub marked_keeps : (functions : List IrFunction) (topic : Topic) (table new : List (List ℕ)) (f : ℕ)
    → KeepsRows table new → Marked functions topic table f → Marked functions topic new f
marked_keeps functions topic table new f kept marked = record {
  stores = λ p target from line covers at bare before.
      kept.keeps f 0 p (marked.stores p target from line covers at bare before);
  fills = λ p to kind log_fill line topic_is at before.
      kept.keeps f 1 p (marked.fills p to kind log_fill line topic_is at before);
}

pub keeps_both : (one two three : List (List ℕ)) → KeepsRows one two → KeepsRows two three
    → KeepsRows one three
keeps_both one two three first second =
    record { keeps = λ f x s h. second.keeps f x s (first.keeps f x s h) }

pub keeps_all : (one : List (List ℕ)) → KeepsRows one one
keeps_all one = record { keeps = λ f x s h. h }

pub headers_keep : (functions : List IrFunction) (table new : List (List ℕ)) → KeepsRows table new
    → Headers functions table → Headers functions new
headers_keep functions table new kept header =
    record { marked = λ f p h. kept.keeps f 0 p (header.marked f p h) }

pub some_row : (row : List ℕ) → 0 < length row → row ≡ [] → ⊥
some_row row some none = let empty : 0 < length {A = ℕ} [] = subst (λ r. 0 < length r) none some in
    omega (arith, empty)

pub no_row : (row : List ℕ) → length row ≡ 0 → row ≡ []
no_row [] empty = refl
no_row (w ∷ ws) empty = absurd (omega (arith, empty))

-- in a function that no walk reaches, nothing has to be marked
module _ (ir : Ir) (well : IsWellFormed ir) (topic : Topic) (exits : List (List (List ℕ)))
    (sound : SoundExits ir.functions topic exits) (ended : CalledEnded ir.functions topic exits)
    (entries : List (List ℕ)) (all : Entries ir.functions topic entries)
    (start : StartEntries ir.functions topic entries)
    (tables : List (List (List ℕ))) (flow : AllFlow ir.functions topic exits entries tables) (f : ℕ)
    (none : row_in entries f ≡ []) where
  no_flow : (p x : ℕ) (b : Fact) (i : Instruction) → x < 16
      → instruction_at ir.functions f p ≡ Some i → is_about (class_at topic x) b ≡ true
      → ((u : IrFunction) → IsInstruction ir u.registers (length u.code) i → Fits u.registers b)
      → Flows ir.functions f p b → ⊥
  no_flow p x b i few is about fits d =
      let s = standing ir f p i well is in
      let fit : Fits (registers_at ir.functions f) b =
      subst (λ n. Fits n b) (sym (registers_there ir well f s.body s.there))
      (fits s.body s.well) in
      nothing_comes ir well topic exits sound ended entries all.sound all.shaped start tables flow x
      few s.body s.there none d (about, fit)

  no_store : (p : ℕ) (target : Target) (from line : ℕ) → Covers topic target
      → instruction_at ir.functions f p ≡ Some (Store target from line)
      → Flows ir.functions f p (unwritten target) → ⊥
  no_store p (Root y index) from line covers is d =
      no_flow p covers.x (RootUnwritten y) (Store (Root y index) from line) covers.few is
      covers.bare (λ u well. tt) d
  no_store p (Field b k y index) from line covers is d =
      no_flow p covers.x (Unwritten b k y) (Store (Field b k y index) from line) covers.few is
      covers.bare (λ u well. well.1.0) d

  pub unreached : (table : List (List ℕ)) → Marked ir.functions topic table f
  unreached table = record {
    stores = λ p target from line covers is bare before.
        absurd (no_store p target from line covers is bare);
    fills = λ p to kind log_fill line topic_is is before.
        absurd (no_flow p 0 Freed (New to kind log_fill line) (omega arith) is
        (ap (λ t. is_about (class_at t 0) Freed) topic_is) (λ u well. tt) before);
  }

-- the table of headers
headers_word : (code : List Instruction) (p : ℕ) (i : Instruction) → slice_get code p ≡ Some i
    → word (headers code) p ≡ header_mark i
headers_word [] p i is = absurd cc
headers_word (j ∷ js) zero i is = let same : j ≡ i = cc in ap header_mark same
headers_word (j ∷ js) (suc p) i is = headers_word js p i is

headers_row : (functions : List IrFunction) (f : ℕ) (u : IrFunction)
    → slice_get functions f ≡ Some u → row_in (headers_of functions) f ≡ headers u.code
headers_row [] f u there = absurd cc
headers_row (v ∷ vs) zero u there = let same : v ≡ u = cc in
    ap (λ (w : IrFunction). headers w.code) same
headers_row (v ∷ vs) (suc f) u there = headers_row vs f u there

headers_none : (functions : List IrFunction) (f : ℕ) → slice_get functions f ≡ None
    → row_in (headers_of functions) f ≡ []
headers_none [] f there = refl
headers_none (v ∷ vs) zero there = absurd cc
headers_none (v ∷ vs) (suc f) there = headers_none vs f there

headers_past : (code : List Instruction) (p : ℕ) → slice_get code p ≡ None
    → word (headers code) p ≡ 0
headers_past [] p is = refl
headers_past (j ∷ js) zero is = absurd cc
headers_past (j ∷ js) (suc p) is = headers_past js p is

length_headers : (code : List Instruction) → length (headers code) ≡ length code
length_headers [] = refl
length_headers (i ∷ is) = ap suc (length_headers is)

length_headers_of : (functions : List IrFunction) → length (headers_of functions) ≡ length functions
length_headers_of [] = refl
length_headers_of (u ∷ us) = ap suc (length_headers_of us)

word_header : (functions : List IrFunction) (f p : ℕ) (i : Instruction)
    → instruction_at functions f p ≡ Some i → word (row_in (headers_of functions) f) p
    ≡ header_mark i
word_header functions f p i is = by_function (slice_get functions f) refl is
  where
    by_function : (o : Option IrFunction) → slice_get functions f ≡ o
        → option_and_then (λ (u : IrFunction). slice_get u.code p) o ≡ Some i
        → word (row_in (headers_of functions) f) p ≡ header_mark i
    by_function None there at = absurd cc
    by_function (Some u) there at = ap (λ r. word r p) (headers_row functions f u there)
        ∙ headers_word u.code p i at

pub headers_marked : (functions : List IrFunction) → Headers functions (headers_of functions)
headers_marked functions = record { marked = each }
  where
    each : (f p : ℕ) → WritesHeader functions f p → says (headers_of functions) false f p ≡ true
    each f p (inl (to, kind, log_fill, line, is)) =
        ap (has_bit 0) (word_header functions f p (New to kind log_fill line) is) ∙ test_store
    each f p (inr (from, kind, line, is)) =
        ap (has_bit 0) (word_header functions f p (Free from kind line) is) ∙ test_store

header_logged : (functions : List IrFunction) (fill : Bool) (f p : ℕ) (i : Instruction)
    → instruction_at functions f p ≡ Some i → has_bit (part fill) (header_mark i) ≡ true
    → Logged functions fill f p
header_logged functions false f p (New to kind log_fill line) is h =
    inr (inl (to, kind, log_fill, line, is))
header_logged functions false f p (Free from kind line) is h = inr (inr (from, kind, line, is))
header_logged functions true f p (New to kind log_fill line) is h =
    absurd (false≢true (sym test_store_fill ∙ h))
header_logged functions true f p (Free from kind line) is h =
    absurd (false≢true (sym test_store_fill ∙ h))
header_logged functions fill f p (Const to v) is h = absurd (nothing_set fill h)
header_logged functions fill f p (Copy to from) is h = absurd (nothing_set fill h)
header_logged functions fill f p (Bin op to left right) is h = absurd (nothing_set fill h)
header_logged functions fill f p (Jump place) is h = absurd (nothing_set fill h)
header_logged functions fill f p (Branch reg place) is h = absurd (nothing_set fill h)
header_logged functions fill f p (Load to t) is h = absurd (nothing_set fill h)
header_logged functions fill f p (Store t from line) is h = absurd (nothing_set fill h)
header_logged functions fill f p (Call to g args) is h = absurd (nothing_set fill h)
header_logged functions fill f p (Return from) is h = absurd (nothing_set fill h)
header_logged functions fill f p Tick is h = absurd (nothing_set fill h)
header_logged functions fill f p (Trap kind) is h = absurd (nothing_set fill h)
header_logged functions fill f p (Log t) is h = absurd (nothing_set fill h)

pub headers_marks : (functions : List IrFunction) → Marks functions (headers_of functions)
headers_marks functions = record {
  sound = record { logged = each };
  shaped = record {
    count = length_headers_of functions;
    each = λ f u there.
        inr (ap length (headers_row functions f u there) ∙ length_headers u.code);
  };
}
  where
    by_place : (fill : Bool) (f p : ℕ) (u : IrFunction) (o : Option Instruction)
        → slice_get functions f ≡ Some u → slice_get u.code p ≡ o
        → has_bit (part fill) (word (headers u.code) p) ≡ true → Logged functions fill f p
    by_place fill f p u None there at h =
        absurd (nothing_set fill (ap (has_bit (part fill)) (sym (headers_past u.code p at)) ∙ h))
    by_place fill f p u (Some i) there at h =
        let is : instruction_at functions f p ≡ Some i = rw there at in
        header_logged functions fill f p i is
        (ap (has_bit (part fill)) (sym (headers_word u.code p i at)) ∙ h)

    by_function : (fill : Bool) (f p : ℕ) (o : Option IrFunction) → slice_get functions f ≡ o
        → says (headers_of functions) fill f p ≡ true → Logged functions fill f p
    by_function fill f p None there h =
        absurd (nothing_set fill (ap (λ r. has_bit (part fill) (word r p))
        (sym (headers_none functions f there)) ∙ h))
    by_function fill f p (Some u) there h =
        by_place fill f p u (slice_get u.code p) there refl
        (ap (λ r. has_bit (part fill) (word r p)) (sym (headers_row functions f u there)) ∙ h)

    each : (fill : Bool) (f p : ℕ) → says (headers_of functions) fill f p ≡ true
        → Logged functions fill f p
    each fill f p h = by_function fill f p (slice_get functions f) refl h

-- a missing table is empty
pub no_table : (tables : List (List (List ℕ))) (f : ℕ) → slice_get tables f ≡ None
    → exits_of tables f ≡ []
no_table [] f is = refl
no_table (t ∷ ts) zero is = absurd cc
no_table (t ∷ ts) (suc f) is = no_table ts f is
