-- Sweeps from one column of a function's entry: what they record of returns is derived, and is
-- recorded in the exits.
use Rattle.std.proofs.Common.{◌≡◌, ◌<◌, ◌+◌, ◌-◌, ◌^◌, ℕ, zero, suc, Bool, true, false, List, []}
use Rattle.std.proofs.Common.{◌∷◌, Option, Some, None, length, refl, sym, ◌∙◌, ap, subst, arith}
use Rattle.std.proofs.Common.{inl, inr, ⊎_elim}
use Rattle.std.specs.Prelude.{◌==◌, slice_get, slice_set, if◌then◌else◌}
use Rattle.std.proofs.lemmas.Bool.{false≢true, eqb-true, eq-eqb}
use Rattle.std.proofs.lemmas.List.{length-set, length-replicate, get_or-set_same}
use Rattle.std.proofs.lemmas.Option.{slice_get_within}
use mathlib.Core.Logic.{◌⊎◌}
use Rattle.ir.specs.declared.instruction.Instruction.{Instruction}
use Rattle.ir.specs.declared.instruction.Instruction.TheVariants.{Call, Return}
use Rattle.ir.specs.declared.function.IrFunction.{IrFunction}
use Rattle.ir.specs.declared.function.Ir.{Ir}
use Rattle.ir.specs.declared.fact.Fact.{Fact}
use Rattle.ir.specs.declared.fact.Fact.TheVariants.{Here}
use Rattle.ir.specs.declared.fact.Back.TheVariants.{FromReturn, Stays}
use Rattle.ir.specs.Places.{instruction_at, Leads, ReturnsAt}
use Rattle.ir.specs.Table.{AmongOrigins, origins, at_call, back}
use Rattle.ir.specs.Derived.{Passes}
use Rattle.ir.specs.Derived.Passes.{starts, along, through, past}
use Rattle.ir.specs.WellFormed.{IsWellFormed}
use Rattle.clobber_pass.specs.declared.topic.Topic.{Topic}
use Rattle.clobber_pass.specs.inside.Class.{class_at, is_about, slot}
use Rattle.clobber_pass.specs.Row.{word, has_bit, tells}
use Rattle.clobber_pass.specs.inside.Told.{row_width, column_of, column, parameters_at}
use Rattle.clobber_pass.specs.Sweep.{row_in}
use Rattle.clobber_pass.specs.inside.Sweep.{exits_of, exit, row_joined, join_in, meet_in, rows_led}
use Rattle.clobber_pass.specs.inside.Sweep.{jump_target, here_in, next_row, swept}
use Rattle.clobber_pass.specs.inside.Closed.{Closed, Shaped, Stage, Reached, Made, entry_word}
use Rattle.clobber_pass.specs.inside.Closed.{entry_from, entry_row, ShapedExits, Within, EndedIn}
use Rattle.clobber_pass.specs.inside.Closed.{Ended, no_exits, joined_exits}
use Rattle.clobber_pass.specs.inside.Closed.Stage.{Table, RowAt}
use Rattle.clobber_pass.specs.inside.Closed.Reached.{none, again, raised, taken, picked, dropped}
use Rattle.clobber_pass.specs.inside.Closed.Reached.{leads, goes}
use Rattle.clobber_pass.specs.inside.Sound.{Backed, SoundExits}
use Rattle.clobber_pass.proofs.steps.Fits.{parameters_there}
use Rattle.clobber_pass.proofs.bits.Bits.{has_bit_zero, has_bit_ones}
use Rattle.clobber_pass.proofs.bits.Joins.{tells_inside, or_out, row_in_set, row_in_replicate}
use Rattle.clobber_pass.proofs.bits.Joins.{length_or}
use Rattle.clobber_pass.proofs.bits.Joins.{joined_tells}
use Rattle.clobber_pass.proofs.derived.Good.{Steps, Good, GoodRow, GoodOrNone, Sound, reached_good}
use Rattle.clobber_pass.proofs.closed.Reached.{brought, wide}

-- the words of an entry's row
word_entry_from : (n c s k j : ℕ) → j < k → word (entry_from n c s k) j ≡ entry_word n c (s + j)
word_entry_from n c s zero j less = absurd (omega arith)
word_entry_from n c s (suc k) zero less = let e : s + 0 ≡ s = omega arith in rw e refl
word_entry_from n c s (suc k) (suc j) less =
    let e : s + suc j ≡ (s + 1) + j = omega arith in
    rw e (word_entry_from n c (s + 1) k j (omega arith))

length_entry_from : (n c s k : ℕ) → length (entry_from n c s k) ≡ k
length_entry_from n c s zero = refl
length_entry_from n c s (suc k) = ap suc (length_entry_from n c (s + 1) k)

pub length_entry : (topic : Topic) (parameters registers c : ℕ)
    → length (entry_row topic parameters registers c) ≡ row_width topic registers
length_entry topic parameters registers c =
    length_entry_from parameters c 0 (row_width topic registers)

pub word_entry : (topic : Topic) (parameters registers c s : ℕ) → s < row_width topic registers
    → word (entry_row topic parameters registers c) s ≡ entry_word parameters c s
word_entry topic parameters registers c s less = let e : 0 + s ≡ s = omega arith in
    word_entry_from parameters c 0 (row_width topic registers) s less ∙ rw e refl

entry_column : (n c s x : ℕ) (b : Bool) → (column_of n s == c) ≡ b
    → has_bit x (if b then 2 ^ 16 - 1 else 0) ≡ true → column_of n s ≡ c
entry_column n c s x true is h = eqb-true (column_of n s) c is
entry_column n c s x false is h = absurd (false≢true (sym (has_bit_zero x) ∙ h))

-- what an entry's row records belongs to its column
pub entry_out : (topic : Topic) (parameters registers c s x : ℕ)
    → tells (entry_row topic parameters registers c) x s ≡ true → column_of parameters s ≡ c
entry_out topic parameters registers c s x h =
    let less : s < row_width topic registers =
    subst (λ n. s < n) (length_entry topic parameters registers c)
    (tells_inside (entry_row topic parameters registers c) x s h) in
    entry_column parameters c s x (column_of parameters s == c) refl
    (sym (ap (has_bit x) (word_entry topic parameters registers c s less)) ∙ h)

pub entry_in : (topic : Topic) (parameters registers c s x : ℕ) → x < 16
    → s < row_width topic registers → column_of parameters s ≡ c
    → tells (entry_row topic parameters registers c) x s ≡ true
entry_in topic parameters registers c s x few less is =
    ap (has_bit x) (word_entry topic parameters registers c s less)
    ∙ ap (λ b. has_bit x (if b then 2 ^ 16 - 1 else 0)) (eq-eqb (column_of parameters s) c is)
    ∙ has_bit_ones x few

-- a sweep adds no rows
length_led : (rows : List (List ℕ)) (to : Option ℕ) (row : List ℕ)
    → length (rows_led rows to row) ≡ length rows
length_led rows None row = refl
length_led rows (Some q) row = length-set rows q _

length_swept : (topic : Topic) (exits : List (List (List ℕ))) (end : ℕ) (rest : List Instruction)
    (rows : List (List ℕ)) (row : List ℕ) (p : ℕ) → length (swept topic exits end rows row p rest)
    ≡ length rows
length_swept topic exits end [] rows row p = refl
length_swept topic exits end (i ∷ is) rows row p =
    length_swept topic exits end is
    (rows_led (meet_in rows p row) (jump_target end i) (here_in rows p row))
    (next_row topic exits i (here_in rows p row)) (p + 1)
    ∙ length_led (meet_in rows p row) (jump_target end i) (here_in rows p row) ∙ length-set rows p _

abbrev HasRows : ℕ → Stage → Type 0
HasRows n (Table rows) = length rows ≡ n
HasRows n (RowAt p row) = Unit {0}

length_reached : (topic : Topic) (exits : List (List (List ℕ))) (entry : List ℕ)
    (code : List Instruction) {stage : Stage} → Reached topic exits entry code stage
    → HasRows (length code + 1) stage
length_reached topic exits entry code none = length-replicate (length code + 1) []
length_reached topic exits entry code (again rows made) =
    length_swept topic exits (length code) code rows entry 0
    ∙ length_reached topic exits entry code made
length_reached topic exits entry code (raised rows p s w made at) =
    length-set rows p _ ∙ length_reached topic exits entry code made
length_reached topic exits entry code (taken rows p s made) = tt
length_reached topic exits entry code (picked p row s at) = tt
length_reached topic exits entry code (dropped p row s at) = tt
length_reached topic exits entry code (leads p q i row is to at) = tt
length_reached topic exits entry code (goes p i row is inside at) = tt

pub length_made : (topic : Topic) (exits : List (List (List ℕ))) (entry : List ℕ)
    (code : List Instruction) {rows : List (List ℕ)} → Made topic exits entry code rows
    → length rows ≡ length code + 1
length_made topic exits entry code made = length_reached topic exits entry code made

-- a table of tables after one was written
pub exits_of_set : (exits : List (List (List ℕ))) (g : ℕ) (rows : List (List ℕ)) (h : ℕ)
    → (exits_of (slice_set exits g rows) h ≡ exits_of exits h)
    ⊎ ((h ≡ g) × (exits_of (slice_set exits g rows) h ≡ rows))
exits_of_set [] g rows h = inl refl
exits_of_set (r ∷ exits) zero rows zero = inr (refl, refl)
exits_of_set (r ∷ exits) zero rows (suc h) = inl refl
exits_of_set (r ∷ exits) (suc g) rows zero = inl refl
exits_of_set (r ∷ exits) (suc g) rows (suc h) =
    ⊎_elim inl (λ (e : (h ≡ g) × (exits_of (slice_set exits g rows) h ≡ rows)).
    inr (ap suc e.0, e.1)) (exits_of_set exits g rows h)

pub joined_out : (row other : List ℕ) (x s : ℕ) → tells (row_joined row other) x s ≡ true
    → (tells row x s ≡ true) ⊎ (tells other x s ≡ true)
joined_out [] other x s h = inr h
joined_out (w ∷ ws) other x s h = or_out other (w ∷ ws) x s h

-- what joined exits record was recorded before, or in the row that was joined
exit_out : (exits : List (List (List ℕ))) (g c : ℕ) (row : List ℕ) (h d x s : ℕ)
    → has_bit x (exit (exits_of (joined_exits exits g c row) h) d s) ≡ true
    → (has_bit x (exit (exits_of exits h) d s) ≡ true)
    ⊎ ((h ≡ g) × (d ≡ c) × (tells row x s ≡ true))
exit_out exits g c row h d x s t =
    ⊎_elim other this (exits_of_set exits g (join_in (exits_of exits g) c row) h)
  where
    other : exits_of (joined_exits exits g c row) h ≡ exits_of exits h
        → (has_bit x (exit (exits_of exits h) d s) ≡ true)
        ⊎ ((h ≡ g) × (d ≡ c) × (tells row x s ≡ true))
    other same = inl (subst (λ e. has_bit x (exit e d s) ≡ true) same t)

    this : (h ≡ g) × (exits_of (joined_exits exits g c row) h ≡ join_in (exits_of exits g) c row)
        → (has_bit x (exit (exits_of exits h) d s) ≡ true)
        ⊎ ((h ≡ g) × (d ≡ c) × (tells row x s ≡ true))
    this (is, same) = ⊎_elim kept written
        (row_in_set (exits_of exits g) c (row_joined (row_in (exits_of exits g) c) row) d)
      where
        now : has_bit x (exit (join_in (exits_of exits g) c row) d s) ≡ true
        now = subst (λ e. has_bit x (exit e d s) ≡ true) same t

        before : has_bit x (exit (exits_of exits g) d s) ≡ true
            → has_bit x (exit (exits_of exits h) d s) ≡ true
        before u = subst (λ k. has_bit x (exit (exits_of exits k) d s) ≡ true) (sym is) u

        kept : row_in (join_in (exits_of exits g) c row) d ≡ row_in (exits_of exits g) d
            → (has_bit x (exit (exits_of exits h) d s) ≡ true)
            ⊎ ((h ≡ g) × (d ≡ c) × (tells row x s ≡ true))
        kept e = inl (before (subst (λ r. tells r x s ≡ true) e now))

        written : (d ≡ c) × (row_in (join_in (exits_of exits g) c row) d
            ≡ row_joined (row_in (exits_of exits g) c) row)
            → (has_bit x (exit (exits_of exits h) d s) ≡ true)
            ⊎ ((h ≡ g) × (d ≡ c) × (tells row x s ≡ true))
        written (d_is, e) =
            ⊎_elim (λ (u : tells (row_in (exits_of exits g) c) x s ≡ true).
            inl (before (subst (λ k. tells (row_in (exits_of exits g) k) x s ≡ true)
            (sym d_is) u)))
            (λ (u : tells row x s ≡ true). inr (is, d_is, u))
            (joined_out (row_in (exits_of exits g) c) row x s
            (subst (λ r. tells r x s ≡ true) e now))

module _ (ir : Ir) (well : IsWellFormed ir) (topic : Topic) (exits : List (List (List ℕ)))
    (sound : SoundExits ir.functions topic exits)
    (g : ℕ) (u : IrFunction) (there : slice_get ir.functions g ≡ Some u) (c : ℕ) where
  abbrev entry : List ℕ
  entry = entry_row topic u.parameters u.registers c

  abbrev end : ℕ
  end = length u.code

  -- a fact at a place, derived from a fact of the column at the entry; and, after the last place,
  -- at a return
  abbrev From : ℕ → ℕ → Fact → Type 0
  From x p b = (e : Fact) × (is_about (class_at topic x) e ≡ true)
      × (column (parameters_at ir.functions g) e ≡ c) × Passes ir.functions g 0 e p b

  abbrev At : ℕ → ℕ → Fact → Type 0
  At x p b = ((p < end) × From x p b) ⊎ ((p ≡ end) × Backed ir.functions (class_at topic x) g c b)

  code_at : (p : ℕ) (i : Instruction) → slice_get u.code p ≡ Some i
      → instruction_at ir.functions g p ≡ Some i
  code_at p i is = rw there is

  inner : (x p : ℕ) (i : Instruction) (b : Fact) → slice_get u.code p ≡ Some i → At x p b
      → From x p b
  inner x p i b is (inl (less, from)) = from
  inner x p i b is (inr (same, backed)) = let less : p < end = slice_get_within u.code p i is in
      absurd (omega arith)

  pub steps : (x : ℕ) → Steps ir g u (At x)
  steps x = record {
    along = λ p q i a b is to inside m h. along_step p q i a b is to inside m (inner x p i a is h);
    through = λ p h to q args y z b is inside at d ret same.
        through_step p h to q args y z b is inside
        (inner x p (Call to h args) (at_call args y) is at)
        d ret same;
    past = λ p h to q args b is inside at d ret same.
        past_step p h to q args b is inside (inner x p (Call to h args) b is at) d ret same;
    ends = λ p from b is at. ends_step p from b is (inner x p (Return from) b is at);
  }
    where
      along_step : (p q : ℕ) (i : Instruction) (a b : Fact) → slice_get u.code p ≡ Some i
          → Leads i p q → q < end → AmongOrigins a (origins i b) → From x p a → At x q b
      along_step p q i a b is to inside m (e, about, col, d) =
          inl (inside, (e, about, col, along i d (code_at p i is) to m))

      through_step : (p h to q : ℕ) (args : List ℕ) (y z b : Fact)
          → slice_get u.code p ≡ Some (Call to h args) → suc p < end → From x p (at_call args y)
          → Passes ir.functions h 0 y q z → ReturnsAt ir.functions h q
          → back to args b ≡ FromReturn z
          → At x (suc p) b
      through_step p h to q args y z b is inside (e, about, col, d) r ret same =
          inl (inside, (e, about, col, through d (code_at p (Call to h args) is) r ret same))

      past_step : (p h to q : ℕ) (args : List ℕ) (b : Fact)
          → slice_get u.code p ≡ Some (Call to h args) → suc p < end → From x p b
          → Passes ir.functions h 0 Here q Here → ReturnsAt ir.functions h q
          → back to args b ≡ Stays
          → At x (suc p) b
      past_step p h to q args b is inside (e, about, col, d) r ret same =
          inl (inside, (e, about, col, past d (code_at p (Call to h args) is) r ret same))

      ends_step : (p from : ℕ) (b : Fact) → slice_get u.code p ≡ Some (Return from) → From x p b
          → At x end b
      ends_step p from b is (e, about, col, d) =
          inr (refl, (e, p, about, col, d, (from, code_at p (Return from) is)))

  entry_good : (x : ℕ) (few : x < 16) → 0 < end
      → GoodRow ir well topic exits sound x few g u there (At x) (steps x) 0 entry
  entry_good x few inside = (length_entry topic u.parameters u.registers c, told)
    where
      told : Sound ir well topic exits sound x few g u there (At x) (steps x) 0 entry
      told b about h =
          let out : column_of u.parameters (slot b) ≡ c =
          entry_out topic u.parameters u.registers c (slot b) x h in
          inl (
            inside,
            (
              b,
              about,
              ap (λ n. column n b) (parameters_there ir well g u there)
                  ∙ out,
              starts,
            ),
          )

  pub made_good : (x : ℕ) (few : x < 16) {rows : List (List ℕ)} → Made topic exits entry u.code rows
      → Good ir well topic exits sound x few g u there (At x) (steps x) rows
  made_good x few made =
      reached_good ir well topic exits sound x few g u there (At x) (steps x) entry
      (length_entry topic u.parameters u.registers c) (entry_good x few) made

  pub made_shaped : {rows : List (List ℕ)} → Made topic exits entry u.code rows
      → Shaped (row_width topic u.registers) rows
  made_shaped {rows} made q = shaped (made_good 0 (omega arith) made q)
    where
      shaped : GoodOrNone ir well topic exits sound 0 (omega arith) g u there (At 0) (steps 0) q
          (row_in rows q) → (row_in rows q ≡ [])
          ⊎ (length (row_in rows q) ≡ row_width topic u.registers)
      shaped (inl is) = inl is
      shaped (inr good) = inr good.0

  -- what is recorded after the last place is backed by a derivation
  end_backed : (x : ℕ) → x < 16 → (rows : List (List ℕ)) → Made topic exits entry u.code rows
      → (b : Fact) → is_about (class_at topic x) b ≡ true
      → tells (row_in rows end) x (slot b) ≡ true
      → Backed ir.functions (class_at topic x) g c b
  end_backed x few rows made b about h = backed (made_good x few made end)
    where
      at_end : At x end b → Backed ir.functions (class_at topic x) g c b
      at_end (inl (less, from)) = absurd (omega arith)
      at_end (inr (same, backed)) = backed

      backed : GoodOrNone ir well topic exits sound x few g u there (At x) (steps x) end
          (row_in rows end) → Backed ir.functions (class_at topic x) g c b
      backed (inl is) = absurd (false≢true
          (sym (has_bit_zero x) ∙ subst (λ r. tells r x (slot b) ≡ true) is h))
      backed (inr good) = at_end (good.1 b about h)

  -- the exits stay sound
  pub joined_sound : (rows : List (List ℕ)) → Made topic exits entry u.code rows
      → SoundExits ir.functions topic (joined_exits exits g c (row_in rows end))
  joined_sound rows made = record { backed = each }
    where
      new : (x h d : ℕ) (y : Fact) → x < 16 → is_about (class_at topic x) y ≡ true
          → (h ≡ g) × (d ≡ c) × (tells (row_in rows end) x (slot y) ≡ true)
          → Backed ir.functions (class_at topic x) h d y
      new x h d y few about (h_is, d_is, told) =
          subst (λ k. Backed ir.functions (class_at topic x) k d y) (sym h_is)
          (subst (λ k. Backed ir.functions (class_at topic x) g k y) (sym d_is)
          (end_backed x few rows made y about told))

      each : (x h d : ℕ) (y : Fact) → x < 16 → is_about (class_at topic x) y ≡ true
          → has_bit x (exit (exits_of (joined_exits exits g c (row_in rows end)) h) d (slot y))
          ≡ true
          → Backed ir.functions (class_at topic x) h d y
      each x h d y few about t =
          ⊎_elim (λ (old : has_bit x (exit (exits_of exits h) d (slot y)) ≡ true).
          sound.backed x h d y few about old) (new x h d y few about)
          (exit_out exits g c (row_in rows end) h d x (slot y) t)

-- empty exits are sound
no_row : (functions : List IrFunction) (g c : ℕ) → row_in (exits_of (no_exits functions) g) c ≡ []
no_row [] g c = refl
no_row (u ∷ us) zero c = row_in_replicate (u.parameters + 2) c
no_row (u ∷ us) (suc g) c = no_row us g c

pub no_exits_sound : (functions : List IrFunction) (topic : Topic)
    → SoundExits functions topic (no_exits functions)
no_exits_sound functions topic = record {
  backed = λ x g c y few about h.
      absurd (false≢true (sym (has_bit_zero x) ∙ subst (λ r. tells r x (slot y) ≡ true)
      (no_row functions g c) h));
}

no_columns : (functions : List IrFunction) (g : ℕ) (u : IrFunction) → slice_get functions g ≡ Some u
    → length (exits_of (no_exits functions) g) ≡ u.parameters + 2
no_columns [] g u there = absurd cc
no_columns (v ∷ vs) zero u there =
    let same : v ≡ u = cc in
    length-replicate (v.parameters + 2) [] ∙ ap (λ (w : IrFunction). w.parameters + 2) same
no_columns (v ∷ vs) (suc g) u there = no_columns vs g u there

no_exits_length : (functions : List IrFunction) → length (no_exits functions) ≡ length functions
no_exits_length [] = refl
no_exits_length (u ∷ us) = ap suc (no_exits_length us)

pub no_exits_shaped : (functions : List IrFunction) (topic : Topic)
    → ShapedExits functions topic (no_exits functions)
no_exits_shaped functions topic =
    record {
      count = no_exits_length functions;
      each = λ g u there.
          (no_columns functions g u there, λ c. inl (no_row functions g c));
    }

-- joined exits have the same shape
pub joined_shape : (long : ℕ) (row other : List ℕ) → (row ≡ []) ⊎ (length row ≡ long)
    → (other ≡ []) ⊎ (length other ≡ long) → (row_joined row other ≡ [])
    ⊎ (length (row_joined row other) ≡ long)
joined_shape long [] other one two = two
joined_shape long (w ∷ ws) other (inl is) two = absurd cc
joined_shape long (w ∷ ws) other (inr is) two = inr (length_or other (w ∷ ws) 0 ∙ is)

joined_in_shape : (long : ℕ) (rows : List (List ℕ)) (c : ℕ) (row : List ℕ) → Shaped long rows
    → (row ≡ []) ⊎ (length row ≡ long) → Shaped long (join_in rows c row)
joined_in_shape long rows c row shape one d =
    ⊎_elim
    (λ (same : row_in (join_in rows c row) d ≡ row_in rows d).
    subst (λ r. (r ≡ []) ⊎ (length r ≡ long)) (sym same) (shape d))
    (λ (h : (d ≡ c) × (row_in (join_in rows c row) d ≡ row_joined (row_in rows c) row)).
    subst (λ r. (r ≡ []) ⊎ (length r ≡ long)) (sym h.1)
    (joined_shape long (row_in rows c) row (shape c) one))
    (row_in_set rows c (row_joined (row_in rows c) row) d)

abbrev Right : Topic → IrFunction → List (List ℕ) → Type 0
Right topic w rows = (length rows ≡ w.parameters + 2) × Shaped (row_width topic w.registers) rows

module _ (functions : List IrFunction) (topic : Topic) (exits : List (List (List ℕ))) (g c : ℕ)
    (row : List ℕ) (u : IrFunction) (there : slice_get functions g ≡ Some u)
    (shaped : ShapedExits functions topic exits)
    (one : (row ≡ []) ⊎ (length row ≡ row_width topic u.registers)) where
  pub joined_shaped : ShapedExits functions topic (joined_exits exits g c row)
  joined_shaped = record {
    count = length-set exits g (join_in (exits_of exits g) c row)
        ∙ shaped.count;
    each = each;
  }
    where
      each : (h : ℕ) (v : IrFunction) → slice_get functions h ≡ Some v
          → (length (exits_of (joined_exits exits g c row) h) ≡ v.parameters + 2)
          × Shaped (row_width topic v.registers) (exits_of (joined_exits exits g c row) h)
      each h v is = ⊎_elim other this (exits_of_set exits g (join_in (exits_of exits g) c row) h)
        where
          other : exits_of (joined_exits exits g c row) h ≡ exits_of exits h
              → Right topic v (exits_of (joined_exits exits g c row) h)
          other same = subst (Right topic v) (sym same) (shaped.each h v is)

          this : (h ≡ g) × (exits_of (joined_exits exits g c row) h ≡ join_in (exits_of exits g) c
              row) → Right topic v (exits_of (joined_exits exits g c row) h)
          this (h_is, same) =
              let both : Some v ≡ Some u = sym is ∙ ap (slice_get functions) h_is ∙ there in
              let body_is : v ≡ u = cc in
              let old = shaped.each g u there in
              subst (λ w. Right topic w (exits_of (joined_exits exits g c row) h)) (sym body_is)
              (subst (Right topic u) (sym same) (
                length-set (exits_of exits g) c _ ∙ old.0,
                joined_in_shape (row_width topic u.registers) (exits_of exits g) c row old.1 one,
              ))

  -- a row whose join changed nothing records only what was recorded before
  pub joined_within : joined_exits exits g c row ≡ exits → c < u.parameters + 2
      → Within row (row_in (exits_of exits g) c)
  joined_within same inside x s h =
      let old = shaped.each g u there in
      let g_inside : g < length exits =
      subst (λ n. g < n) (sym shaped.count) (slice_get_within functions g u there) in
      let stands : exits_of exits g ≡ join_in (exits_of exits g) c row =
      ap (λ t. exits_of t g) (sym same)
      ∙ get_or-set_same exits g (join_in (exits_of exits g) c row) [] g_inside in
      let c_inside : c < length (exits_of exits g) = subst (λ n. c < n) (sym old.0) inside in
      let s_inside : s < length row = tells_inside row x s h in
      brought (exits_of exits g) (row_width topic u.registers) (wide topic u.registers) old.1 x c s
      row c_inside (size s_inside) (sym stands) s_inside h
    where
      size : {s : ℕ} → s < length row → length row ≡ row_width topic u.registers
      size {s} s_inside = ⊎_elim (λ (is : row ≡ []).
          absurd (empty s (subst (λ r. s < length r) is s_inside)))
          (λ (is : length row ≡ row_width topic u.registers). is) one
        where
          empty : (s : ℕ) → s < length {A = ℕ} [] → ⊥
          empty s less = omega arith

-- the result of the sweeps from a column, as the code has it
module _ (ir : Ir) (well : IsWellFormed ir) (topic : Topic) (exits new : List (List (List ℕ)))
    (g c : ℕ) (u : IrFunction) (there : slice_get ir.functions g ≡ Some u)
    (shaped : ShapedExits ir.functions topic exits) (sound : SoundExits ir.functions topic exits)
    (rows : List (List ℕ)) (entry row : List ℕ)
    (entry_is : entry ≡ entry_row topic u.parameters u.registers c)
    (made : Made topic exits entry u.code rows) (row_is : row ≡ row_in rows (length u.code)) where
  made_here : Made topic exits (entry_row topic u.parameters u.registers c) u.code rows
  made_here = subst (λ e. Made topic exits e u.code rows) entry_is made

  row_shape : (row ≡ []) ⊎ (length row ≡ row_width topic u.registers)
  row_shape = subst (λ r. (r ≡ []) ⊎ (length r ≡ row_width topic u.registers)) (sym row_is)
      (made_shaped ir well topic exits sound g u there c made_here (length u.code))

  pub column_shaped : new ≡ joined_exits exits g c row → ShapedExits ir.functions topic new
  column_shaped is = subst (ShapedExits ir.functions topic) (sym is)
      (joined_shaped ir.functions topic exits g c row u there shaped row_shape)

  pub column_sound : new ≡ joined_exits exits g c row → SoundExits ir.functions topic new
  column_sound is =
      subst (SoundExits ir.functions topic) (sym is)
      (subst (λ r. SoundExits ir.functions topic (joined_exits exits g c r)) (sym row_is)
      (joined_sound ir well topic exits sound g u there c rows made_here))

  -- the exits record what the sweeps record of returns
  pub column_told : new ≡ joined_exits exits g c row → c < parameters_at ir.functions g + 2
      → Within (row_in rows (length u.code)) (row_in (exits_of new g) c)
  column_told is inside x s h =
      let old = shaped.each g u there in
      let told : tells row x s ≡ true = subst (λ r. tells r x s ≡ true) (sym row_is) h in
      let g_inside : g < length exits =
      subst (λ n. g < n) (sym shaped.count) (slice_get_within ir.functions g u there) in
      let inside_u : c < u.parameters + 2 =
      subst (λ n. c < n + 2) (parameters_there ir well g u there) inside in
      let c_inside : c < length (exits_of exits g) = subst (λ n. c < n) (sym old.0) inside_u in
      let stands : row_in (exits_of new g) c ≡ row_joined (row_in (exits_of exits g) c) row =
      ap (λ t. row_in (exits_of t g) c) is
      ∙ ap (λ t. row_in t c) (get_or-set_same exits g (join_in (exits_of exits g) c row) []
      g_inside)
      ∙ get_or-set_same (exits_of exits g) c (row_joined (row_in (exits_of exits g) c) row) []
      c_inside in
      subst (λ r. tells r x s ≡ true) (sym stands)
      (joined_tells (row_width topic u.registers) (row_in (exits_of exits g) c) row x s
      (old.1 c) (size row_shape told) told)
    where
      size : (row ≡ []) ⊎ (length row ≡ row_width topic u.registers) → tells row x s ≡ true
          → length row ≡ row_width topic u.registers
      size (inr is) told = is
      size (inl is) told = absurd (false≢true
          (sym (has_bit_zero x) ∙ subst (λ r. tells r x s ≡ true) is told))

  pub made_column : Made topic exits (entry_row topic u.parameters u.registers c) u.code rows
  made_column = made_here

  pub column_ended : joined_exits exits g c row ≡ exits → c < parameters_at ir.functions g + 2
      → Closed topic exits (length u.code) rows entry 0 u.code → Ended ir.functions topic exits g c
  column_ended same inside closed = record { ends = ends }
    where
      inside_u : c < u.parameters + 2
      inside_u = subst (λ n. c < n + 2) (parameters_there ir well g u there) inside

      within : Within (row_in rows (length u.code)) (row_in (exits_of exits g) c)
      within = subst (λ r. Within r (row_in (exits_of exits g) c)) row_is
          (joined_within ir.functions topic exits g c row u there shaped row_shape same inside_u)

      here : EndedIn topic exits g c u
      here = record {
        rows = rows;
        closed = subst (λ e. Closed topic exits (length u.code) rows e 0 u.code) entry_is closed;
        made = made_here;
        told = within;
      }

      ends : (v : IrFunction) → slice_get ir.functions g ≡ Some v → EndedIn topic exits g c v
      ends v is =
          let both : Some u ≡ Some v = sym there ∙ is in
          let body_is : u ≡ v = cc in
          subst (EndedIn topic exits g c) body_is here
