-- A swept table records only derived facts.
use Rattle.std.proofs.Common.{◌≡◌, ◌<◌, ◌+◌, ℕ, suc, true, List, [], ◌∷◌, Option, Some, None}
use Rattle.std.proofs.Common.{length, replicate, refl, sym, ◌∙◌, ap, subst, arith, inl, inr, ⊎_elim}
use Rattle.std.specs.Prelude.{slice_get, slice_set, bit_or}
use Rattle.std.proofs.lemmas.Bool.{false≢true, and_parts, or_cases}
use Rattle.std.proofs.lemmas.List.{length-replicate, length-set}
use Rattle.std.proofs.lemmas.Option.{slice_get_within}
use Rattle.nvm_base.proofs.Lists.{all_at}
use mathlib.Core.Logic.{◌⊎◌}
use Rattle.ir.specs.declared.instruction.Instruction.{Instruction}
use Rattle.ir.specs.declared.instruction.Instruction.TheVariants.{Const, Copy, Bin, Jump, Branch}
use Rattle.ir.specs.declared.instruction.Instruction.TheVariants.{Load, Store, New, Free, Call}
use Rattle.ir.specs.declared.instruction.Instruction.TheVariants.{Return, Tick, Trap, Log}
use Rattle.ir.specs.declared.function.IrFunction.{IrFunction}
use Rattle.ir.specs.declared.function.Ir.{Ir}
use Rattle.ir.specs.declared.fact.Fact.{Fact}
use Rattle.ir.specs.declared.fact.Fact.TheVariants.{Here, Unwritten, RootUnwritten, ReadRoot}
use Rattle.ir.specs.declared.fact.Fact.TheVariants.{ReadField, Freed}
use Rattle.ir.specs.declared.fact.Origins.{Origins}
use Rattle.ir.specs.declared.fact.Origins.TheVariants.{Nowhere, One, Two}
use Rattle.ir.specs.declared.fact.Back.{Back}
use Rattle.ir.specs.declared.fact.Back.TheVariants.{FromReturn, Stays}
use Rattle.ir.specs.Places.{instruction_at, Leads, ReturnsAt}
use Rattle.ir.specs.Table.{AmongOrigins, origins, at_call, back}
use Rattle.ir.specs.Derived.{Passes}
use Rattle.ir.specs.Derived.Passes.{starts, along, through, past}
use Rattle.ir.specs.WellFormed.{IsInstruction, IsFunction, IsWellFormed}
use Rattle.clobber_pass.specs.declared.topic.Topic.{Topic}
use Rattle.clobber_pass.specs.inside.Class.{Class, class_at, is_about, slot}
use Rattle.clobber_pass.specs.Row.{word, has_bit, tells}
use Rattle.clobber_pass.specs.inside.Row.{after_row}
use Rattle.clobber_pass.specs.inside.Told.{tells_any, row_width, parameters_at}
use Rattle.clobber_pass.specs.Sweep.{row_in}
use Rattle.clobber_pass.specs.inside.Sweep.{exits_of, exit, call_from, next_row, jump_target}
use Rattle.clobber_pass.specs.inside.Sweep.{or_from, row_joined, join_in, meet_in, row_or, here_in}
use Rattle.clobber_pass.specs.inside.Sweep.{rows_led, swept}
use Rattle.clobber_pass.specs.inside.Sound.{Backed, SoundExits}
use Rattle.clobber_pass.specs.inside.Closed.{Stage, Reached, one_word_row}
use Rattle.clobber_pass.specs.inside.Closed.Stage.{Table, RowAt}
use Rattle.clobber_pass.specs.inside.Closed.Reached.{none, again, raised, taken, picked, dropped}
use Rattle.clobber_pass.specs.inside.Closed.Reached.{leads, goes}
use Rattle.clobber_pass.proofs.steps.About.{about_origins, about_at_call, about_return, about_stays}
use Rattle.clobber_pass.proofs.steps.Fits.{args_count}
use Rattle.clobber_pass.proofs.bits.Bits.{has_bit_zero, has_bit_and, has_bit_or}
use Rattle.clobber_pass.proofs.steps.Steps.{at_same}
use Rattle.clobber_pass.proofs.steps.After.{after_told, length_after}
use Rattle.clobber_pass.proofs.steps.Calls.{word_call, length_call, Entry, Brings, gather_out}
use Rattle.clobber_pass.proofs.steps.Calls.{entry_is, By, after_by}
use Rattle.clobber_pass.proofs.bits.Joins.{tells_inside, word_zeros, length_or, or_out, set_out}
use Rattle.clobber_pass.proofs.bits.Joins.{row_in_set, row_in_replicate}

-- that a walk is here comes only from a walk that is here
pub here_only : (functions : List IrFunction) {f o p : ℕ} {e b : Fact} → Passes functions f o e p b
    → b ≡ Here → e ≡ Here
here_only functions starts is = is
here_only functions (along {a = a} i d there to m) is =
    here_only functions d (subst (λ c. AmongOrigins a (origins i c)) is m)
here_only functions (through {to = to} {args = args} {x = x} {y = y} d call r ret same) is =
    let returned : FromReturn Here ≡ FromReturn y = sym (ap (back to args) is) ∙ same in
    let y_is : y ≡ Here = cc in
    let x_is : x ≡ Here = here_only functions r y_is in
    here_only functions d (ap (at_call args) x_is)
here_only functions (past {to = to} {args = args} d call r ret same) is =
    let no_way : FromReturn Here ≡ Stays = sym (ap (back to args) is) ∙ same in
    absurd cc

-- if any of the origins is recorded, one of them is
pub any_out : (row : List ℕ) (x : ℕ) (o : Origins) → tells_any row x o ≡ true
    → (a : Fact) × AmongOrigins a o × (tells row x (slot a) ≡ true)
any_out row x Nowhere h = absurd (false≢true h)
any_out row x (One a) h = (a, refl, h)
any_out row x (Two a b) h =
    ⊎_elim (λ (t : tells row x (slot a) ≡ true). (a, inl refl, t))
    (λ (t : tells row x (slot b) ≡ true). (b, inr refl, t))
    (or_cases (tells row x (slot a)) (tells row x (slot b)) h)

-- a jump changes no fact
pub jump_keeps : (place : ℕ) (b : Fact) → AmongOrigins b (origins (Jump place) b)
jump_keeps place Here = refl
jump_keeps place (Unwritten r s x) = refl
jump_keeps place (RootUnwritten x) = refl
jump_keeps place (ReadRoot x) = refl
jump_keeps place (ReadField s x) = refl
jump_keeps place Freed = refl

pub branch_keeps : (on place : ℕ) (b : Fact) → AmongOrigins b (origins (Branch on place) b)
branch_keeps on place Here = refl
branch_keeps on place (Unwritten r s x) = refl
branch_keeps on place (RootUnwritten x) = refl
branch_keeps on place (ReadRoot x) = refl
branch_keeps on place (ReadField s x) = refl
branch_keeps on place Freed = refl

-- The facts of one function, closed under its steps: a fact may hold at each place, and after the
-- last place if it holds at a return.
pub record Steps (ir : Ir) (f : ℕ) (u : IrFunction) (At : ℕ → Fact → Type 0) : Type 0 where
  pub along : (p q : ℕ) (i : Instruction) (a b : Fact) → slice_get u.code p ≡ Some i → Leads i p q
      → q < length u.code → AmongOrigins a (origins i b) → At p a → At q b
  pub through : (p g to q : ℕ) (args : List ℕ) (x y b : Fact)
      → slice_get u.code p ≡ Some (Call to g args) → suc p < length u.code → At p (at_call args x)
      → Passes ir.functions g 0 x q y → ReturnsAt ir.functions g q → back to args b ≡ FromReturn y
      → At (suc p) b
  pub past : (p g to q : ℕ) (args : List ℕ) (b : Fact) → slice_get u.code p ≡ Some (Call to g args)
      → suc p < length u.code → At p b → Passes ir.functions g 0 Here q Here
      → ReturnsAt ir.functions g q → back to args b ≡ Stays → At (suc p) b
  pub ends : (p from : ℕ) (b : Fact) → slice_get u.code p ≡ Some (Return from) → At p b
      → At (length u.code) b

module _ (ir : Ir) (well : IsWellFormed ir) (topic : Topic) (exits : List (List (List ℕ)))
    (sound : SoundExits ir.functions topic exits) (x : ℕ) (few : x < 16)
    (f : ℕ) (u : IrFunction) (there : slice_get ir.functions f ≡ Some u) (At : ℕ → Fact → Type 0)
    (steps : Steps ir f u At) where
  abbrev class : Class
  class = class_at topic x

  abbrev end : ℕ
  end = length u.code

  abbrev pub Sound : ℕ → List ℕ → Type 0
  Sound p row = (b : Fact) → is_about class b ≡ true → tells row x (slot b) ≡ true → At p b

  abbrev pub GoodRow : ℕ → List ℕ → Type 0
  GoodRow p row = (length row ≡ row_width topic u.registers) × Sound p row

  abbrev pub GoodOrNone : ℕ → List ℕ → Type 0
  GoodOrNone p row = (row ≡ []) ⊎ GoodRow p row

  abbrev pub Good : List (List ℕ) → Type 0
  Good rows = (q : ℕ) → GoodOrNone q (row_in rows q)

  pub good_set : (rows : List (List ℕ)) (p : ℕ) (row : List ℕ) → Good rows → GoodOrNone p row
      → Good (slice_set rows p row)
  good_set rows p row all one q =
      ⊎_elim
      (λ (same : row_in (slice_set rows p row) q ≡ row_in rows q).
      subst (GoodOrNone q) (sym same) (all q))
      (λ (h : (q ≡ p) × (row_in (slice_set rows p row) q ≡ row)).
      subst (GoodOrNone q) (sym h.1) (subst (λ r. GoodOrNone r row) (sym h.0) one))
      (row_in_set rows p row q)

  sound_or : (p : ℕ) (row more : List ℕ) → Sound p row → Sound p more → Sound p (or_from more 0 row)
  sound_or p row more one other b about h =
      ⊎_elim (λ (t : tells row x (slot b) ≡ true). one b about t)
      (λ (t : tells more x (slot b) ≡ true). other b about t) (or_out more row x (slot b) h)

  good_or : (p : ℕ) (row more : List ℕ) → GoodRow p row → GoodRow p more
      → GoodRow p (or_from more 0 row)
  good_or p row more one other = (length_or more row 0 ∙ one.0, sound_or p row more one.1 other.1)

  good_met : (p : ℕ) (row more : List ℕ) → GoodOrNone p row → GoodRow p more
      → GoodOrNone p (or_from more 0 row)
  good_met p row more (inl is) other = inl (ap (or_from more 0) is)
  good_met p row more (inr one) other = inr (good_or p row more one other)

  good_joined : (p : ℕ) (row more : List ℕ) → GoodOrNone p row → GoodRow p more
      → GoodOrNone p (row_joined row more)
  good_joined p [] more one other = inr other
  good_joined p (w ∷ ws) more (inl is) other = absurd cc
  good_joined p (w ∷ ws) more (inr one) other = inr (good_or p (w ∷ ws) more one other)

  pub good_pick : (p : ℕ) (row more : List ℕ) → GoodOrNone p row → GoodRow p more
      → GoodRow p (row_or row more)
  good_pick p [] more one other = other
  good_pick p (w ∷ ws) more (inl is) other = absurd cc
  good_pick p (w ∷ ws) more (inr one) other = one

  good_meet : (rows : List (List ℕ)) (p : ℕ) (row : List ℕ) → Good rows → GoodRow p row
      → Good (meet_in rows p row)
  good_meet rows p row all one =
      good_set rows p (or_from row 0 (row_in rows p)) all
      (good_met p (row_in rows p) row (all p) one)

  good_here : (rows : List (List ℕ)) (p : ℕ) (row : List ℕ) → Good rows → GoodRow p row
      → GoodRow p (here_in rows p row)
  good_here rows p row all one =
      good_pick p (row_in (meet_in rows p row) p) row (good_meet rows p row all one p) one

  pub good_join : (rows : List (List ℕ)) (p : ℕ) (row : List ℕ) → Good rows → GoodRow p row
      → Good (join_in rows p row)
  good_join rows p row all one =
      good_set rows p (row_joined (row_in rows p) row) all
      (good_joined p (row_in rows p) row (all p) one)

  whole : IsFunction ir u
  whole = all_at (IsFunction ir) ir.functions f u well.1 there

  well_at : (p : ℕ) (i : Instruction) → slice_get u.code p ≡ Some i
      → IsInstruction ir u.registers end i
  well_at p i is = all_at (IsInstruction ir u.registers end) u.code p i whole.3 is

  code_at : (p : ℕ) (i : Instruction) → slice_get u.code p ≡ Some i
      → instruction_at ir.functions f p ≡ Some i
  code_at p i is = rw there is

  -- the place, other than the next one, to which an instruction leads
  good_lead : (p q : ℕ) (i : Instruction) (row : List ℕ) → slice_get u.code p ≡ Some i
      → jump_target end i ≡ Some q → GoodRow p row → GoodRow q row
  good_lead p q (Jump place) row is to one =
      let same : place ≡ q = cc in
      subst (λ r. GoodRow r row) same (
        one.0,
        λ b about t.
            steps.along p place (Jump place) b b is refl (well_at p (Jump place) is)
            (jump_keeps place b) (one.1 b about t),
      )
  good_lead p q (Branch on place) row is to one =
      let same : place ≡ q = cc in
      subst (λ r. GoodRow r row) same (
        one.0,
        λ b about t.
            steps.along p place (Branch on place) b b is (inr refl)
            (well_at p (Branch on place) is).1
            (branch_keeps on place b) (one.1 b about t),
      )
  good_lead p q (Return from) row is to one =
      let same : end ≡ q = cc in
      subst (λ r. GoodRow r row) same
      (one.0, λ b about t. steps.ends p from b is (one.1 b about t))
  good_lead p q (Const reg v) row is to one = absurd cc
  good_lead p q (Copy reg from) row is to one = absurd cc
  good_lead p q (Bin op reg left right) row is to one = absurd cc
  good_lead p q (Load reg t) row is to one = absurd cc
  good_lead p q (Store t from line) row is to one = absurd cc
  good_lead p q (New reg kind log_fill line) row is to one = absurd cc
  good_lead p q (Free from kind line) row is to one = absurd cc
  good_lead p q (Call reg g args) row is to one = absurd cc
  good_lead p q Tick row is to one = absurd cc
  good_lead p q (Trap kind) row is to one = absurd cc
  good_lead p q (Log t) row is to one = absurd cc

  good_led : (p : ℕ) (i : Instruction) (rows : List (List ℕ)) (row : List ℕ)
      → slice_get u.code p ≡ Some i → Good rows → GoodRow p row
      → Good (rows_led rows (jump_target end i) row)
  good_led p i rows row is all one = led (jump_target end i) refl
    where
      led : (to : Option ℕ) → jump_target end i ≡ to → Good (rows_led rows to row)
      led None same = all
      led (Some q) same = good_join rows q row all (good_lead p q i row is same one)

  -- the place after an instruction that is no call and leads to the next place
  good_after : (p : ℕ) (i : Instruction) (row : List ℕ) → slice_get u.code p ≡ Some i
      → Leads i p (suc p) → suc p < end → GoodRow p row → GoodRow (suc p) (after_row topic i row)
  good_after p i row is to inside one = (length_after topic i row ∙ one.0, told)
    where
      told : Sound (suc p) (after_row topic i row)
      told b about t = from (any_out row x (origins i b)
          (sym (after_told ir topic u.registers end x row i b few one.0 (well_at p i is) about)
          ∙ t))
        where
          from : (a : Fact) × AmongOrigins a (origins i b) × (tells row x (slot a) ≡ true)
              → At (suc p) b
          from (a, m, t) = steps.along p (suc p) i a b is to inside m
              (one.1 a (about_origins class i b about a m) t)

  good_zeros : (p q : ℕ) (row : List ℕ) → GoodRow p row → GoodRow q (replicate (length row) 0)
  good_zeros p q row one = (
    length-replicate (length row) 0 ∙ one.0,
    λ b about t.
        absurd (false≢true (sym (ap (has_bit x) (word_zeros (length row) (slot b)) ∙ has_bit_zero x)
        ∙ t)),
  )

  good_call : (p to g : ℕ) (args row : List ℕ) → slice_get u.code p ≡ Some (Call to g args)
      → suc p < end → GoodRow p row →
      GoodRow (suc p) (call_from (exits_of exits g) to args row 0 row)
  good_call p to g args row is inside one =
      (length_call (exits_of exits g) to args row ∙ one.0, told)
    where
      count : length args ≡ parameters_at ir.functions g
      count = args_count ir well f p g to args (code_at p (Call to g args) is)

      told : Sound (suc p) (call_from (exits_of exits g) to args row 0 row)
      told b about t = by (back to args b) refl
          (ap (has_bit x) (sym (after_by (exits_of exits g) to args row b))
          ∙ ap (has_bit x) (sym (word_call (exits_of exits g) to args row (slot b) less)) ∙ t)
        where
          less : slot b < length row
          less = subst (λ n. slot b < n) (length_call (exits_of exits g) to args row)
              (tells_inside (call_from (exits_of exits g) to args row 0 row) x (slot b) t)

          by : (k : Back) → back to args b ≡ k
              → has_bit x (By (exits_of exits g) to args row k (slot b)) ≡ true → At (suc p) b
          by (FromReturn y) same h = from (gather_out (exits_of exits g) row x args (slot y) h)
            where
              from : (c : ℕ) × (at : ℕ) × Entry args c at × Brings (exits_of exits g) row x c
                  at (slot y) → At (suc p) b
              from (c, at, entry, brings) = backed
                  (sound.backed x g c y few (about_return class to args b y about same) brings.0)
                where
                  backed : Backed ir.functions class g c y → At (suc p) b
                  backed (e, q, about_e, in_column, d, ret) =
                      let at_is : slot (at_call args e) ≡ at =
                      entry_is args (parameters_at ir.functions g) e c at count in_column entry in
                      steps.through p g to q args e y b is inside
                      (one.1 (at_call args e) (about_at_call class args e about_e)
                      (ap (tells row x) at_is ∙ brings.1)) d ret same
          by Stays same h = backed (sound.backed x g 0 Here few
              (about_stays class to args b about same) parts.0)
            where
              parts : (has_bit x (exit (exits_of exits g) 0 0) ≡ true)
                  × (tells row x (slot b) ≡ true)
              parts = and_parts (has_bit x (exit (exits_of exits g) 0 0)) (tells row x (slot b))
                  (sym (has_bit_and x (exit (exits_of exits g) 0 0) (word row (slot b))) ∙ h)

              backed : Backed ir.functions class g 0 Here → At (suc p) b
              backed (e, q, about_e, in_column, d, ret) =
                  steps.past p g to q args b is inside (one.1 b about parts.1)
                  (subst (λ c. Passes ir.functions g 0 c q Here) (here_only ir.functions d refl)
                  d) ret same

  pub good_next : (p : ℕ) (i : Instruction) (row : List ℕ) → slice_get u.code p ≡ Some i
      → suc p < end → GoodRow p row → GoodRow (suc p) (next_row topic exits i row)
  good_next p (Jump place) row is inside one = good_zeros p (suc p) row one
  good_next p (Return from) row is inside one = good_zeros p (suc p) row one
  good_next p (Trap kind) row is inside one = good_zeros p (suc p) row one
  good_next p (Call to g args) row is inside one = good_call p to g args row is inside one
  good_next p (Const to v) row is inside one = good_after p (Const to v) row is refl inside one
  good_next p (Copy to from) row is inside one = good_after p (Copy to from) row is refl inside one
  good_next p (Bin op to left right) row is inside one =
      good_after p (Bin op to left right) row is refl inside one
  good_next p (Branch on place) row is inside one =
      good_after p (Branch on place) row is (inl refl) inside one
  good_next p (Load to t) row is inside one = good_after p (Load to t) row is refl inside one
  good_next p (Store t from line) row is inside one =
      good_after p (Store t from line) row is refl inside one
  good_next p (New to kind log_fill line) row is inside one =
      good_after p (New to kind log_fill line) row is refl inside one
  good_next p (Free from kind line) row is inside one =
      good_after p (Free from kind line) row is refl inside one
  good_next p Tick row is inside one = good_after p Tick row is refl inside one
  good_next p (Log t) row is inside one = good_after p (Log t) row is refl inside one

  -- the code from a place on
  abbrev pub Rest : ℕ → List Instruction → Type 0
  Rest p rest = (k : ℕ) → slice_get rest k ≡ slice_get u.code (p + k)

  swept_good_from : (rest : List Instruction) (rows : List (List ℕ)) (row : List ℕ) (p : ℕ)
      → Rest p rest → Good rows → (p < end → GoodRow p row)
      → Good (swept topic exits end rows row p rest)
  swept_good_from [] rows row p same all one = all
  swept_good_from (i ∷ is) rows row p same all one =
      swept_good_from is (rows_led (meet_in rows p row) (jump_target end i) (here_in rows p row))
      (next_row topic exits i (here_in rows p row)) (p + 1) later
      (good_led p i (meet_in rows p row) (here_in rows p row)
      at (good_meet rows p row all (one inside)) (good_here rows p row all (one inside)))
      (λ (less : p + 1 < end). subst (λ q. GoodRow q (next_row topic exits i (here_in rows p row)))
      next (good_next p i (here_in rows p row) at (subst (λ q. q < end) (sym next) less)
      (good_here rows p row all (one inside))))
    where
      next : suc p ≡ p + 1
      next = omega arith

      first : p + 0 ≡ p
      first = omega arith

      at : slice_get u.code p ≡ Some i
      at = subst (λ q. slice_get u.code q ≡ Some i) first (sym (same 0))

      inside : p < end
      inside = slice_get_within u.code p i at

      later : Rest (p + 1) is
      later k = let moved : p + suc k ≡ (p + 1) + k = omega arith in
          same (suc k) ∙ ap (slice_get u.code) moved

  -- a sweep keeps a table good
  pub swept_good : (rows : List (List ℕ)) (row : List ℕ) → Good rows → (0 < end → GoodRow 0 row)
      → Good (swept topic exits end rows row 0 u.code)
  swept_good rows row all one = swept_good_from u.code rows row 0
      (λ k. let e : k ≡ 0 + k = omega arith in ap (slice_get u.code) e) all one

  pub none_good : (n : ℕ) → Good (replicate n [])
  none_good n q = inl (row_in_replicate n q)

  -- a row with one word, all of whose facts hold
  good_only : (p n s w : ℕ) → n ≡ row_width topic u.registers
      → ((b : Fact) → is_about class b ≡ true → slot b ≡ s → has_bit x w ≡ true → At p b)
      → GoodRow p (one_word_row n s w)
  good_only p n s w long holds = (
    length-set (replicate n 0) s w ∙ length-replicate n 0 ∙ long,
    λ b about h.
        ⊎_elim
        (λ (t : tells (replicate n 0) x (slot b) ≡ true). absurd (false≢true
        (sym (ap (has_bit x) (word_zeros n (slot b)) ∙ has_bit_zero x) ∙ t)))
        (λ (e : (slot b ≡ s) × (s < length (replicate n 0)) × (has_bit x w ≡ true)).
        holds b about e.0 e.2)
        (set_out (replicate n 0) s w (slot b) x h),
  )

  sound_at : (p : ℕ) (row : List ℕ) (s : ℕ) (b : Fact) → Sound p row → is_about class b ≡ true
      → slot b ≡ s → tells row x s ≡ true → At p b
  sound_at p row s b one about same t =
      one b about (subst (λ k. tells row x k ≡ true) (sym same) t)

  good_dropped : (p : ℕ) (row : List ℕ) (s : ℕ) → GoodRow p row → GoodRow p (slice_set row s 0)
  good_dropped p row s one = (
    length-set row s 0 ∙ one.0,
    λ b about h.
        ⊎_elim (λ (t : tells row x (slot b) ≡ true). one.1 b about t)
        (λ (e : (slot b ≡ s) × (s < length row) × (has_bit x 0 ≡ true)).
        absurd (false≢true (sym (has_bit_zero x) ∙ e.2)))
        (set_out row s 0 (slot b) x h),
  )

  good_raised : (p n : ℕ) (row : List ℕ) (s w : ℕ) → n ≡ row_width topic u.registers
      → GoodOrNone p row → GoodRow p (one_word_row n s w)
      → GoodOrNone p (slice_set row s (bit_or (word row s) w))
  good_raised p n row s w long (inl is) more =
      inl (ap (λ r. slice_set r s (bit_or (word r s) w)) is)
  good_raised p n row s w long (inr one) more =
      inr (length-set row s (bit_or (word row s) w) ∙ one.0, told)
    where
      added : (b : Fact) → is_about class b ≡ true → slot b ≡ s → s < length row
          → has_bit x w ≡ true → At p b
      added b about same inside t =
          let within : s < length (replicate n 0) =
          omega (arith, length-replicate {A = ℕ} n 0, long, one.0) in
          sound_at p (one_word_row n s w) s b more.1 about same
          (ap (has_bit x) (at_same (replicate n 0) s w within) ∙ t)

      told : Sound p (slice_set row s (bit_or (word row s) w))
      told b about h =
          ⊎_elim (λ (t : tells row x (slot b) ≡ true). one.1 b about t)
          (λ (e : (slot b ≡ s) × (s < length row) × (has_bit x (bit_or (word row s) w) ≡ true)).
          ⊎_elim (λ (t : has_bit x (word row s) ≡ true). sound_at p row s b one.1 about e.0 t)
          (λ (t : has_bit x w ≡ true). added b about e.0 e.1 t)
          (or_cases (has_bit x (word row s)) (has_bit x w)
          (sym (has_bit_or x (word row s) w) ∙ e.2)))
          (set_out row s (bit_or (word row s) w) (slot b) x h)

  word_holds : (p : ℕ) (row : List ℕ) (s : ℕ) (b : Fact) → GoodOrNone p row
      → is_about class b ≡ true → slot b ≡ s → has_bit x (word row s) ≡ true → At p b
  word_holds p row s b (inl is) about same t =
      absurd (false≢true (sym (has_bit_zero x) ∙ subst (λ r. tells r x s ≡ true) is t))
  word_holds p row s b (inr one) about same t = sound_at p row s b one.1 about same t

  -- what sweeps make from an entry's row, with single words carried on in between
  module _ (entry : List ℕ) (long : length entry ≡ row_width topic u.registers)
      (begins : 0 < end → GoodRow 0 entry) where
    abbrev GoodStage : Stage → Type 0
    GoodStage (Table rows) = Good rows
    GoodStage (RowAt p row) = GoodRow p row

    pub reached_good : {stage : Stage} → Reached topic exits entry u.code stage → GoodStage stage
    reached_good none = none_good (length u.code + 1)
    reached_good (again rows made) = swept_good rows entry (reached_good made) begins
    reached_good (raised rows p s w made at) =
        let all : Good rows = reached_good made in
        good_set rows p (slice_set (row_in rows p) s (bit_or (word (row_in rows p) s) w)) all
        (good_raised p (length entry) (row_in rows p) s w long (all p) (reached_good at))
    reached_good (taken rows p s made) =
        let all : Good rows = reached_good made in
        good_only p (length entry) s (word (row_in rows p) s) long
        (λ b about same t. word_holds p (row_in rows p) s b (all p) about same t)
    reached_good (picked p row s at) =
        let one : GoodRow p row = reached_good at in
        good_only p (length entry) s (word row s) long
        (λ b about same t. sound_at p row s b one.1 about same t)
    reached_good (dropped p row s at) = good_dropped p row s (reached_good at)
    reached_good (leads p q i row is to at) = good_lead p q i row is to (reached_good at)
    reached_good (goes p i row is inside at) = good_next p i row is inside (reached_good at)
