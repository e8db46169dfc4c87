-- The facts that a closed table records stay recorded along each step of its function.
use Rattle.std.proofs.Common.{◌≡◌, ◌<◌, ◌+◌, ℕ, suc, Bool, true, List, Option, Some, length, refl}
use Rattle.std.proofs.Common.{sym, ◌∙◌, ap, subst, arith, inl, inr}
use Rattle.std.specs.Prelude.{slice_get}
use Rattle.std.proofs.lemmas.Bool.{and_from, lt-ltb}
use Rattle.nvm_base.proofs.Lists.{all_at}
use Rattle.ir.specs.declared.instruction.Instruction.{Instruction}
use Rattle.ir.specs.declared.instruction.Instruction.TheVariants.{Const, Copy, Bin, Jump, Branch}
use Rattle.ir.specs.declared.instruction.Instruction.TheVariants.{Load, Store, New, Free, Call}
use Rattle.ir.specs.declared.instruction.Instruction.TheVariants.{Return, Tick, Trap, Log}
use Rattle.ir.specs.declared.function.IrFunction.{IrFunction}
use Rattle.ir.specs.declared.function.Ir.{Ir}
use Rattle.ir.specs.declared.fact.Fact.{Fact}
use Rattle.ir.specs.declared.fact.Fact.TheVariants.{Here}
use Rattle.ir.specs.declared.fact.Back.TheVariants.{FromReturn, Stays}
use Rattle.ir.specs.Places.{instruction_at, Leads, CallsAt}
use Rattle.ir.specs.Table.{AmongOrigins, origins, at_call, back}
use Rattle.ir.specs.WellFormed.{IsInstruction, IsFunction, IsWellFormed}
use Rattle.clobber_pass.specs.declared.topic.Topic.{Topic}
use Rattle.clobber_pass.specs.inside.Class.{Class, class_at, slot}
use Rattle.clobber_pass.specs.Row.{word, has_bit, tells}
use Rattle.clobber_pass.specs.inside.Row.{after_row}
use Rattle.clobber_pass.specs.inside.Told.{row_width, column, parameters_at, Fits, Matters}
use Rattle.clobber_pass.specs.Sweep.{row_in}
use Rattle.clobber_pass.specs.inside.Sweep.{exits_of, exit, next_row, jump_target, join_in}
use Rattle.clobber_pass.specs.inside.Sweep.{rows_led}
use Rattle.clobber_pass.specs.inside.Closed.{Closed, row_reaching, seen_in_row, told_in, Shaped}
use Rattle.clobber_pass.specs.inside.Closed.{pass_in}
use Rattle.clobber_pass.specs.inside.Law.{StaysTold}
use Rattle.clobber_pass.proofs.steps.Fits.{args_count, registers_there}
use Rattle.clobber_pass.proofs.bits.Bits.{has_bit_and}
use Rattle.clobber_pass.proofs.steps.After.{after_told}
use Rattle.clobber_pass.proofs.steps.Calls.{word_call, gather_in, entry_of, By, after_by}
use Rattle.clobber_pass.proofs.bits.Joins.{tells_inside}
use Rattle.clobber_pass.proofs.steps.Fits.{standing}
use Rattle.clobber_pass.proofs.closed.Reached.{any_in, jump_back, branch_back, slot_inside, wide}
use Rattle.clobber_pass.proofs.closed.Reached.{brought}
use Rattle.clobber_pass.proofs.closed.Reached.{Place, place_at, told_where}

here_column : (n : ℕ) → column n Here ≡ 0
here_column n = let inside : 0 < n + 2 = omega arith in rw (lt-ltb 0 (n + 2) inside) refl

module _ (ir : Ir) (well : IsWellFormed ir) (topic : Topic) (exits : List (List (List ℕ))) (x : ℕ)
    (few : x < 16)
    (f : ℕ) (u : IrFunction) (there : slice_get ir.functions f ≡ Some u) (rows : List (List ℕ))
    (entry : List ℕ)
    (shape : Shaped (row_width topic u.registers) rows) (count : length rows ≡ length u.code + 1)
    (size : length entry ≡ row_width topic u.registers)
    (closed : Closed topic exits (length u.code) rows entry 0 u.code) where
  abbrev class : Class
  class = class_at topic x

  abbrev end : ℕ
  end = length u.code

  abbrev long : ℕ
  long = row_width topic u.registers

  abbrev pub told : ℕ → Fact → Bool
  told = told_in topic exits rows entry u.code x

  abbrev row_at : ℕ → Option (List ℕ)
  row_at = row_reaching topic exits rows entry 0 u.code

  -- the instruction at a place
  pub code_of : (p : ℕ) (i : Instruction) → instruction_at ir.functions f p ≡ Some i
      → slice_get u.code p ≡ Some i
  code_of p i is =
      let s = standing ir f p i well is in
      let same : Some s.body ≡ Some u = sym s.there ∙ there in
      let body_is : s.body ≡ u = cc in
      subst (λ v. slice_get v.code p ≡ Some i) body_is s.at

  well_of : (p : ℕ) (i : Instruction) → slice_get u.code p ≡ Some i
      → IsInstruction ir u.registers end i
  well_of p i is = all_at (IsInstruction ir u.registers end) u.code p i
      (all_at (IsFunction ir) ir.functions f u well.1 there).3 is

  place : (p : ℕ) (i : Instruction) → slice_get u.code p ≡ Some i
      → Place topic exits end rows long (wide topic u.registers) shape x i p (row_at p)
      (row_at (suc p))
  place p i is =
      let first : 0 + p ≡ p = omega arith in
      subst (λ q. Place topic exits end rows long (wide topic u.registers) shape x i q (row_at p)
      (row_at (suc p))) first
      (place_at topic exits end rows long (wide topic u.registers) shape x u.code entry 0 p i
      closed size is)

  -- after an instruction that is no call
  after_step : (p : ℕ) (i : Instruction) (a b : Fact) → slice_get u.code p ≡ Some i
      → AmongOrigins a (origins i b) → Matters ir.functions class f b → told p a ≡ true
      → ((row : List ℕ) → next_row topic exits i row ≡ after_row topic i row)
      → told (suc p) b ≡ true
  after_step p i a b is m h t plain =
      let s = place p i is in
      let fits : Fits u.registers b =
      subst (λ n. Fits n b) (registers_there ir well f u there) h.1 in
      let before : tells s.here x (slot a) ≡ true =
      subst (λ o. seen_in_row x (slot a) o ≡ true) s.is t in
      s.next (slot b) (slot_inside topic u.registers x b h.0 fits)
      (ap (λ r. tells r x (slot b)) (plain s.here) ∙ after_told ir topic u.registers end x s.here i
      b few s.size (well_of p i is) h.0 ∙ any_in s.here x (origins i b) a m before)

  -- a place to which a row is brought
  led_step : (p q : ℕ) (i : Instruction) (b : Fact) → slice_get u.code p ≡ Some i
      → jump_target end i ≡ Some q → q < length rows → Matters ir.functions class f b
      → told p b ≡ true → tells (row_in rows q) x (slot b) ≡ true
  led_step p q i b is to inside h t =
      let s = place p i is in
      let before : tells s.here x (slot b) ≡ true =
      subst (λ o. seen_in_row x (slot b) o ≡ true) s.is t in
      let joined : join_in rows q s.here ≡ rows =
      subst (λ o. rows_led rows o s.here ≡ rows) to s.leads in
      brought rows long (wide topic u.registers) shape x q (slot b) s.here inside s.size joined
      (tells_inside s.here x (slot b) before) before

  jumped : (p q : ℕ) (i : Instruction) (b : Fact) → slice_get u.code p ≡ Some i
      → jump_target end i ≡ Some q → q < end → Matters ir.functions class f b → told p b ≡ true
      → told q b ≡ true
  jumped p q i b is to inside h t =
      let within : q < length rows = omega arith in
      let there_told = led_step p q i b is to within h t in
      told_where topic exits end rows long (wide topic u.registers) shape x u.code entry q (slot b)
      (tells_inside (row_in rows q) x (slot b) there_told) there_told

  abbrev Along : ℕ → ℕ → Instruction → Fact → Fact → Type 0
  Along p q i a b = slice_get u.code p ≡ Some i → Leads i p q → AmongOrigins a (origins i b)
      → Matters ir.functions class f b → told p a ≡ true → told q b ≡ true

  after_call_step : (p q : ℕ) (i : Instruction) (a b : Fact)
      → ((row : List ℕ) → next_row topic exits i row ≡ after_row topic i row)
      → slice_get u.code p ≡ Some i → q ≡ suc p → AmongOrigins a (origins i b)
      → Matters ir.functions class f b → told p a ≡ true → told q b ≡ true
  after_call_step p q i a b plain is to m h t =
      subst (λ k. told k b ≡ true) (sym to) (after_step p i a b is m h t plain)

  along_step : (p q : ℕ) (i : Instruction) (a b : Fact) → Along p q i a b
  along_step p q (Jump place) a b is to m h t =
      subst (λ k. told k b ≡ true) (sym to)
      (jumped p place (Jump place) b is refl (well_of p (Jump place) is) h
      (subst (λ c. told p c ≡ true) (jump_back place a b m) t))
  along_step p q (Branch on place) a b is (inl to) m h t =
      after_call_step p q (Branch on place) a b (λ row. refl) is to m h t
  along_step p q (Branch on place) a b is (inr to) m h t =
      subst (λ k. told k b ≡ true) (sym to)
      (jumped p place (Branch on place) b is refl (well_of p (Branch on place) is).1 h
      (subst (λ c. told p c ≡ true) (branch_back on place a b m) t))
  along_step p q (Call to_r g args) a b is to m h t = absurd to
  along_step p q (Return from) a b is to m h t = absurd to
  along_step p q (Trap kind) a b is to m h t = absurd to
  along_step p q (Const to_r v) a b is to m h t =
      after_call_step p q (Const to_r v) a b (λ row. refl) is to m h t
  along_step p q (Copy to_r from) a b is to m h t =
      after_call_step p q (Copy to_r from) a b (λ row. refl) is to m h t
  along_step p q (Bin op to_r left right) a b is to m h t =
      after_call_step p q (Bin op to_r left right) a b (λ row. refl) is to m h t
  along_step p q (Load to_r jump_target) a b is to m h t =
      after_call_step p q (Load to_r jump_target) a b (λ row. refl) is to m h t
  along_step p q (Store jump_target from line) a b is to m h t =
      after_call_step p q (Store jump_target from line) a b (λ row. refl) is to m h t
  along_step p q (New to_r kind log_fill line) a b is to m h t =
      after_call_step p q (New to_r kind log_fill line) a b (λ row. refl) is to m h t
  along_step p q (Free from kind line) a b is to m h t =
      after_call_step p q (Free from kind line) a b (λ row. refl) is to m h t
  along_step p q Tick a b is to m h t = after_call_step p q Tick a b (λ row. refl) is to m h t
  along_step p q (Log jump_target) a b is to m h t =
      after_call_step p q (Log jump_target) a b (λ row. refl) is to m h t

  -- what comes back from a call
  call_step : (p to g : ℕ) (args : List ℕ) (b : Fact) → slice_get u.code p ≡ Some (Call to g args)
      → Matters ir.functions class f b
      → ((here : List ℕ) → row_at p ≡ Some here
      → has_bit x (By (exits_of exits g) to args here (back to args b) (slot b)) ≡ true)
      → told (suc p) b ≡ true
  call_step p to g args b is h gives =
      let s = place p (Call to g args) is in
      let fits : Fits u.registers b =
      subst (λ n. Fits n b) (registers_there ir well f u there) h.1 in
      let inside : slot b < long = slot_inside topic u.registers x b h.0 fits in
      let less : slot b < length s.here = subst (λ n. slot b < n) (sym s.size) inside in
      s.next (slot b) inside
      (ap (has_bit x) (word_call (exits_of exits g) to args s.here (slot b) less
      ∙ after_by (exits_of exits g) to args s.here b) ∙ gives s.here s.is)

  pub stays_told : StaysTold ir.functions class (pass_in ir.functions exits x) f told
  stays_told = record {
    along = λ p q i a b is to m h t. along_step p q i a b (code_of p i is) to m h t;
    through = λ p g to args y z b call hy h pass same t.
        through_step p g to args y z b call h pass same t;
    past = λ p g to args b call h pass same t. past_step p g to args b call h pass same t;
  }
    where
      through_step : (p g to : ℕ) (args : List ℕ) (y z b : Fact)
          → CallsAt ir.functions f p to g args → Matters ir.functions class f b
          → pass_in ir.functions exits x g y z ≡ true → back to args b ≡ FromReturn z
          → told p (at_call args y) ≡ true → told (suc p) b ≡ true
      through_step p g to args y z b call h pass same t =
          call_step p to g args b (code_of p (Call to g args) call) h gives
        where
          gives : (here : List ℕ) → row_at p ≡ Some here
              → has_bit x (By (exits_of exits g) to args here (back to args b) (slot b)) ≡ true
          gives here is =
              let before : tells here x (slot (at_call args y)) ≡ true =
              subst (λ o. seen_in_row x (slot (at_call args y)) o ≡ true) is t in
              subst (λ k. has_bit x (By (exits_of exits g) to args here k (slot b)) ≡ true)
              (sym same)
              (gather_in (exits_of exits g) here x args (slot z)
              (column (parameters_at ir.functions g) y) (slot (at_call args y))
              (entry_of args (parameters_at ir.functions g)
              (args_count ir well f p g to args call) y) (pass, before))

      past_step : (p g to : ℕ) (args : List ℕ) (b : Fact) → CallsAt ir.functions f p to g args
          → Matters ir.functions class f b → pass_in ir.functions exits x g Here Here ≡ true
          → back to args b ≡ Stays → told p b ≡ true → told (suc p) b ≡ true
      past_step p g to args b call h pass same t =
          call_step p to g args b (code_of p (Call to g args) call) h gives
        where
          gives : (here : List ℕ) → row_at p ≡ Some here
              → has_bit x (By (exits_of exits g) to args here (back to args b) (slot b)) ≡ true
          gives here is =
              let before : tells here x (slot b) ≡ true =
              subst (λ o. seen_in_row x (slot b) o ≡ true) is t in
              let returns : has_bit x (exit (exits_of exits g) 0 0) ≡ true =
              subst (λ c. has_bit x (exit (exits_of exits g) c 0) ≡ true)
              (here_column (parameters_at ir.functions g)) pass in
              subst (λ k. has_bit x (By (exits_of exits g) to args here k (slot b)) ≡ true)
              (sym same)
              (has_bit_and x (exit (exits_of exits g) 0 0) (word here (slot b))
              ∙ and_from (has_bit x (exit (exits_of exits g) 0 0)) (tells here x (slot b))
              returns before)

  -- what is recorded at a return is recorded after the last place
  pub end_told : (p from : ℕ) (b : Fact) → slice_get u.code p ≡ Some (Return from)
      → Matters ir.functions class f b → told p b ≡ true → tells (row_in rows end) x (slot b) ≡ true
  end_told p from b is h t = let inside : end < length rows = omega arith in
      led_step p end (Return from) b is refl inside h t
