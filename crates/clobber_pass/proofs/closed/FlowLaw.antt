-- The rows record every fact that walks have.
use Rattle.std.proofs.Common.{◌≡◌, ◌<◌, ◌≤◌, ◌+◌, ℕ, zero, suc, Bool, true, false, List, [], ◌∷◌}
use Rattle.std.proofs.Common.{Option, Some, None, length, refl, sym, ◌∙◌, ap, subst, arith}
use Rattle.std.specs.Prelude.{slice_get, option_and_then}
use Rattle.std.proofs.lemmas.Bool.{false≢true, le-ltb}
use Rattle.std.proofs.lemmas.Option.{slice_get_within}
use Rattle.ir.specs.declared.instruction.Instruction.{Instruction}
use Rattle.ir.specs.declared.instruction.Instruction.TheVariants.{Call}
use Rattle.ir.specs.declared.function.IrFunction.{IrFunction}
use Rattle.ir.specs.declared.function.Ir.{Ir}
use Rattle.ir.specs.declared.fact.Fact.{Fact}
use Rattle.ir.specs.declared.fact.Fact.TheVariants.{Here, Unwritten, RootUnwritten, ReadRoot}
use Rattle.ir.specs.declared.fact.Fact.TheVariants.{ReadField, Freed}
use Rattle.ir.specs.Places.{IsTransaction, CallsAt}
use Rattle.ir.specs.Walk.{at_start}
use Rattle.ir.specs.Table.{holds, at_call}
use Rattle.ir.specs.Derived.{Flows}
use Rattle.ir.specs.WellFormed.{IsWellFormed}
use Rattle.clobber_pass.specs.declared.topic.Topic.{Topic}
use Rattle.clobber_pass.specs.inside.Class.{Class, class_at, slot}
use Rattle.clobber_pass.specs.Row.{tells}
use Rattle.clobber_pass.specs.inside.Told.{row_width, column_of, registers_at, Fits, Matters}
use Rattle.clobber_pass.specs.Sweep.{row_in}
use Rattle.clobber_pass.specs.inside.Sweep.{exits_of, next_row, row_or}
use Rattle.clobber_pass.specs.inside.Closed.{row_reaching, seen_in_row, told_in, Shaped, pass_in}
use Rattle.clobber_pass.specs.inside.Calling.{CalledEnded}
use Rattle.clobber_pass.specs.inside.Sound.{SoundExits}
use Rattle.clobber_pass.specs.inside.Flow.{BroughtBy, AllBrought, SoundEntries, ShapedEntries}
use Rattle.clobber_pass.specs.inside.Flow.{StartEntries, at_entry, FlowIn, AllFlow}
use Rattle.clobber_pass.specs.inside.Law.{StaysTold, TellsFlows}
use Rattle.clobber_pass.proofs.steps.Fits.{registers_there}
use Rattle.clobber_pass.proofs.bits.Joins.{tells_inside}
use Rattle.clobber_pass.proofs.derived.Columns.{entry_in, length_made}
use Rattle.clobber_pass.proofs.closed.Reached.{slot_inside, wide, next_told, place_at, Place}
use Rattle.clobber_pass.proofs.closed.Stays.{stays_told, code_of}
use Rattle.clobber_pass.proofs.closed.Told.{flows_told}
use Rattle.clobber_pass.proofs.derived.Flowing.{enter_told, length_at_entry, flow_shaped}
use Rattle.clobber_pass.proofs.derived.Whole.{exits_tell_all}

-- what holds at the start of a walk is recorded in the first row
start_column : (e : Fact) → holds at_start e ≡ true → column_of 0 (slot e) ≡ 0
start_column Here h = refl
start_column (RootUnwritten y) h = refl
start_column (Unwritten r s y) h = let outside : 0 + 2 ≤ r + 2 = omega arith in
    rw (le-ltb (r + 2) (0 + 2) outside) refl
start_column (ReadRoot y) h = absurd (false≢true h)
start_column (ReadField s y) h = absurd (false≢true h)
start_column Freed h = absurd (false≢true h)

-- a row that records something is the row at the entry
at_entry_in : (topic : Topic) (registers : ℕ) (row : List ℕ) (x s : ℕ) → tells row x s ≡ true
    → tells (at_entry topic registers row) x s ≡ true
at_entry_in topic registers [] x s h = let nothing : s < length {A = ℕ} [] =
    tells_inside [] x s h in absurd (omega (arith, nothing))
at_entry_in topic registers (w ∷ ws) x s h = h

-- what a call at a place brings is recorded
brought_at : (functions : List IrFunction) (topic : Topic) (exits : List (List (List ℕ)))
    (rows entries : List (List ℕ)) (rest : List Instruction) (row : List ℕ) (p k : ℕ)
    (i : Instruction) (here : List ℕ)
    → AllBrought functions topic exits rows entries row p rest → slice_get rest k ≡ Some i
    → row_reaching topic exits rows row p rest k ≡ Some here
    → BroughtBy functions topic entries i here
brought_at functions topic exits rows entries [] row p k i here brought is there = absurd cc
brought_at functions topic exits rows entries (j ∷ js) row p zero i here (first, later) is there =
    let same : j ≡ i = cc in
    let here_is : row_or (row_in rows p) row ≡ here = cc in
    subst (BroughtBy functions topic entries i) here_is
    (subst (λ k. BroughtBy functions topic entries k (row_or (row_in rows p) row)) same first)
brought_at functions topic exits rows entries (j ∷ js) row p (suc k) i here (first, later)
    is there =
    brought_at functions topic exits rows entries js
    (next_row topic exits j (row_or (row_in rows p) row)) (p + 1) k i here later is there

module _ (ir : Ir) (well : IsWellFormed ir) (topic : Topic) (exits : List (List (List ℕ)))
    (sound : SoundExits ir.functions topic exits) (ended : CalledEnded ir.functions topic exits)
    (entries : List (List ℕ)) (begins : SoundEntries ir.functions topic entries)
    (shaped : ShapedEntries ir.functions topic entries)
    (start : StartEntries ir.functions topic entries)
    (tables : List (List (List ℕ))) (flow : AllFlow ir.functions topic exits entries tables) (x : ℕ)
    (few : x < 16) where
  abbrev class : Class
  class = class_at topic x

  pub flow_in : (f : ℕ) (u : IrFunction) → slice_get ir.functions f ≡ Some u
      → (row_in entries f ≡ [] → ⊥) →
      FlowIn ir.functions topic exits entries f (exits_of tables f) u
  flow_in f u there reached = (flow f (slice_get_within ir.functions f u there)).ends u
      there reached

  -- what is recorded of a function; nothing, if nothing reached its entry
  abbrev pub told_row : ℕ → IrFunction → List ℕ → ℕ → Fact → Bool
  told_row f u [] p b = false
  told_row f u (w ∷ ws) p b = told_in topic exits (exits_of tables f)
      (at_entry topic u.registers (row_in entries f)) u.code x p b

  abbrev pub told_by : ℕ → Option IrFunction → ℕ → Fact → Bool
  told_by f None p b = true
  told_by f (Some u) p b = told_row f u (row_in entries f) p b

  abbrev pub told : ℕ → ℕ → Fact → Bool
  told f p b = told_by f (slice_get ir.functions f) p b

  entry_there : (f : ℕ) (u : IrFunction) (is : slice_get ir.functions f ≡ Some u)
      (reached : row_in entries f ≡ [] → ⊥) (e : Fact) → Matters ir.functions class f e
      → tells (row_in entries f) x (slot e) ≡ true
      → told_in topic exits (exits_of tables f) (at_entry topic u.registers (row_in entries f))
      u.code x 0 e ≡ true
  entry_there f u is reached e h t =
      let fits : Fits u.registers e = subst (λ n. Fits n e) (registers_there ir well f u is) h.1 in
      let entry = at_entry topic u.registers (row_in entries f) in
      let size : length entry ≡ row_width topic u.registers =
      length_at_entry topic u.registers (row_in entries f) (shaped.each f u is) in
      next_told topic exits (length u.code) (exits_of tables f) (row_width topic u.registers)
      (wide topic u.registers) (flow_shaped ir well topic exits sound f u is entries begins shaped
      (flow_in f u is reached).made) x u.code entry 0 (slot e)
      (flow_in f u is reached).closed size
      (slot_inside topic u.registers x e h.0 fits)
      (at_entry_in topic u.registers (row_in entries f) x (slot e) t)

  -- what the row of an entry records is recorded at the entry
  entry_seen : (f : ℕ) (o : Option IrFunction) (is : slice_get ir.functions f ≡ o) (e : Fact)
      → Matters ir.functions class f e → tells (row_in entries f) x (slot e) ≡ true
      → told_by f o 0 e ≡ true
  entry_seen f None is e h t = refl
  entry_seen f (Some u) is e h t = by_row (row_in entries f) refl
    where
      by_row : (row : List ℕ) → row_in entries f ≡ row → told_row f u row 0 e ≡ true
      by_row [] none = let nothing : slot e < length {A = ℕ} [] =
          tells_inside [] x (slot e) (subst (λ r. tells r x (slot e) ≡ true) none t) in
          absurd (omega (arith, nothing))
      by_row (w ∷ ws) some = entry_there f u is (λ none. let no_way : w ∷ ws ≡ [] = sym some
          ∙ none in absurd cc) e h t

  begins_told : (f : ℕ) (e : Fact) → Matters ir.functions class f e → IsTransaction ir.functions f
      → holds at_start e ≡ true → told f 0 e ≡ true
  begins_told f e h (u, there, tx) held =
      let fits : Fits u.registers e =
      subst (λ n. Fits n e) (registers_there ir well f u there) h.1 in
      entry_seen f (slice_get ir.functions f) refl e h
      (start.starts f u there tx x (slot e)
      (entry_in topic 0 u.registers 0 (slot e) x few (slot_inside topic u.registers x e h.0 fits)
      (start_column e held)))

  module _ (f : ℕ) (u : IrFunction) (is : slice_get ir.functions f ≡ Some u)
      (reached : row_in entries f ≡ [] → ⊥) where
    abbrev rows : List (List ℕ)
    rows = (exits_of tables f)

    abbrev entry : List ℕ
    entry = at_entry topic u.registers (row_in entries f)

    shape : Shaped (row_width topic u.registers) rows
    shape = flow_shaped ir well topic exits sound f u is entries begins shaped
        (flow_in f u is reached).made

    count : length rows ≡ length u.code + 1
    count = length_made topic exits entry u.code (flow_in f u is reached).made

    size : length entry ≡ row_width topic u.registers
    size = length_at_entry topic u.registers (row_in entries f) (shaped.each f u is)

    stays_there : StaysTold ir.functions class (pass_in ir.functions exits x) f
        (told_in topic exits rows entry u.code x)
    stays_there = stays_told ir well topic exits x few f u is rows entry shape count size
        (flow_in f u is reached).closed

    place : (p : ℕ) (i : Instruction) → slice_get u.code p ≡ Some i
        → Place topic exits (length u.code) rows (row_width topic u.registers)
        (wide topic u.registers) shape x i (0 + p) (row_reaching topic exits rows entry 0 u.code p)
        (row_reaching topic exits rows entry 0 u.code (suc p))
    place p i at = place_at topic exits (length u.code) rows (row_width topic u.registers)
        (wide topic u.registers) shape x u.code entry 0 p i (flow_in f u is reached).closed size at

    enters_there : (p g to : ℕ) (args : List ℕ) (e : Fact) (v : IrFunction)
        → slice_get ir.functions g ≡ Some v → CallsAt ir.functions f p to g args
        → Matters ir.functions class g e
        → told_in topic exits rows entry u.code x p (at_call args e)
        ≡ true → tells (row_in entries g) x (slot e) ≡ true
    enters_there p g to args e v there call h t =
        let at = code_of ir well topic exits x few f u is rows entry shape count size
        (flow_in f u is reached).closed p (Call to g args) call in
        let s = place p (Call to g args) at in
        let before : tells s.here x (slot (at_call args e)) ≡ true =
        subst (λ o. seen_in_row x (slot (at_call args e)) o ≡ true) s.is t in
        let inside : slot e < row_width topic (registers_at ir.functions g) =
        slot_inside topic (registers_at ir.functions g) x e h.0 h.1 in
        brought_at ir.functions topic exits rows entries u.code entry 0 p (Call to g args) s.here
        (flow_in f u is reached).brings at s.is x (slot e)
        (enter_told topic (registers_at ir.functions g) args s.here x e inside ∙ before)

  stays_by : (f : ℕ) (o : Option IrFunction) (is : slice_get ir.functions f ≡ o)
      → StaysTold ir.functions class (pass_in ir.functions exits x) f (told_by f o)
  stays_by f None is = record {
    along = λ p q i a b at to m h t. refl;
    through = λ p g to args y z b call hy h pass same t. refl;
    past = λ p g to args b call h pass same t. refl;
  }
  stays_by f (Some u) is = by_row (row_in entries f) refl
    where
      by_row : (row : List ℕ) → row_in entries f ≡ row
          → StaysTold ir.functions class (pass_in ir.functions exits x) f (told_row f u row)
      by_row [] none = record {
        along = λ p q i a b at to m h t. absurd (false≢true t);
        through = λ p g to args y z b call hy h pass same t. absurd (false≢true t);
        past = λ p g to args b call h pass same t. absurd (false≢true t);
      }
      by_row (w ∷ ws) some = stays_there f u is (λ none. let no_way : w ∷ ws ≡ [] = sym some
          ∙ none in absurd cc)

  -- a call from or to a function that doesn't exist records nothing
  enters_of : (f : ℕ) (o : Option IrFunction) (is : slice_get ir.functions f ≡ o) (p g to : ℕ)
      (args : List ℕ) (e : Fact) (v : IrFunction) → slice_get ir.functions g ≡ Some v
      → CallsAt ir.functions f p to g args → Matters ir.functions class g e
      → told_by f o p (at_call args e) ≡ true → tells (row_in entries g) x (slot e) ≡ true
  enters_of f None is p g to args e v there call h t =
      let no_way : None ≡ Some (Call to g args) =
      sym (ap (λ o. option_and_then (λ (u : IrFunction). slice_get u.code p) o) is) ∙ call in
      absurd cc
  enters_of f (Some u) is p g to args e v there call h t = by_row (row_in entries f) refl t
    where
      by_row : (row : List ℕ) → row_in entries f ≡ row → told_row f u row p (at_call args e) ≡ true
          → tells (row_in entries g) x (slot e) ≡ true
      by_row [] none told = absurd (false≢true told)
      by_row (w ∷ ws) some told = enters_there f u is (λ none. let no_way : w ∷ ws ≡ [] = sym some
          ∙ none in absurd cc) p g to args e v there call h told

  enters_to : (f p g to : ℕ) (args : List ℕ) (e : Fact) (o : Option IrFunction)
      (is : slice_get ir.functions g ≡ o) → CallsAt ir.functions f p to g args
      → Matters ir.functions class g e → told f p (at_call args e) ≡ true → told_by g o 0 e ≡ true
  enters_to f p g to args e None is call h t = refl
  enters_to f p g to args e (Some v) is call h t =
      entry_seen g (Some v) is e h (enters_of f (slice_get ir.functions f) refl p g to args e v
      is call h t)

  tells_flows : TellsFlows ir.functions class (pass_in ir.functions exits x) told
  tells_flows = record {
    begins = λ f e h tx held. begins_told f e h tx held;
    enters = λ f p g to args e call h t. enters_to f p g to args e (slice_get ir.functions g)
        refl call h t;
    stays = λ f. stays_by f (slice_get ir.functions f) refl;
  }

  pub entries_tell_all : {f p : ℕ} {b : Fact} → Flows ir.functions f p b
      → Matters ir.functions class f b → told f p b ≡ true
  entries_tell_all d h = flows_told ir well class (pass_in ir.functions exits x)
      (exits_tell_all ir well topic exits sound ended x few) told tells_flows d h

  -- the same for a function that exists
  told_of : {f p : ℕ} {b : Fact} (u : IrFunction) → slice_get ir.functions f ≡ Some u
      → Flows ir.functions f p b → Matters ir.functions class f b
      → told_row f u (row_in entries f) p b ≡ true
  told_of {f} {p} {b} u there d h = subst (λ o. told_by f o p b ≡ true) there (entries_tell_all d h)

  pub told_there : {f p : ℕ} {b : Fact} (u : IrFunction) → slice_get ir.functions f ≡ Some u
      → Flows ir.functions f p b → Matters ir.functions class f b
      → told_in topic exits (exits_of tables f) (at_entry topic u.registers (row_in entries f))
      u.code
      x p b ≡ true
  told_there {f} {p} {b} u there d h = by_row (row_in entries f) (told_of u there d h)
    where
      by_row : (row : List ℕ) → told_row f u row p b ≡ true
          → told_in topic exits (exits_of tables f) (at_entry topic u.registers (row_in entries f))
          u.code x p b ≡ true
      by_row [] told = absurd (false≢true told)
      by_row (w ∷ ws) told = told

  -- no walk reaches a function whose entry has no row
  pub nothing_comes : {f p : ℕ} {b : Fact} (u : IrFunction) → slice_get ir.functions f ≡ Some u
      → row_in entries f ≡ [] → Flows ir.functions f p b → Matters ir.functions class f b → ⊥
  nothing_comes {f} {p} {b} u there none d h =
      false≢true (subst (λ row. told_row f u row p b ≡ true) none (told_of u there d h))
