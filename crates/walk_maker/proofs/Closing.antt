-- A table to which nothing is added any more is closed.
use Rattle.std.proofs.Common.{◌≡◌, ◌<◌, ◌≤◌, ◌+◌, ◌++◌, ℕ, zero, suc, Bool, true, false, List}
use Rattle.std.proofs.Common.{[], ◌∷◌, Option, Some, None, length, refl, sym, ap, subst, arith}
use Rattle.std.proofs.Common.{inl, inr, ⊎_elim}
use Rattle.std.specs.Prelude.{◌==◌, slice_get, position, nat_lt, nat_le, get_or}
use Rattle.std.specs.Prelude.{if◌then◌else◌}
use Rattle.std.specs.List.{list_any}
use Rattle.std.proofs.lemmas.Bool.{false≢true, and_parts, and_from, or_cases, eq-eqb, eqb-true}
use Rattle.std.proofs.lemmas.Bool.{lt-ltb, ltb-true, leb-true, leb-false}
use Rattle.std.proofs.lemmas.Option.{slice_get_past, slice_get-get_or}
use Rattle.std.proofs.lemmas.List.Quantifiers.{position-Some}
use Rattle.ir.specs.declared.instruction.Instruction.{Instruction}
use Rattle.ir.specs.declared.instruction.Instruction.TheVariants.{Call, Return}
use Rattle.ir.specs.declared.function.IrFunction.{IrFunction}
use Rattle.ir.specs.declared.function.Ir.{Ir}
use Rattle.ir.specs.declared.fact.Fact.{Fact as WalkFact}
use Rattle.ir.specs.declared.fact.Fact.TheVariants.{Here, Unwritten, RootUnwritten, ReadRoot}
use Rattle.ir.specs.declared.fact.Fact.TheVariants.{ReadField, Freed}
use Rattle.ir.specs.declared.fact.Origins.{Origins}
use Rattle.ir.specs.declared.fact.Origins.TheVariants.{Nowhere, One, Two}
use Rattle.ir.specs.declared.fact.Back.{Back}
use Rattle.ir.specs.declared.fact.Back.TheVariants.{FromReturn}
use Rattle.ir.specs.Table.{AmongOrigins, origins, at_call, from_parameter, back}
use Rattle.pool_map.specs.declared.shapes.Shapes.{Shapes}
use Rattle.walk_check.specs.declared.certificate.Piece.{Piece}
use Rattle.walk_check.specs.Follow.{leads, binds}
use Rattle.walk_check.specs.Keeps.{fact_is_there, follows}
use Rattle.walk_check.proofs.Tests.{same-true}
use Rattle.walk_check.proofs.Named.{There}
use Rattle.walk_check.proofs.Made.{same-refl}
use Rattle.walk_maker.specs.declared.table.Aim.{Aim}
use Rattle.walk_maker.specs.declared.table.Aim.TheVariants.{ToSite, ToReturn}
use Rattle.walk_maker.specs.declared.table.Link.TheVariants.{End}
use Rattle.walk_maker.specs.declared.table.Entry.{Entry}
use Rattle.walk_maker.specs.declared.expand.Later.{Later}
use Rattle.walk_maker.specs.declared.expand.Passed.{Passed}
use Rattle.walk_maker.specs.inside.Table.{same_aim, same_spot, has, added, step_of}
use Rattle.walk_maker.specs.inside.Calls.{from_position, back_in}
use Rattle.walk_maker.specs.inside.Reading.{entry_fact}
use Rattle.walk_maker.specs.inside.Expand as expand
use Rattle.walk_maker.proofs.Grown.{same_spot-refl, any_last}
use Rattle.walk_maker.proofs.Grown.{adds_has, adds_get}
use Rattle.walk_maker.proofs.Tried as tried

pub same_aim-true : (a b : Aim) → same_aim a b ≡ true → a ≡ b
same_aim-true ToSite ToSite h = refl
same_aim-true (ToReturn x) (ToReturn y) h = ap ToReturn (same-true x y h)
same_aim-true _ _ h = absurd (false≢true h)

-- the fact exists, if the test says so
pub there-from : (shapes : Shapes) (u : IrFunction) (b : WalkFact)
    → fact_is_there shapes u b ≡ true → There shapes u.registers b
there-from shapes u Here h = tt
there-from shapes u (Unwritten r s x) h =
    let parts = and_parts _ _ h in
    (ltb-true r u.registers parts.0, parts.1)
there-from shapes u (RootUnwritten x) h = h
there-from shapes u (ReadRoot x) h = h
there-from shapes u (ReadField s x) h = h
there-from shapes u Freed h = tt

-- an element that passes a test
pub passing_element : {X : Type 0} (p : X → Bool) (xs : List X) → list_any p xs ≡ true
    → (n : ℕ) × (x : X) × (slice_get xs n ≡ Some x) × (p x ≡ true)
passing_element p [] h = absurd (false≢true h)
passing_element p (y ∷ xs) h =
    ⊎_elim (λ e. (0, y, refl, e))
    (λ e. let more = passing_element p xs e in (suc more.0, more.1, more.2, more.3))
    (or_cases (p y) (list_any p xs) h)

abbrev pub spot : Aim → ℕ → ℕ → WalkFact → Entry
spot a f p x = record { aim = a; function = f; place = p; fact = x; link = End }

-- an entry of a spot
pub record Found (t : List Entry) (a : Aim) (f p : ℕ) (x : WalkFact) : Type 0 where
  pub number : ℕ
  pub entry : Entry
  pub at : slice_get t number ≡ Some entry
  pub aim : entry.aim ≡ a
  pub function : entry.function ≡ f
  pub place : entry.place ≡ p
  pub fact : entry.fact ≡ x

pub find : (t : List Entry) (a : Aim) (f p : ℕ) (x : WalkFact) → has t (spot a f p x) ≡ true
    → Found t a f p x
find t a f p x h =
    let e = passing_element (λ (y : Entry). same_spot y (spot a f p x)) t h in
    let parts = and_parts _ _ e.3 in
    let more = and_parts _ _ parts.1 in
    let last = and_parts _ _ more.1 in
    record {
      number = e.0;
      entry = e.1;
      at = e.2;
      aim = same_aim-true e.1.aim a parts.0;
      function = eqb-true e.1.function f more.0;
      place = eqb-true e.1.place p last.0;
      fact = same-true e.1.fact x last.1;
    }

-- what is added is in the table
pub has_added : (e : Entry) (t : List Entry) → has (added e t) e ≡ true
has_added e t = by_test (has t e) refl
  where
    by_test : (b : Bool) → has t e ≡ b → has (if b then t else t ++ e ∷ []) e ≡ true
    by_test true h = h
    by_test false h = any_last (λ (y : Entry). same_spot y e) t e (same_spot-refl e)

-- the origin of a fact after a call, where the code is well formed
back_in_place : (parameters : ℕ) (args : List ℕ) (r s x : ℕ) (j : Option ℕ)
    → length args ≡ parameters → position (λ a. a == r) args ≡ j
    → from_position parameters j s x ≡ from_parameter j s x
back_in_place parameters args r s x None count is = refl
back_in_place parameters args r s x (Some j) count is =
    let inside : j < length args = (position-Some (λ a. a == r) args j 0 is).0 in
    let below : nat_lt j parameters ≡ true = lt-ltb j parameters (omega arith) in
    rw below refl

pub back_in_is : (parameters to : ℕ) (args : List ℕ) (b : WalkFact) → length args ≡ parameters
    → back_in parameters to args b ≡ back to args b
back_in_is parameters to args (Unwritten r s x) count =
    ap (λ (o : Back). if r == to then FromReturn Here else o)
    (back_in_place parameters args r s x (position (λ a. a == r) args) count refl)
back_in_is parameters to args Here count = refl
back_in_is parameters to args (RootUnwritten x) count = refl
back_in_is parameters to args (ReadRoot x) count = refl
back_in_is parameters to args (ReadField s x) count = refl
back_in_is parameters to args Freed count = refl

-- the bound fact at an entry
at_call_register : (args : List ℕ) (v : IrFunction) (r s x : ℕ) (b : Bool)
    → nat_le v.parameters r ≡ b → length args ≡ v.parameters
    → (at_call args (if b then Here else Unwritten r s x) ≡ at_call args (Unwritten r s x))
    × (binds args (at_call args (Unwritten r s x)) (if b then Here else Unwritten r s x) ≡ true)
at_call_register args v r s x true h count =
    let past : v.parameters ≤ r = leb-true v.parameters r h in
    let none : slice_get args r ≡ None = slice_get_past args r (omega arith) in
    (rw none refl, rw none refl)
at_call_register args v r s x false h count =
    let below : r < v.parameters = leb-false v.parameters r h in
    let inside : r < length args = omega arith in
    let some = slice_get-get_or args r 0 inside in
    (refl, rw some (same-refl (Unwritten (get_or args r 0) s x)))

pub bound_is : (args : List ℕ) (v : IrFunction) (x : WalkFact) → length args ≡ v.parameters
    → (at_call args (entry_fact false v x) ≡ at_call args x)
    × (binds args (at_call args x) (entry_fact false v x) ≡ true)
bound_is args v (Unwritten r s x) count =
    at_call_register args v r s x (nat_le v.parameters r) refl count
bound_is args v Here count = (refl, refl)
bound_is args v (RootUnwritten x) count = (refl, same-refl (RootUnwritten x))
bound_is args v (ReadRoot x) count = (refl, same-refl (ReadRoot x))
bound_is args v (ReadField s x) count = (refl, same-refl (ReadField s x))
bound_is args v Freed count = (refl, refl)

module _ (ir : Ir) (goal : Entry) (ps : List Piece) (later : Later) where
  abbrev Is : List Entry → Type 0
  Is t = slice_get t later.number ≡ Some later.entry

  module _ (u : IrFunction) (there : slice_get ir.functions later.entry.function ≡ Some u) where
    pub has_tried : (p : ℕ) (a : WalkFact) (through : Option ℕ) (t : List Entry)
        → fact_is_there ir.shapes u a ≡ true
        → follows ps u (step_of (expand.next_to later p a through)) (step_of later.entry) through
        ≡ true
        → has (expand.step_tried ir ps u later.entry (expand.next_to later p a through) t)
        (expand.next_to later p a through) ≡ true
    has_tried p a through t fits follow =
        let test = and_from _ _ fits follow in
        rw test (has_added (expand.next_to later p a through) t)

    has_origins : (p : ℕ) (a : WalkFact) (o : Origins) (t : List Entry) → Is t
        → AmongOrigins a o → fact_is_there ir.shapes u a ≡ true
        → follows ps u (step_of (expand.next_to later p a None)) (step_of later.entry) None ≡ true
        → has (expand.tried_origins ir ps u later p o t) (expand.next_to later p a None) ≡ true
    has_origins p a Nowhere t known m fits follow = absurd m
    has_origins p a (One b) t known m fits follow =
        subst (λ c. has (expand.step_tried ir ps u later.entry (expand.next_to later p c None) t)
        (expand.next_to later p a None) ≡ true) m (has_tried p a None t fits follow)
    has_origins p a (Two b c) t known (inl m) fits follow =
        let first =
        subst (λ d. has (expand.step_tried ir ps u later.entry (expand.next_to later p d None) t)
        (expand.next_to later p a None) ≡ true) m (has_tried p a None t fits follow) in
        let one = tried.adds_tried ir goal ps later u there p b None t known in
        adds_has ir goal (expand.next_to later p a None) (tried.adds_tried ir goal ps later u there
        p c None (expand.step_tried ir ps u later.entry (expand.next_to later p b None) t)
        (adds_get ir goal later.number later.entry one known)) first
    has_origins p a (Two b c) t known (inr m) fits follow =
        let before = expand.step_tried ir ps u later.entry (expand.next_to later p b None) t in
        subst (λ d. has (expand.step_tried ir ps u later.entry (expand.next_to later p d None)
        before)
        (expand.next_to later p a None) ≡ true) m (has_tried p a None before fits follow)

    pub has_along : (p : ℕ) (i : Instruction) (a : WalkFact) (t : List Entry) → Is t
        → leads i p later.entry.place ≡ true → AmongOrigins a (origins i later.entry.fact)
        → fact_is_there ir.shapes u a ≡ true
        → follows ps u (step_of (expand.next_to later p a None)) (step_of later.entry) None ≡ true
        → has (expand.before_tried ir ps u later p i t) (expand.next_to later p a None) ≡ true
    has_along p i a t known to m fits follow =
        let first = tried.adds_next ir goal ps later u there p i t known in
        rw to (has_origins p a (origins i later.entry.fact) (expand.next_tried ir ps u later p i t)
        (adds_get ir goal later.number later.entry first known) m fits follow)

    -- what each table gets at a place, the whole gets
    pub has_before : (p : ℕ) (is : List Instruction) (t : List Entry) (k : ℕ) (i : Instruction)
        (x : Entry) → Is t → slice_get is k ≡ Some i
        → ((s : List Entry) → Is s
        → has (expand.before_tried ir ps u later (p + k) i s) x ≡ true)
        → has (expand.all_before_tried ir ps u later p is t) x ≡ true
    has_before p [] t k i x known is each = absurd cc
    has_before p (j ∷ js) t zero i x known is each =
        let same : j ≡ i = cc in
        let place : p + 0 ≡ p = omega arith in
        let here : has (expand.before_tried ir ps u later p j t) x ≡ true =
        subst (λ q. has (expand.before_tried ir ps u later q j t) x ≡ true) place
        (subst (λ h. has (expand.before_tried ir ps u later (p + 0) h t) x ≡ true) (sym same)
        (each t known)) in
        let first = tried.adds_before ir goal ps later u there p j t known in
        adds_has ir goal x (tried.adds_all_before ir goal ps later u there (p + 1) js
        (expand.before_tried ir ps u later p j t)
        (adds_get ir goal later.number later.entry first known)) here
    has_before p (j ∷ js) t (suc k) i x known is each =
        let place : p + suc k ≡ (p + 1) + k = omega arith in
        let first = tried.adds_before ir goal ps later u there p j t known in
        has_before (p + 1) js (expand.before_tried ir ps u later p j t) k i x
        (adds_get ir goal later.number later.entry first known) is
        (λ s k'. subst (λ q. has (expand.before_tried ir ps u later q i s) x ≡ true) place
        (each s k'))

    pub has_here : (k : ℕ) (i : Instruction) (x : Entry) (is : List Instruction) (t : List Entry)
        → Is t → slice_get is k ≡ Some i
        → ((s : List Entry) → Is s → has (expand.before_tried ir ps u later k i s) x ≡ true)
        → has (expand.all_before_tried ir ps u later 0 is t) x ≡ true
    has_here k i x is t known at each =
        let place : k ≡ 0 + k = omega arith in
        has_before 0 is t k i x known at
        (λ s known'. subst (λ q. has (expand.before_tried ir ps u later q i s) x ≡ true) place
        (each s known'))

    pub has_returns : (g : ℕ) (v : IrFunction) (y : WalkFact) (q : ℕ) (is : List Instruction)
        (t : List Entry) (k from : ℕ) → slice_get ir.functions g ≡ Some v
        → fact_is_there ir.shapes v y ≡ true → tried.Rest v.code q is
        → slice_get is k ≡ Some (Return from)
        → has (expand.returns_added g y q is t) (expand.return_at g (q + k) y) ≡ true
    has_returns g v y q [] t k from callee fits all is = absurd cc
    has_returns g v y q (j ∷ js) t zero from callee fits all is =
        let same : j ≡ Return from = cc in
        let place : q ≡ q + 0 = omega arith in
        let here : has (expand.return_added g y q j t) (expand.return_at g q y) ≡ true =
        subst (λ h. has (expand.return_added g y q h t) (expand.return_at g q y) ≡ true) (sym same)
        (has_added (expand.return_at g q y) t) in
        subst (λ r. has (expand.returns_added g y q (j ∷ js) t) (expand.return_at g r y) ≡ true)
        place (adds_has ir goal (expand.return_at g q y) (tried.adds_returns ir goal ps later u
        there g v y (q + 1) js (expand.return_added g y q j t) callee fits
        (tried.rest_more v.code q j js all)) here)
    has_returns g v y q (j ∷ js) t (suc k) from callee fits all is =
        let place : (q + 1) + k ≡ q + suc k = omega arith in
        subst (λ r. has (expand.returns_added g y (q + 1) js (expand.return_added g y q j t))
        (expand.return_at g r y) ≡ true) place
        (has_returns g v y (q + 1) js (expand.return_added g y q j t) k from callee fits
        (tried.rest_more v.code q j js all) is)

    pub has_throughs : (call : Passed) (args : List ℕ) (n : ℕ) (rest : List Piece)
        (t : List Entry) (k : ℕ) (piece : Piece) (x : Entry) → Is t
        → slice_get rest k ≡ Some piece
        → ((s : List Entry) → Is s
        → has (expand.through_tried ir ps u later call args (n + k) piece s) x ≡ true)
        → has (expand.throughs_tried ir ps u later call args n rest t) x ≡ true
    has_throughs call args n [] t k piece x known is each = absurd cc
    has_throughs call args n (j ∷ js) t zero piece x known is each =
        let same : j ≡ piece = cc in
        let place : n + 0 ≡ n = omega arith in
        let here : has (expand.through_tried ir ps u later call args n j t) x ≡ true =
        subst (λ q. has (expand.through_tried ir ps u later call args q j t) x ≡ true) place
        (subst (λ h. has (expand.through_tried ir ps u later call args (n + 0) h t) x ≡ true)
        (sym same) (each t known)) in
        let first = tried.adds_through ir goal ps later u there call args n j t known in
        adds_has ir goal x (tried.adds_throughs ir goal ps later u there call args (n + 1) js
        (expand.through_tried ir ps u later call args n j t)
        (adds_get ir goal later.number later.entry first known)) here
    has_throughs call args n (j ∷ js) t (suc k) piece x known is each =
        let place : n + suc k ≡ (n + 1) + k = omega arith in
        let first = tried.adds_through ir goal ps later u there call args n j t known in
        has_throughs call args (n + 1) js (expand.through_tried ir ps u later call args n j t) k
        piece x (adds_get ir goal later.number later.entry first known) is
        (λ s k'. subst (λ q. has (expand.through_tried ir ps u later call args q piece s) x
        ≡ true) place (each s k'))

  -- the callers
  module _ (v : IrFunction) (callee : slice_get ir.functions later.entry.function ≡ Some v)
      (aim : later.entry.aim ≡ ToSite) (entry : later.entry.place ≡ 0) where
    abbrev Bound : WalkFact
    Bound = entry_fact false v later.entry.fact

    pub has_callers_in : (f : ℕ) (u : IrFunction) (p : ℕ) (is : List Instruction)
        (t : List Entry) (k to : ℕ) (args : List ℕ) → slice_get ir.functions f ≡ Some u
        → tried.Rest u.code p is → Is t
        → slice_get is k ≡ Some (Call to later.entry.function args)
        → fact_is_there ir.shapes u (at_call args later.entry.fact) ≡ true
        → binds args (at_call args later.entry.fact) Bound ≡ true
        → has (expand.callers_in_tried ir u f later Bound p is t)
        (expand.caller_at f (p + k) later args) ≡ true
    has_callers_in f u p [] t k to args there all known is fits binding = absurd cc
    has_callers_in f u p (j ∷ js) t zero to args there all known is fits binding =
        let same : j ≡ Call to later.entry.function args = cc in
        let place : p ≡ p + 0 = omega arith in
        let test =
        and_from _ _ (eq-eqb later.entry.function later.entry.function refl)
        (and_from _ _ fits binding) in
        let added_here : has (expand.caller_tried ir u f later Bound p
        (Call to later.entry.function args) t) (expand.caller_at f p later args) ≡ true =
        rw test (has_added (expand.caller_at f p later args) t) in
        let here : has (expand.caller_tried ir u f later Bound p j t)
        (expand.caller_at f p later args) ≡ true =
        subst (λ h. has (expand.caller_tried ir u f later Bound p h t)
        (expand.caller_at f p later args) ≡ true) (sym same) added_here in
        let first =
        tried.adds_caller ir goal ps later v callee aim entry f u p j t there
        (tried.rest_first u.code p j js all) known in
        subst (λ r. has (expand.callers_in_tried ir u f later Bound p (j ∷ js) t)
        (expand.caller_at f r later args) ≡ true) place
        (adds_has ir goal (expand.caller_at f p later args) (tried.adds_callers_in ir goal ps later
        v callee aim entry f u (p + 1) js (expand.caller_tried ir u f later Bound p j t) there
        (tried.rest_more u.code p j js all)
        (adds_get ir goal later.number later.entry first known)) here)
    has_callers_in f u p (j ∷ js) t (suc k) to args there all known is fits binding =
        let place : (p + 1) + k ≡ p + suc k = omega arith in
        let first =
        tried.adds_caller ir goal ps later v callee aim entry f u p j t there
        (tried.rest_first u.code p j js all) known in
        subst (λ r. has (expand.callers_in_tried ir u f later Bound (p + 1) js
        (expand.caller_tried ir u f later Bound p j t)) (expand.caller_at f r later args) ≡ true)
        place (has_callers_in f u (p + 1) js (expand.caller_tried ir u f later Bound p j t) k to
        args there (tried.rest_more u.code p j js all)
        (adds_get ir goal later.number later.entry first known) is fits binding)

    pub has_callers : (f : ℕ) (us : List IrFunction) (t : List Entry) (k : ℕ) (u : IrFunction)
        (x : Entry) → tried.Rest ir.functions f us → Is t → slice_get us k ≡ Some u
        → ((s : List Entry) → Is s
        → has (expand.callers_in_tried ir u (f + k) later Bound 0 u.code s) x ≡ true)
        → has (expand.callers_tried ir later Bound f us t) x ≡ true
    has_callers f [] t k u x all known is each = absurd cc
    has_callers f (w ∷ ws) t zero u x all known is each =
        let same : w ≡ u = cc in
        let place : f + 0 ≡ f = omega arith in
        let here : has (expand.callers_in_tried ir w f later Bound 0 w.code t) x ≡ true =
        subst (λ q. has (expand.callers_in_tried ir w q later Bound 0 w.code t) x ≡ true) place
        (subst (λ (h : IrFunction). has (expand.callers_in_tried ir h (f + 0) later Bound 0 h.code
        t) x ≡ true) (sym same) (each t known)) in
        let first =
        tried.adds_callers_in ir goal ps later v callee aim entry f w 0 w.code t
        (tried.rest_first ir.functions f w ws all) (tried.rest_whole w.code) known in
        adds_has ir goal x (tried.adds_callers ir goal ps later v callee aim entry (f + 1) ws
        (expand.callers_in_tried ir w f later Bound 0 w.code t)
        (tried.rest_more ir.functions f w ws all)
        (adds_get ir goal later.number later.entry first known)) here
    has_callers f (w ∷ ws) t (suc k) u x all known is each =
        let place : f + suc k ≡ (f + 1) + k = omega arith in
        let first =
        tried.adds_callers_in ir goal ps later v callee aim entry f w 0 w.code t
        (tried.rest_first ir.functions f w ws all) (tried.rest_whole w.code) known in
        has_callers (f + 1) ws (expand.callers_in_tried ir w f later Bound 0 w.code t) k u x
        (tried.rest_more ir.functions f w ws all)
        (adds_get ir goal later.number later.entry first known) is
        (λ s k'. subst (λ q. has (expand.callers_in_tried ir u q later Bound 0 u.code s) x
        ≡ true) place (each s k'))
