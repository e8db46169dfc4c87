-- A search that ended without a start: no walk reaches the site with the fact.
use Rattle.std.proofs.Common.{◌≡◌, ◌<◌, ◌+◌, ◌&&◌, ℕ, zero, suc, Bool, true, false, List, []}
use Rattle.std.proofs.Common.{◌∷◌, Some, None, length, refl, sym, ◌∙◌, ap, subst, arith}
use Rattle.std.specs.Prelude.{◌==◌, slice_get, position, nat_lt}
use Rattle.std.specs.List.{position_or_len}
use Rattle.std.proofs.lemmas.Bool.{false≢true, and_parts, and_from, eq-eqb, eqb-true, lt-ltb}
use Rattle.ir.specs.declared.instruction.Instruction.{Instruction}
use Rattle.ir.specs.declared.instruction.Instruction.TheVariants.{Call, Return}
use Rattle.ir.specs.declared.function.IrFunction.{IrFunction}
use Rattle.ir.specs.declared.function.Ir.{Ir}
use Rattle.ir.specs.declared.fact.Fact.{Fact as WalkFact}
use Rattle.ir.specs.declared.fact.Fact.TheVariants.{Here, Unwritten, RootUnwritten, ReadRoot}
use Rattle.ir.specs.declared.fact.Fact.TheVariants.{ReadField, Freed}
use Rattle.ir.specs.declared.fact.Back.{Back}
use Rattle.ir.specs.declared.fact.Back.TheVariants.{FromReturn, Stays}
use Rattle.ir.specs.Places.{instruction_at, IsTransaction, Leads, CallsAt, ReturnsAt}
use Rattle.ir.specs.Walk.{at_start}
use Rattle.ir.specs.Table.{holds, AmongOrigins, origins, at_call, back}
use Rattle.ir.specs.WellFormed.{IsWellFormed}
use Rattle.walk_check.specs.declared.certificate.Piece.{Piece}
use Rattle.walk_check.specs.Facts.{same}
use Rattle.walk_check.specs.Follow.{binds, passes}
use Rattle.walk_check.specs.Keeps.{fact_is_there, first_fact, last_fact, follows, goes_past}
use Rattle.walk_check.proofs.Tests.{same-true}
use Rattle.walk_check.proofs.Named.{There, is_there-from, there_origins, Called, called_at}
use Rattle.walk_check.proofs.Named.{well_at, call_there, return_there}
use Rattle.walk_check.proofs.Made.{same-refl, next-from, leads-from, goes-from}
use Rattle.walk_check.proofs.Made.{past-from, code_at, step_at}
use Rattle.walk_check.proofs.Explained.{body_of}
use Rattle.walk_maker.specs.declared.table.Aim.{Aim}
use Rattle.walk_maker.specs.declared.table.Aim.TheVariants.{ToSite, ToReturn}
use Rattle.walk_maker.specs.declared.table.Entry.{Entry}
use Rattle.walk_maker.specs.declared.expand.Later.{Later}
use Rattle.walk_maker.specs.inside.Table.{has, step_of, through_of}
use Rattle.walk_maker.specs.inside.Calls.{back_in, exit_of, before_call}
use Rattle.walk_maker.specs.inside.Reading.{entry_fact}
use Rattle.walk_maker.specs.inside.Expand as expand
use Rattle.walk_maker.specs.inside.Search.{SearchState, goes_from, is_known, with_entered}
use Rattle.walk_maker.specs.inside.Search.{expanded, later_at, is_start}
use Rattle.walk_maker.proofs.Grown.{AllHold, adds_has, adds_get, adds_hold, steps_has}
use Rattle.walk_maker.proofs.Tried as tried
use Rattle.walk_maker.proofs.Swept.{steps_entered, adds_here, is_after, known_piece}
use Rattle.walk_maker.proofs.Swept.{entered_return, entered_site}
use Rattle.walk_maker.proofs.Closing.{there-from, passing_element, spot, Found, find, back_in_is}
use Rattle.walk_maker.proofs.Closing.{bound_is, has_tried, has_along, has_here, has_returns}
use Rattle.walk_maker.proofs.Closing.{has_throughs, has_callers_in, has_callers}
use Rattle.walk_maker.proofs.Closed.{IsClosed}

-- no element passes a test that finds none
prefix_within : {X : Type 0} (p : X → Bool) (xs : List X) (n : ℕ) (x : X)
    → slice_get xs n ≡ Some x → p x ≡ true → position_or_len p xs < length xs
prefix_within p [] n x is h = absurd cc
prefix_within {X = X} p (y ∷ ys) zero x is h =
    let same : y ≡ x = cc in
    let here : p y ≡ true = subst (λ (z : X). p z ≡ true) (sym same) h in
    rw here (omega arith)
prefix_within p (y ∷ ys) (suc n) x is h = by_test (prefix_within p ys n x is h) (p y) refl
  where
    by_test : position_or_len p ys < length ys → (b : Bool) → p y ≡ b
        → position_or_len p (y ∷ ys) < length (y ∷ ys)
    by_test rest true here = rw here (omega arith)
    by_test rest false here = rw here (omega arith)

position_none : {X : Type 0} (p : X → Bool) (xs : List X) (n : ℕ) (x : X)
    → position p xs ≡ None → slice_get xs n ≡ Some x → p x ≡ true → ⊥
position_none p xs n x none is h =
    let less : position_or_len p xs < length xs = prefix_within p xs n x is h in
    let test : nat_lt (position_or_len p xs) (length xs) ≡ true =
    lt-ltb (position_or_len p xs) (length xs) less in
    let some : position p xs ≡ Some (position_or_len p xs) = rw test refl in
    let no : None ≡ Some (position_or_len p xs) = sym none ∙ some in absurd cc

module _ (ir : Ir) (goal : Entry) (well : IsWellFormed ir) (s : SearchState)
    (all : AllHold ir goal s.passed s.table)
    (still : (n : ℕ) (e : Entry) → slice_get s.table n ≡ Some e
    → s ≡ expanded ir (later_at n e) s) where
  abbrev pub Has : Aim → ℕ → ℕ → WalkFact → Type 0
  Has a f p x = has s.table (spot a f p x) ≡ true

  module _ (n : ℕ) (e : Entry) (is : slice_get s.table n ≡ Some e) (u : IrFunction)
      (there : slice_get ir.functions e.function ≡ Some u)
      (fits : fact_is_there ir.shapes u e.fact ≡ true) where
    abbrev At : Later
    At = later_at n e

    abbrev Before : List Entry
    Before = expand.all_before_tried ir s.passed u At 0 u.code s.table

    whole : s ≡ with_entered ir u At Before s.passed
    whole = still n e is ∙ rw there refl

    held : AllHold ir goal s.passed Before
    held = adds_hold ir goal (adds_here ir goal At u there s.passed s.table is) all

    after : slice_get Before n ≡ Some e
    after = is_after ir goal At u there s.passed s.table is

    -- what comes before the entry is in the table
    had : (x : Entry) → has Before x ≡ true → has s.table x ≡ true
    had x h =
        subst (λ (v : SearchState). has v.table x ≡ true) (sym whole)
        (steps_has ir goal x (steps_entered ir goal At u there s.passed Before held after) h)

    pub has_origin : (p : ℕ) (i : Instruction) (a : WalkFact) → slice_get u.code p ≡ Some i
        → Leads i p e.place → AmongOrigins a (origins i e.fact)
        → has s.table (spot e.aim e.function p a) ≡ true
    has_origin p i a code to m =
        let before : There ir.shapes u.registers a =
        there_origins ir u.registers (length u.code) i e.fact
        (well_at ir e.function p u i well there code) (there-from ir.shapes u e.fact fits) a m in
        had (expand.next_to At p a None) (has_here ir goal s.passed At u there p i
        (expand.next_to At p a None) u.code s.table is code
        (λ t known. has_along ir goal s.passed At u there p i a t known (leads-from i p e.place to)
        m (is_there-from ir.shapes u a before) (goes-from ir (slice_get u.code p) i p e.place a
        e.fact None (through_of e.link) code to m)))

    -- at a call
    module _ (p to g : ℕ) (args : List ℕ) (code : slice_get u.code p ≡ Some (Call to g args))
        (next : e.place ≡ suc p) (c : Called ir u g args) where
      abbrev Origin : Back
      Origin = back_in c.body.parameters to args e.fact

      has_call : (x : Entry)
          → ((t : List Entry) → slice_get t n ≡ Some e
          → has (expand.call_tried ir s.passed u At p to g args (Some c.body) t) x ≡ true)
          → has s.table x ≡ true
      has_call x each =
          let here = next-from p e.place next in
          had x (has_here ir goal s.passed At u there p (Call to g args) x u.code s.table is code
          (λ t known. rw (here, c.there) (each t known)))

      pub has_return : (y : WalkFact) (q from : ℕ) → exit_of Origin ≡ y
          → fact_is_there ir.shapes c.body y ≡ true
          → slice_get c.body.code q ≡ Some (Return from)
          → has s.table (spot (ToReturn y) g q y) ≡ true
      has_return y q from exit ok ret =
          has_call (expand.return_at g q y) (λ t known.
          let place : 0 + q ≡ q = omega arith in
          let returns : has (expand.returns_added g y 0 c.body.code t) (expand.return_at g q y)
          ≡ true =
          subst (λ r. has (expand.returns_added g y 0 c.body.code t) (expand.return_at g r y)
          ≡ true) place (has_returns ir goal s.passed At u there g c.body y 0 c.body.code t q from
          c.there ok (tried.rest_whole c.body.code) ret) in
          let first : has (expand.exits_added ir c.body g y t) (expand.return_at g q y) ≡ true =
          rw ok returns in
          let exits : has (expand.exits_added ir c.body g (exit_of Origin) t)
          (expand.return_at g q y) ≡ true =
          subst (λ z. has (expand.exits_added ir c.body g z t) (expand.return_at g q y) ≡ true)
          (sym exit) first in
          let grown = tried.adds_exits ir goal s.passed At u there g c.body (exit_of Origin) t
          c.there in
          adds_has ir goal (expand.return_at g q y) (tried.adds_throughs ir goal s.passed At u
          there (expand.passed_call c.body p to g args e.fact) args 0 s.passed
          (expand.exits_added ir c.body g (exit_of Origin) t)
          (adds_get ir goal n e grown known)) exits)

      pub has_through : (k : ℕ) (piece : Piece) (a : WalkFact) → slice_get s.passed k ≡ Some piece
          → piece.function ≡ g → last_fact piece ≡ exit_of Origin
          → before_call Origin args (first_fact piece) e.fact ≡ a
          → fact_is_there ir.shapes u a ≡ true
          → passes args a (first_fact piece) (last_fact piece) e.fact (back to args e.fact) ≡ true
          → has s.table (spot e.aim e.function p a) ≡ true
      has_through k piece a at function last before ok pass =
          has_call (expand.next_to At p a (Some k)) (λ t known.
          let grown = tried.adds_exits ir goal s.passed At u there g c.body (exit_of Origin) t
          c.there in
          has_throughs ir goal s.passed At u there
          (expand.passed_call c.body p to g args e.fact) args 0 s.passed
          (expand.exits_added ir c.body g (exit_of Origin) t) k piece
          (expand.next_to At p a (Some k)) (adds_get ir goal n e grown known) at
          (λ v known'. let place : k ≡ 0 + k = omega arith in
          subst (λ j. has (expand.through_tried ir s.passed u At
          (expand.passed_call c.body p to g args e.fact) args j piece v)
          (expand.next_to At p a (Some k)) ≡ true) place (tried_through v)))
        where
          tried_through : (v : List Entry)
              → has (expand.through_tried ir s.passed u At
              (expand.passed_call c.body p to g args e.fact) args k piece v)
              (expand.next_to At p a (Some k)) ≡ true
          tried_through v =
              let named : ((piece.function == g) && same (last_fact piece) (exit_of Origin))
              ≡ true =
              and_from _ _ (eq-eqb piece.function g function)
              (subst (λ z. same (last_fact piece) z ≡ true) last (same-refl (last_fact piece))) in
              rw (named, before) (has_tried ir goal s.passed At u there p a (Some k) v ok
              pass_follows)
            where
              pass_follows : follows s.passed u (step_of (expand.next_to At p a (Some k)))
                  (step_of e) (Some k) ≡ true
              pass_follows =
                  subst (λ q. goes_past (slice_get u.code p) (slice_get s.passed k)
                  (step_at p a (Some k)) (step_at q e.fact (through_of e.link)) ≡ true) (sym next)
                  (past-from ir (slice_get u.code p) (slice_get s.passed k) piece p to g args a
                  e.fact (Some k) (through_of e.link) code at function pass)

    -- a function's entry
    module _ (entry : e.place ≡ 0) where
      known_here : (y : WalkFact) → e.aim ≡ ToReturn y
          → is_known s.passed e.function (entry_fact false u e.fact) y ≡ true
      known_here y aim =
          subst (λ (v : SearchState). is_known v.passed e.function (entry_fact false u e.fact) y
          ≡ true)
          (sym whole) (subst (λ ps. is_known ps e.function (entry_fact false u e.fact) y ≡ true)
          (sym (entered_return ir goal At u there s.passed Before y aim entry))
          (known_piece ir goal At u there s.passed Before y held after aim entry))

      had_callers : (x : Entry) → e.aim ≡ ToSite
          → has (expand.callers_tried ir At (entry_fact false u e.fact) 0 ir.functions Before) x
          ≡ true → has s.table x ≡ true
      had_callers x aim h =
          subst (λ (v : SearchState). has v.table x ≡ true) (sym whole) (subst (λ t. has t x ≡ true)
          (sym (entered_site ir goal At u there s.passed Before aim entry)) h)

      pub has_caller : (f p to : ℕ) (args : List ℕ) (w : IrFunction) → e.aim ≡ ToSite
          → slice_get ir.functions f ≡ Some w
          → slice_get w.code p ≡ Some (Call to e.function args)
          → fact_is_there ir.shapes w (at_call args e.fact) ≡ true
          → binds args (at_call args e.fact) (entry_fact false u e.fact) ≡ true
          → has s.table (spot ToSite f p (at_call args e.fact)) ≡ true
      has_caller f p to args w aim caller code ok binding =
          let x = expand.caller_at f p At args in
          let here_f : 0 + f ≡ f = omega arith in
          let here_p : 0 + p ≡ p = omega arith in
          had_callers x aim (has_callers ir goal s.passed At u there aim entry 0 ir.functions Before
          f w x (tried.rest_whole ir.functions) after caller (λ t known.
          subst (λ g. has (expand.callers_in_tried ir w g At (entry_fact false u e.fact) 0 w.code t)
          x ≡ true) (sym here_f) (subst (λ q. has (expand.callers_in_tried ir w f At
          (entry_fact false u e.fact) 0 w.code t) (expand.caller_at f q At args) ≡ true) here_p
          (has_callers_in ir goal s.passed At u there aim entry f w 0 w.code t p to args caller
          (tried.rest_whole w.code) known code ok binding))))

  -- a piece that is known
  record Way (g : ℕ) (v : IrFunction) (x y : WalkFact) : Type 0 where
    pub number : ℕ
    pub piece : Piece
    pub at : slice_get s.passed number ≡ Some piece
    pub function : piece.function ≡ g
    pub first : first_fact piece ≡ entry_fact false v x
    pub last : last_fact piece ≡ y
    pub fits : fact_is_there ir.shapes v x ≡ true

  same_bodies : (f g : ℕ) (u v : IrFunction) → slice_get ir.functions f ≡ Some u
      → slice_get ir.functions g ≡ Some v → f ≡ g → u ≡ v
  same_bodies f g u v is there same =
      let h : slice_get ir.functions g ≡ Some u =
      subst (λ k. slice_get ir.functions k ≡ Some u) same is in
      let some : Some u ≡ Some v = sym h ∙ there in cc

  way_of : (g : ℕ) (v : IrFunction) (x y : WalkFact) → slice_get ir.functions g ≡ Some v
      → Has (ToReturn y) g 0 x → Way g v x y
  way_of g v x y there h =
      let e = find s.table (ToReturn y) g 0 x h in
      let held = all e.number e.entry e.at in
      let body : held.body ≡ v =
      same_bodies e.entry.function g held.body v held.there there e.function in
      let known = known_here e.number e.entry e.at held.body held.there held.fits e.place y e.aim in
      let some = passing_element (goes_from e.entry.function
      (entry_fact false held.body e.entry.fact) y) s.passed known in
      let parts = and_parts _ _ some.3 in
      let facts = and_parts _ _ parts.1 in
      record {
        number = some.0;
        piece = some.1;
        at = some.2;
        function = eqb-true some.1.function e.entry.function parts.0 ∙ e.function;
        first =
            same-true (first_fact some.1) (entry_fact false held.body e.entry.fact) facts.0
            ∙ ap (λ w. entry_fact false w e.entry.fact) body ∙ ap (entry_fact false v) e.fact;
        last = same-true (last_fact some.1) y facts.1;
        fits =
            subst (λ w. fact_is_there ir.shapes w x ≡ true) body
            (subst (λ z. fact_is_there ir.shapes held.body z ≡ true) e.fact held.fits);
      }

  moved : (a b : Aim) (f g p : ℕ) (x : WalkFact) → a ≡ b → f ≡ g
      → has s.table (spot a f p x) ≡ true → Has b g p x
  moved a b f g p x aim function h =
      subst (λ c. has s.table (spot c g p x) ≡ true) aim
      (subst (λ k. has s.table (spot a k p x) ≡ true) function h)

  closed_before : (a : Aim) (f p q : ℕ) (i : Instruction) (x b : WalkFact) → Has a f q b
      → instruction_at ir.functions f p ≡ Some i → Leads i p q → AmongOrigins x (origins i b)
      → Has a f p x
  closed_before a f p q i x b h is to m =
      let e = find s.table a f q b h in
      let held = all e.number e.entry e.at in
      let code =
      code_at ir e.entry.function p held.body i held.there
      (subst (λ g. instruction_at ir.functions g p ≡ Some i) (sym e.function) is) in
      moved e.entry.aim a e.entry.function f p x e.aim e.function (has_origin e.number e.entry e.at
      held.body held.there held.fits p i x code (subst (λ r. Leads i p r) (sym e.place) to)
      (subst (λ y. AmongOrigins x (origins i y)) (sym e.fact) m))

  -- a spot right after a call
  record AtCall (a : Aim) (f p g to : ℕ) (args : List ℕ) (b : WalkFact) : Type 0 where
    pub e : Found s.table a f (suc p) b
    pub u : IrFunction
    pub there : slice_get ir.functions e.entry.function ≡ Some u
    pub fits : fact_is_there ir.shapes u e.entry.fact ≡ true
    pub code : slice_get u.code p ≡ Some (Call to g args)
    pub called : Called ir u g args

  at_call_of : (a : Aim) (f p g to : ℕ) (args : List ℕ) (b : WalkFact) → Has a f (suc p) b
      → CallsAt ir.functions f p to g args → AtCall a f p g to args b
  at_call_of a f p g to args b h call =
      let e = find s.table a f (suc p) b h in
      let held = all e.number e.entry e.at in
      let code =
      code_at ir e.entry.function p held.body (Call to g args) held.there
      (subst (λ k. instruction_at ir.functions k p ≡ Some (Call to g args)) (sym e.function) call)
      in
      record {
        e = e;
        u = held.body;
        there = held.there;
        fits = held.fits;
        code = code;
        called = called_at ir e.entry.function p g to args held.body well held.there code;
      }

  back_at : (a : Aim) (f p g to : ℕ) (args : List ℕ) (b : WalkFact) (r : Back)
      (c : AtCall a f p g to args b) → back to args b ≡ r
      → (back to args c.e.entry.fact ≡ r)
      × (back_in c.called.body.parameters to args c.e.entry.fact ≡ r)
  back_at a f p g to args b r c same =
      let here : back to args c.e.entry.fact ≡ r =
      ap (λ z. back to args z) c.e.fact ∙ same in
      (here, back_in_is c.called.body.parameters to args c.e.entry.fact c.called.count ∙ here)

  closed_return : (a : Aim) (f p g q to : ℕ) (args : List ℕ) (y b : WalkFact) → Has a f (suc p) b
      → CallsAt ir.functions f p to g args → ReturnsAt ir.functions g q
      → back to args b ≡ FromReturn y → Has (ToReturn y) g q y
  closed_return a f p g q to args y b h call ret same =
      let c = at_call_of a f p g to args b h call in
      let backs = back_at a f p g to args b (FromReturn y) c same in
      let ok =
      return_there ir c.u g to args c.called c.e.entry.fact y
      (there-from ir.shapes c.u c.e.entry.fact c.fits) backs.0 in
      has_return c.e.number c.e.entry c.e.at c.u c.there c.fits p to g args c.code c.e.place
      c.called y q ret.0 (ap exit_of backs.1) (is_there-from ir.shapes c.called.body y ok)
      (code_at ir g q c.called.body (Return ret.0) c.called.there ret.1)

  closed_stay : (a : Aim) (f p g q to : ℕ) (args : List ℕ) (b : WalkFact) → Has a f (suc p) b
      → CallsAt ir.functions f p to g args → ReturnsAt ir.functions g q
      → back to args b ≡ Stays → Has (ToReturn Here) g q Here
  closed_stay a f p g q to args b h call ret same =
      let c = at_call_of a f p g to args b h call in
      let backs = back_at a f p g to args b Stays c same in
      has_return c.e.number c.e.entry c.e.at c.u c.there c.fits p to g args c.code c.e.place
      c.called Here q ret.0 (ap exit_of backs.1) refl
      (code_at ir g q c.called.body (Return ret.0) c.called.there ret.1)

  closed_through : (a : Aim) (f p g to : ℕ) (args : List ℕ) (x y b : WalkFact)
      → Has a f (suc p) b → CallsAt ir.functions f p to g args → back to args b ≡ FromReturn y
      → Has (ToReturn y) g 0 x → Has a f p (at_call args x)
  closed_through a f p g to args x y b h call same inner =
      let c = at_call_of a f p g to args b h call in
      let backs = back_at a f p g to args b (FromReturn y) c same in
      let w = way_of g c.called.body x y c.called.there inner in
      let bound = bound_is args c.called.body x c.called.count in
      let ok =
      call_there ir c.u g args c.called x (there-from ir.shapes c.called.body x w.fits) in
      let before : before_call (back_in c.called.body.parameters to args c.e.entry.fact) args
      (first_fact w.piece) c.e.entry.fact ≡ at_call args x = rw (backs.1, w.first) bound.0 in
      let pass : passes args (at_call args x) (first_fact w.piece) (last_fact w.piece)
      c.e.entry.fact (back to args c.e.entry.fact) ≡ true =
      rw (backs.0, w.first, w.last) (and_from _ _ (same-refl y) bound.1) in
      moved c.e.entry.aim a c.e.entry.function f p (at_call args x) c.e.aim c.e.function
      (has_through c.e.number c.e.entry c.e.at c.u c.there c.fits p to g args c.code c.e.place
      c.called w.number w.piece (at_call args x) w.at w.function
      (w.last ∙ sym (ap exit_of backs.1)) before (is_there-from ir.shapes c.u (at_call args x) ok)
      pass)

  closed_past : (a : Aim) (f p g to : ℕ) (args : List ℕ) (b : WalkFact) → Has a f (suc p) b
      → CallsAt ir.functions f p to g args → back to args b ≡ Stays
      → Has (ToReturn Here) g 0 Here → Has a f p b
  closed_past a f p g to args b h call same inner =
      let c = at_call_of a f p g to args b h call in
      let backs = back_at a f p g to args b Stays c same in
      let w = way_of g c.called.body Here Here c.called.there inner in
      let before : before_call (back_in c.called.body.parameters to args c.e.entry.fact) args
      (first_fact w.piece) c.e.entry.fact ≡ c.e.entry.fact = rw backs.1 refl in
      let pass : passes args c.e.entry.fact (first_fact w.piece) (last_fact w.piece)
      c.e.entry.fact (back to args c.e.entry.fact) ≡ true =
      rw (backs.0, w.first, w.last) (and_from _ _ (same-refl c.e.entry.fact) refl) in
      subst (λ z. Has a f p z) c.e.fact (moved c.e.entry.aim a c.e.entry.function f p
      c.e.entry.fact c.e.aim c.e.function (has_through c.e.number c.e.entry c.e.at c.u c.there
      c.fits p to g args c.code c.e.place c.called w.number w.piece c.e.entry.fact w.at w.function
      (w.last ∙ sym (ap exit_of backs.1)) before c.fits pass))

  closed_caller : (f p g to : ℕ) (args : List ℕ) (x : WalkFact) → Has ToSite g 0 x
      → CallsAt ir.functions f p to g args → Has ToSite f p (at_call args x)
  closed_caller f p g to args x h call =
      let e = find s.table ToSite g 0 x h in
      let held = all e.number e.entry e.at in
      let w = body_of ir.functions f p (Call to g args) (slice_get ir.functions f) refl call in
      let code = code_at ir f p w.0 (Call to g args) w.1 call in
      let c = called_at ir f p g to args w.0 well w.1 code in
      let body : held.body ≡ c.body =
      same_bodies e.entry.function g held.body c.body held.there c.there e.function in
      let count : length args ≡ held.body.parameters =
      c.count ∙ ap (λ (v : IrFunction). v.parameters) (sym body) in
      let fits : There ir.shapes c.body.registers e.entry.fact =
      subst (λ (v : IrFunction). There ir.shapes v.registers e.entry.fact) body
      (there-from ir.shapes held.body e.entry.fact held.fits) in
      let ok = call_there ir w.0 g args c e.entry.fact fits in
      let bound = bound_is args held.body e.entry.fact count in
      subst (λ z. Has ToSite f p (at_call args z)) e.fact (has_caller e.number e.entry e.at
      held.body
      held.there held.fits e.place f p to args w.0 e.aim w.1
      (subst (λ k. slice_get w.0.code p ≡ Some (Call to k args)) (sym e.function) code)
      (is_there-from ir.shapes w.0 (at_call args e.entry.fact) ok) bound.1)

  module _ (none : position (is_start ir.functions) s.table ≡ None) where
    starts_so : (u : IrFunction) (x : WalkFact) → holds at_start x ≡ true
        → same (entry_fact true u x) Here ≡ true
    starts_so u Here h = refl
    starts_so u (Unwritten r z x) h = refl
    starts_so u (RootUnwritten x) h = refl
    starts_so u (ReadRoot x) h = absurd (false≢true h)
    starts_so u (ReadField z x) h = absurd (false≢true h)
    starts_so u Freed h = absurd (false≢true h)

    closed_start : (f : ℕ) (x : WalkFact) → IsTransaction ir.functions f
        → holds at_start x ≡ true → Has ToSite f 0 x → ⊥
    closed_start f x t h has_it =
        let e = find s.table ToSite f 0 x has_it in
        let there : slice_get ir.functions e.entry.function ≡ Some t.0 =
        subst (λ k. slice_get ir.functions k ≡ Some t.0) (sym e.function) t.1 in
        let begins = subst (λ z. holds at_start z ≡ true) (sym e.fact) h in
        let start : is_start ir.functions e.entry ≡ true =
        rw (e.aim, e.place, there, t.2) (starts_so t.0 e.entry.fact begins) in
        position_none (is_start ir.functions) s.table e.number e.entry none e.at start

    pub is_closed : IsClosed ir.functions Has
    is_closed = record {
      before = closed_before;
      at_return = closed_return;
      at_stay = closed_stay;
      through_call = closed_through;
      past_call = closed_past;
      at_caller = closed_caller;
      no_start = closed_start;
    }
