-- A certificate for what is derived: steps are added before the steps so far, and pieces for the
-- calls that are passed.
use Rattle.std.proofs.Common.{◌≡◌, ◌≤◌, ◌+◌, ◌++◌, ℕ, suc, Bool, true, false, List, [], ◌∷◌}
use Rattle.std.proofs.Common.{Option, Some, None, length, refl, sym, ◌∙◌, ap, arith, inl, inr}
use Rattle.std.proofs.Common.{⊎_elim}
use Rattle.std.specs.Prelude.{◌==◌, slice_get, option_and_then}
use Rattle.std.proofs.lemmas.Bool.{and_parts, and_from, or_left, or_right, eq-eqb, le-leb}
use Rattle.std.proofs.lemmas.Option.{slice_get_cases}
use Rattle.nvm_base.proofs.Lists.{get_last}
use Rattle.ir.specs.declared.instruction.Instruction.{Instruction}
use Rattle.ir.specs.declared.instruction.Instruction.TheVariants.{Jump, Branch, Call, Return, Trap}
use Rattle.ir.specs.declared.function.IrFunction.{IrFunction}
use Rattle.ir.specs.declared.function.Ir.{Ir}
use Rattle.ir.specs.declared.fact.Fact.{Fact as WalkFact}
use Rattle.ir.specs.declared.fact.Fact.TheVariants.{Here, Unwritten, RootUnwritten, ReadRoot}
use Rattle.ir.specs.declared.fact.Fact.TheVariants.{ReadField, Freed}
use Rattle.ir.specs.declared.fact.Origins.{Origins}
use Rattle.ir.specs.declared.fact.Origins.TheVariants.{Nowhere, One, Two}
use Rattle.ir.specs.declared.fact.Back.TheVariants.{FromReturn, Stays}
use Rattle.ir.specs.Places.{instruction_at, Leads, ReturnsAt}
use Rattle.ir.specs.Table.{AmongOrigins, origins, at_call, back}
use Rattle.ir.specs.Derived.{Passes}
use Rattle.ir.specs.Derived.Passes.{starts, along, through, past}
use Rattle.ir.specs.WellFormed.{IsWellFormed}
use Rattle.walk_check.specs.declared.certificate.Step.{Step}
use Rattle.walk_check.specs.declared.certificate.Piece.{Piece}
use Rattle.walk_check.specs.Facts.{fact_of, told, same, among}
use Rattle.walk_check.specs.Follow.{leads, array_read, binds, passes}
use Rattle.walk_check.specs.Keeps.{fact_is_there, all_there, last_step, first_fact, last_place}
use Rattle.walk_check.specs.Keeps.{last_fact, goes_along, goes_past, follows, holds_at_entry}
use Rattle.walk_check.specs.Keeps.{begins_piece, chain}
use Rattle.walk_check.specs.Keeps.{piece_keeps, is_return, passing_keeps}
use Rattle.walk_check.proofs.Named.{There, is_there-from, there_origins, Called, called_at}
use Rattle.walk_check.proofs.Named.{well_at, call_there, return_there}
use Rattle.walk_check.specs.inside.Grown.{ArePassing, Grows}
use Rattle.walk_check.specs.inside.Grown.ArePassing.{one_more}
use Rattle.walk_check.specs.inside.Grown.Grows.{stays, grows}
use Rattle.walk_check.proofs.Grown.{grows_on}
use Rattle.walk_check.proofs.Grown.{chain_grown}

pub same-refl : (a : WalkFact) → same a a ≡ true
same-refl Here = refl
same-refl (Unwritten r s x) =
    and_from _ _ (eq-eqb r r refl) (and_from _ _ (eq-eqb s s refl) (eq-eqb x x refl))
same-refl (RootUnwritten x) = eq-eqb x x refl
same-refl (ReadRoot x) = eq-eqb x x refl
same-refl (ReadField s x) = and_from _ _ (eq-eqb s s refl) (eq-eqb x x refl)
same-refl Freed = refl

pub among-from : (a : WalkFact) (o : Origins) → AmongOrigins a o → among a o ≡ true
among-from a Nowhere m = absurd m
among-from a (One b) m = rw m (same-refl b)
among-from a (Two b c) (inl m) = or_left (same a b) (same a c) (rw m (same-refl b))
among-from a (Two b c) (inr m) = or_right (same a b) (same a c) (rw m (same-refl c))

pub next-from : (p q : ℕ) → q ≡ suc p → (q == p + 1) ≡ true
next-from p q is = let e : q ≡ p + 1 = omega arith in eq-eqb q (p + 1) e

pub leads-from : (i : Instruction) (p q : ℕ) → Leads i p q → leads i p q ≡ true
leads-from (Jump place) p q h = eq-eqb q place h
leads-from (Branch on place) p q (inl h) = or_left _ _ (next-from p q h)
leads-from (Branch on place) p q (inr h) = or_right _ _ (eq-eqb q place h)
leads-from (Call to g args) p q h = absurd h
leads-from (Return from) p q h = absurd h
leads-from (Trap kind) p q h = absurd h
leads-from _ p q h = next-from p q h

pub told-is : (b : WalkFact) → fact_of (told b) ≡ b
told-is Here = refl
told-is (Unwritten r s x) = refl
told-is (RootUnwritten x) = refl
told-is (ReadRoot x) = refl
told-is (ReadField s x) = refl
told-is Freed = refl

abbrev pub step_at : ℕ → WalkFact → Option ℕ → Step
step_at p b t = record { place = p; fact = told b; through = t }

pub code_at : (ir : Ir) (f p : ℕ) (u : IrFunction) (i : Instruction)
    → slice_get ir.functions f ≡ Some u → instruction_at ir.functions f p ≡ Some i
    → slice_get u.code p ≡ Some i
code_at ir f p u i there is =
    ap (λ (o : Option IrFunction). option_and_then (λ (v : IrFunction). slice_get v.code p) o)
    (sym there) ∙ is

module _ (ir : Ir) where
  -- the rest of a piece, from b at p on to z at q
  pub record Tail (ps : List Piece) (u : IrFunction) (p : ℕ) (b : WalkFact) (q : ℕ)
      (z : WalkFact) : Type 0 where
    pub passing : Option ℕ
    pub rest : List Step
    pub chained : (opens : Bool) → chain ps opens u false (step_at p b passing) rest ≡ true
    pub there : all_there ir.shapes u (step_at p b passing ∷ rest) ≡ true
    pub last : last_step (step_at p b passing) rest ≡ step_at q z None

  pub fact_there : (u : IrFunction) (b : WalkFact) → There ir.shapes u.registers b
      → fact_is_there ir.shapes u (fact_of (told b)) ≡ true
  fact_there u b h = rw (told-is b) (is_there-from ir.shapes u b h)

  pub tail_end : (ps : List Piece) (u : IrFunction) (q : ℕ) (z : WalkFact)
      → There ir.shapes u.registers z → Tail ps u q z q z
  tail_end ps u q z h = record {
    passing = None;
    rest = [];
    chained = λ opens. refl;
    there = and_from _ _ (fact_there u z h) refl;
    last = refl;
  }

  pub tail_grown : {ps qs : List Piece} (u : IrFunction) (p : ℕ) (b : WalkFact) (q : ℕ)
      (z : WalkFact) → Grows ps qs → Tail ps u p b q z → Tail qs u p b q z
  tail_grown u p b q z g t = record {
    passing = t.passing;
    rest = t.rest;
    chained = λ opens. chain_grown opens u false (step_at p b t.passing) t.rest g (t.chained opens);
    there = t.there;
    last = t.last;
  }

  pub goes-from : (o : Option Instruction) (i : Instruction) (p p' : ℕ) (a b : WalkFact)
      (t t' : Option ℕ) → o ≡ Some i → Leads i p p' → AmongOrigins a (origins i b)
      → goes_along o (step_at p a t) (step_at p' b t') ≡ true
  goes-from o i p p' a b t t' is to m =
      rw (is, told-is a, told-is b) (and_from _ _ (leads-from i p p' to)
      (or_left _ (array_read i a b) (among-from a (origins i b) m)))

  pub before_along : (ps : List Piece) (u : IrFunction) (p p' : ℕ) (i : Instruction)
      (a b : WalkFact) (q : ℕ) (z : WalkFact) → slice_get u.code p ≡ Some i → Leads i p p'
      → AmongOrigins a (origins i b) → There ir.shapes u.registers a → Tail ps u p' b q z
      → Tail ps u p a q z
  before_along ps u p p' i a b q z is to m fits t = record {
    passing = None;
    rest = step_at p' b t.passing ∷ t.rest;
    chained =
        λ opens. and_from _ _ (goes-from (slice_get u.code p) i p p' a b None t.passing is to m)
        (t.chained opens);
    there = and_from _ _ (fact_there u a fits) t.there;
    last = t.last;
  }

  pub past-from : (o : Option Instruction) (r : Option Piece) (piece : Piece) (p to g : ℕ)
      (args : List ℕ) (a b : WalkFact) (t t' : Option ℕ) → o ≡ Some (Call to g args)
      → r ≡ Some piece → piece.function ≡ g
      → passes args a (first_fact piece) (last_fact piece) b (back to args b) ≡ true
      → goes_past o r (step_at p a t) (step_at (suc p) b t') ≡ true
  past-from o r piece p to g args a b t t' is there named h =
      rw (is, there, told-is a, told-is b) (and_from _ _ (eq-eqb piece.function g named)
      (and_from _ _ (next-from p (suc p) refl) h))

  pub before_past : (ps : List Piece) (u : IrFunction) (n : ℕ) (piece : Piece) (p to g : ℕ)
      (args : List ℕ) (a b : WalkFact) (q : ℕ) (z : WalkFact) → slice_get ps n ≡ Some piece
      → slice_get u.code p ≡ Some (Call to g args) → piece.function ≡ g
      → passes args a (first_fact piece) (last_fact piece) b (back to args b) ≡ true
      → There ir.shapes u.registers a → Tail ps u (suc p) b q z → Tail ps u p a q z
  before_past ps u n piece p to g args a b q z there is named h fits t = record {
    passing = Some n;
    rest = step_at (suc p) b t.passing ∷ t.rest;
    chained =
        λ opens. and_from _ _ (past-from (slice_get u.code p) (slice_get ps n) piece p to g args a
        b (Some n) t.passing is there named h) (t.chained opens);
    there = and_from _ _ (fact_there u a fits) t.there;
    last = t.last;
  }

  -- a whole piece
  pub record Closed (ps : List Piece) (opens : Bool) (g : ℕ) (first : WalkFact) (q : ℕ)
      (y : WalkFact) : Type 0 where
    pub piece : Piece
    pub keeps : piece_keeps ir ps opens piece ≡ true
    pub named : piece.function ≡ g
    pub first_is : first_fact piece ≡ first
    pub place_is : last_place piece ≡ q
    pub last_is : last_fact piece ≡ y

  pub chain_entry : (ps : List Piece) (opens : Bool) (u : IrFunction) (a : Step) (rest : List Step)
      → chain ps opens u false a rest ≡ true → chain ps opens u true a rest ≡ true
  chain_entry ps opens u a [] h = h
  chain_entry ps opens u a (b ∷ rest) h =
      let parts = and_parts _ _ h in
      and_from _ _ (or_right (begins_piece opens u a b) (follows ps u a b a.through) parts.0)
      parts.1

  pub close : (ps : List Piece) (opens : Bool) (g : ℕ) (v : IrFunction) (x : WalkFact) (q : ℕ)
      (y : WalkFact) → slice_get ir.functions g ≡ Some v → Tail ps v 0 x q y
      → Closed ps opens g x q y
  close ps opens g v x q y there t = record {
    piece = record { function = g; steps = step_at 0 x t.passing ∷ t.rest };
    keeps =
        rw there (and_from _ _ t.there (chain_entry ps opens v (step_at 0 x t.passing) t.rest
        (t.chained opens)));
    named = refl;
    first_is = told-is x;
    place_is = ap (λ (s : Step). s.place) t.last;
    last_is = ap (λ (s : Step). fact_of s.fact) t.last ∙ told-is y;
  }

  begins-from : (opens : Bool) (v : IrFunction) (x : WalkFact) (t : Option ℕ)
      → holds_at_entry opens v x ≡ true
      → begins_piece opens v (step_at 0 Here None) (step_at 0 x t) ≡ true
  begins-from opens v x t h = rw (told-is x) h

  pub close_begun : (ps : List Piece) (opens : Bool) (g : ℕ) (v : IrFunction) (x : WalkFact)
      (q : ℕ) (y : WalkFact) → slice_get ir.functions g ≡ Some v → holds_at_entry opens v x ≡ true
      → Tail ps v 0 x q y → Closed ps opens g Here q y
  close_begun ps opens g v x q y there h t = record {
    piece = record { function = g; steps = step_at 0 Here None ∷ step_at 0 x t.passing ∷ t.rest };
    keeps =
        rw there (and_from _ _ t.there (and_from _ _
        (or_left _ (follows ps v (step_at 0 Here None) (step_at 0 x t.passing) None)
        (begins-from opens v x t.passing h)) (t.chained opens)));
    named = refl;
    first_is = refl;
    place_is = ap (λ (s : Step). s.place) t.last;
    last_is = ap (λ (s : Step). fact_of s.fact) t.last ∙ told-is y;
  }

  -- a piece that begins with the fact that is bound at a call
  pub record Entry (ps : List Piece) (g : ℕ) (args : List ℕ) (x : WalkFact) (q : ℕ)
      (y : WalkFact) : Type 0 where
    pub first : WalkFact
    pub closed : Closed ps false g first q y
    pub binding : binds args (at_call args x) first ≡ true

  entry_register : (ps : List Piece) (g : ℕ) (v : IrFunction) (args : List ℕ) (r s x q : ℕ)
      (y : WalkFact) (o : Option ℕ) → slice_get args r ≡ o → slice_get ir.functions g ≡ Some v
      → length args ≡ v.parameters → Tail ps v 0 (Unwritten r s x) q y
      → Entry ps g args (Unwritten r s x) q y
  entry_register ps g v args r s x q y (Some a) is there count t = record {
    first = Unwritten r s x;
    closed = close ps false g v (Unwritten r s x) q y there t;
    binding = rw is (same-refl (Unwritten a s x));
  }
  entry_register ps g v args r s x q y None is there count t = record {
    first = Here;
    closed =
        close_begun ps false g v (Unwritten r s x) q y there
        (le-leb v.parameters r (⊎_elim (λ e. absurd (some_none e.0 e.2))
        (λ e. let past : length args ≤ r = e.0 in omega arith) (slice_get_cases args r).1)) t;
    binding = rw is refl;
  }
    where
      some_none : (a : ℕ) → slice_get args r ≡ Some a → ⊥
      some_none a h = let no : None ≡ Some a = sym is ∙ h in absurd cc

  pub entry : (ps : List Piece) (g : ℕ) (v : IrFunction) (args : List ℕ) (x : WalkFact) (q : ℕ)
      (y : WalkFact) → slice_get ir.functions g ≡ Some v → length args ≡ v.parameters
      → Tail ps v 0 x q y → Entry ps g args x q y
  entry ps g v args (Unwritten r s x) q y there count t =
      entry_register ps g v args r s x q y (slice_get args r) refl there count t
  entry ps g v args Here q y there count t =
      record { first = Here; closed = close ps false g v Here q y there t; binding = refl }
  entry ps g v args (RootUnwritten x) q y there count t =
      record {
        first = RootUnwritten x;
        closed = close ps false g v (RootUnwritten x) q y there t;
        binding = same-refl (RootUnwritten x);
      }
  entry ps g v args (ReadRoot x) q y there count t =
      record {
        first = ReadRoot x;
        closed = close ps false g v (ReadRoot x) q y there t;
        binding = same-refl (ReadRoot x);
      }
  entry ps g v args (ReadField s x) q y there count t =
      record {
        first = ReadField s x;
        closed = close ps false g v (ReadField s x) q y there t;
        binding = same-refl (ReadField s x);
      }
  entry ps g v args Freed q y there count t =
      record { first = Freed; closed = close ps false g v Freed q y there t; binding = refl }

  -- steps back from a tail, with more pieces that pass calls
  pub record Built (ps : List Piece) (u : IrFunction) (o : ℕ) (e : WalkFact) (q : ℕ)
      (z : WalkFact) : Type 0 where
    pub pieces : List Piece
    pub all : ArePassing ir pieces
    pub grown : Grows ps pieces
    pub tail : Tail pieces u o e q z
    pub fits : There ir.shapes u.registers e

  return-from : (g q : ℕ) (o : Option Instruction) (from : ℕ) → o ≡ Some (Return from)
      → is_return o ≡ true
  return-from g q o from is = rw is refl

  -- a piece that passes calls is added
  adds : (ps : List Piece) (g q : ℕ) (first y : WalkFact) (c : Closed ps false g first q y)
      → ReturnsAt ir.functions g q → passing_keeps ir ps c.piece ≡ true
  adds ps g q first y c ret =
      and_from _ _ c.keeps (rw (c.named, c.place_is)
      (return-from g q (instruction_at ir.functions g q) ret.0 ret.1))

  pub by_return : (ps : List Piece) (u : IrFunction) (p g to q' : ℕ) (args : List ℕ)
      (x y b : WalkFact) (q : ℕ) (z : WalkFact) (c : Called ir u g args)
      → slice_get u.code p ≡ Some (Call to g args) → ReturnsAt ir.functions g q'
      → back to args b ≡ FromReturn y → Built ps c.body 0 x q' y → Tail ps u (suc p) b q z
      → Built ps u p (at_call args x) q z
  by_return ps u p g to q' args x y b q z c is ret same inner t =
      let e = entry inner.pieces g c.body args x q' y c.there c.count inner.tail in
      let piece = e.closed.piece in
      let more = grows piece inner.grown in
      let fits = call_there ir u g args c x inner.fits in
      let follow : passes args (at_call args x) (first_fact piece) (last_fact piece) b
      (back to args b) ≡ true =
      rw (same, e.closed.first_is, e.closed.last_is) (and_from _ _ (same-refl y) e.binding) in
      record {
        pieces = inner.pieces ++ piece ∷ [];
        all = one_more piece inner.all (adds inner.pieces g q' e.first y e.closed ret);
        grown = more;
        tail =
            before_past (inner.pieces ++ piece ∷ []) u (length inner.pieces) piece p to g args
            (at_call args x) b q z (get_last inner.pieces piece) is e.closed.named follow
            fits (tail_grown u (suc p) b q z more t);
        fits = fits;
      }

  pub by_staying : (ps : List Piece) (u : IrFunction) (p g to q' : ℕ) (args : List ℕ)
      (b : WalkFact) (q : ℕ) (z : WalkFact) (c : Called ir u g args)
      → slice_get u.code p ≡ Some (Call to g args) → ReturnsAt ir.functions g q'
      → back to args b ≡ Stays → There ir.shapes u.registers b → Built ps c.body 0 Here q' Here
      → Tail ps u (suc p) b q z → Built ps u p b q z
  by_staying ps u p g to q' args b q z c is ret same fits inner t =
      let e = close inner.pieces false g c.body Here q' Here c.there inner.tail in
      let piece = e.piece in
      let more = grows piece inner.grown in
      let follow : passes args b (first_fact piece) (last_fact piece) b (back to args b) ≡ true =
      rw (same, e.first_is, e.last_is) (and_from _ _ (same-refl b) refl) in
      record {
        pieces = inner.pieces ++ piece ∷ [];
        all = one_more piece inner.all (adds inner.pieces g q' Here Here e ret);
        grown = more;
        tail =
            before_past (inner.pieces ++ piece ∷ []) u (length inner.pieces) piece p to g args b b
            q z (get_last inner.pieces piece) is e.named follow fits
            (tail_grown u (suc p) b q z more t);
        fits = fits;
      }

  pub then_built : {ps : List Piece} (u : IrFunction) (o : ℕ) (e : WalkFact) (p : ℕ)
      (a : WalkFact) (q : ℕ) (z : WalkFact) (s : Built ps u p a q z) → Built s.pieces u o e q z
      → Built ps u o e q z
  then_built u o e p a q z s r =
      record {
        pieces = r.pieces;
        all = r.all;
        grown = grows_on s.grown r.grown;
        tail = r.tail;
        fits = r.fits;
      }

  module _ (well : IsWellFormed ir) where
    pub build : {f o p : ℕ} {e b : WalkFact} → Passes ir.functions f o e p b
        → (ps : List Piece) (u : IrFunction) (q : ℕ) (z : WalkFact) → ArePassing ir ps
        → slice_get ir.functions f ≡ Some u → There ir.shapes u.registers b → Tail ps u p b q z
        → Built ps u o e q z
    build starts ps u q z all there fits t =
        record { pieces = ps; all = all; grown = stays; tail = t; fits = fits }
    build (along {f = f} {p = p} {q = p'} {a = a} {b = b} i d is to m) ps u q z all there fits t =
        let at = code_at ir f p u i there is in
        let before =
        there_origins ir u.registers (length u.code) i b (well_at ir f p u i well there at)
        fits a m in
        build d ps u q z all there before (before_along ps u p p' i a b q z at to m before t)
    build (through {f = f} {o = o} {p = p} {g = g} {q = q'} {to = to} {args = args} {e = e}
        {x = x} {y = y} {b = b} d call r ret same) ps u q z all there fits t =
        let at = code_at ir f p u (Call to g args) there call in
        let c = called_at ir f p g to args u well there at in
        let y_fits = return_there ir u g to args c b y fits same in
        let inner = build r ps c.body q' y all c.there y_fits (tail_end ps c.body q' y y_fits) in
        let s = by_return ps u p g to q' args x y b q z c at ret same inner t in
        then_built u o e p (at_call args x) q z s
        (build d s.pieces u q z s.all there s.fits s.tail)
    build (past {f = f} {o = o} {p = p} {g = g} {q = q'} {to = to} {args = args} {e = e} {b = b} d
        call r ret same) ps u q z all there fits t =
        let at = code_at ir f p u (Call to g args) there call in
        let c = called_at ir f p g to args u well there at in
        let inner = build r ps c.body q' Here all c.there tt (tail_end ps c.body q' Here tt) in
        let s = by_staying ps u p g to q' args b q z c at ret same fits inner t in
        then_built u o e p b q z s (build d s.pieces u q z s.all there s.fits s.tail)
