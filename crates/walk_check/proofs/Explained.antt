-- A certificate for each logged site.
use Rattle.std.proofs.Common.{◌≡◌, ◌+◌, ℕ, Bool, true, false, List, [], ◌∷◌, Option, Some, None}
use Rattle.std.proofs.Common.{length, refl, sym, ◌∙◌, ap, subst, inl, inr}
use Rattle.std.specs.Prelude.{slice_get, map, not, option_and_then}
use Rattle.std.specs.List.{AllByRecursion}
use Rattle.std.proofs.lemmas.Bool.{false≢true, and_parts, and_from, eq-eqb}
use Rattle.ir.specs.declared.instruction.Target.{Target}
use Rattle.ir.specs.declared.instruction.Target.TheVariants.{Root, Field}
use Rattle.ir.specs.declared.instruction.Instruction.{Instruction}
use Rattle.ir.specs.declared.instruction.Instruction.TheVariants.{Store, New, Call}
use Rattle.ir.specs.declared.function.IrFunction.{IrFunction}
use Rattle.ir.specs.declared.function.Ir.{Ir}
use Rattle.ir.specs.declared.site.Site.{Site}
use Rattle.ir.specs.declared.fact.Fact.{Fact as WalkFact}
use Rattle.ir.specs.declared.fact.Fact.TheVariants.{Here, Unwritten, RootUnwritten, ReadRoot}
use Rattle.ir.specs.declared.fact.Fact.TheVariants.{ReadField, Freed}
use Rattle.ir.specs.declared.fact.Origins.{Origins}
use Rattle.ir.specs.declared.fact.Origins.TheVariants.{One}
use Rattle.ir.specs.Places.{instruction_at, IsTransaction}
use Rattle.ir.specs.Walk.{at_start}
use Rattle.ir.specs.Table.{holds, AmongOrigins, at_call}
use Rattle.ir.specs.Derived.{Flows}
use Rattle.ir.specs.Derived.Flows.{first, called, on, across, beside}
use Rattle.ir.specs.Clobber.{unwritten, read_fact, SomeWalk, IsClobber, IsClobberFill, WritesHeader}
use Rattle.ir.specs.Clobber.{LoggedAt, IsLogged}
use Rattle.ir.specs.WellFormed.{IsWellFormed}
use Rattle.ir.proofs.Law.{exact}
use Rattle.walk_check.specs.declared.certificate.Piece.{Piece}
use Rattle.walk_check.specs.declared.certificate.Reason.{Reason}
use Rattle.walk_check.specs.declared.certificate.Reason.TheVariants.{Always, PastFree, Clobber}
use Rattle.walk_check.specs.Facts.{same}
use Rattle.walk_check.specs.Follow.{binds, unwritten_ends}
use Rattle.walk_check.specs.Keeps.{first_fact, last_place, last_fact, is_tx, by_call}
use Rattle.walk_check.specs.Keeps.{pieces_keep, walk_keeps, gives_reason, reason_keeps, bad_reason}
use Rattle.walk_check.specs.Law.{LoggedHaveCertificates}
use Rattle.walk_check.proofs.Named.{There, there_origins, called_at, well_at, call_there}
use Rattle.walk_check.proofs.Named.{return_there, target_unwritten, target_read}
use Rattle.walk_check.specs.inside.Grown.{ArePassing, Grows}
use Rattle.walk_check.specs.inside.Grown.ArePassing.{no_piece}
use Rattle.walk_check.specs.inside.Grown.Grows.{stays}
use Rattle.walk_check.proofs.Grown.{grows_on, pieces_grown}
use Rattle.walk_check.proofs.Grown.{walk_grown, no_bad_piece}
use Rattle.walk_check.proofs.Made.{among-from, code_at, Tail, tail_end, before_along, Closed}
use Rattle.walk_check.proofs.Made.{close, close_begun, entry, by_return, by_staying, build}

-- the function that an instruction is in
pub body_of : (functions : List IrFunction) (f p : ℕ) (i : Instruction) (o : Option IrFunction)
    → slice_get functions f ≡ o
    → option_and_then (λ (u : IrFunction). slice_get u.code p) o ≡ Some i
    → (u : IrFunction) × (slice_get functions f ≡ Some u)
body_of functions f p i None is there = absurd cc
body_of functions f p i (Some u) is there = (u, is)

module _ (ir : Ir) (well : IsWellFormed ir) where
  body : (f p : ℕ) (i : Instruction) → instruction_at ir.functions f p ≡ Some i
      → (u : IrFunction) × (slice_get ir.functions f ≡ Some u)
  body f p i there = body_of ir.functions f p i (slice_get ir.functions f) refl there

  module _ (site : Site) (ends : Origins) where
    -- the pieces of a walk after a piece that ends at q with z
    abbrev pub Later : List Piece → (f q : ℕ) → WalkFact → List Piece → Type 0
    Later ps f q z [] = (f ≡ site.function) × (q ≡ site.place) × AmongOrigins z ends
    Later ps f q z (b ∷ rest) =
        (to : ℕ) × (args : List ℕ) × (instruction_at ir.functions f q
        ≡ Some (Call to b.function args)) × (binds args z (first_fact b) ≡ true)
        × (pieces_keep ir ps site ends false b rest ≡ true)

    later_grown : {ps qs : List Piece} (f q : ℕ) (z : WalkFact) (later : List Piece) → Grows ps qs
        → Later ps f q z later → Later qs f q z later
    later_grown f q z [] g h = h
    later_grown f q z (b ∷ rest) g h =
        (h.0, h.1, h.2, h.3, pieces_grown ir site ends false b rest g h.4)

    by_call-from : (o : Option Instruction) (a b : Piece) (to : ℕ) (args : List ℕ) (z : WalkFact)
        → o ≡ Some (Call to b.function args) → last_fact a ≡ z
        → binds args z (first_fact b) ≡ true → by_call o a b ≡ true
    by_call-from o a b to args z is last h =
        rw (is, last) (and_from _ _ (eq-eqb b.function b.function refl) h)

    pub later_keeps : (ps : List Piece) (opens : Bool) (f : ℕ) (e : WalkFact) (q : ℕ) (z : WalkFact)
        (later : List Piece) (c : Closed ir ps opens f e q z) → Later ps f q z later
        → pieces_keep ir ps site ends opens c.piece later ≡ true
    later_keeps ps opens f e q z [] c h =
        and_from _ _ c.keeps (and_from _ _ (eq-eqb c.piece.function site.function (c.named ∙ h.0))
        (and_from _ _ (eq-eqb (last_place c.piece) site.place (c.place_is ∙ h.1))
        (rw c.last_is (among-from z ends h.2))))
    later_keeps ps opens f e q z (b ∷ rest) c h =
        let here : instruction_at ir.functions c.piece.function (last_place c.piece)
        ≡ Some (Call h.0 b.function h.1) = rw (c.named, c.place_is) h.2 in
        and_from _ _ c.keeps (and_from _ _ (by_call-from
        (instruction_at ir.functions c.piece.function (last_place c.piece)) c.piece b h.0 h.1
        z here c.last_is h.3) h.4)

    record WalkBuilt (ps : List Piece) : Type 0 where
      pub pieces : List Piece
      pub all : ArePassing ir pieces
      pub grown : Grows ps pieces
      pub walk : List Piece
      pub keeps : walk_keeps ir pieces site ends walk ≡ true

    then_walk : {ps qs : List Piece} → Grows ps qs → WalkBuilt qs → WalkBuilt ps
    then_walk g w =
        record {
          pieces = w.pieces;
          all = w.all;
          grown = grows_on g w.grown;
          walk = w.walk;
          keeps = w.keeps;
        }

    pub is_transaction-from : (f : ℕ) (o : Option IrFunction) → slice_get ir.functions f ≡ o
        → IsTransaction ir.functions f → is_tx o ≡ true
    is_transaction-from f None is t = absurd (let no : None ≡ Some t.0 = sym is ∙ t.1 in absurd cc)
    is_transaction-from f (Some u) is t = let e : u ≡ t.0 = let some : Some u ≡ Some t.0 =
        sym is ∙ t.1 in cc in rw e t.2

    opens_with : (ps : List Piece) (f : ℕ) (q : ℕ) (z : WalkFact) (later : List Piece)
        (c : Closed ir ps true f Here q z) → ArePassing ir ps → IsTransaction ir.functions f
        → Later ps f q z later → WalkBuilt ps
    opens_with ps f q z later c all t h =
        let transaction : is_tx (slice_get ir.functions c.piece.function) ≡ true =
        rw c.named (is_transaction-from f (slice_get ir.functions f) refl t) in
        let start : same (first_fact c.piece) Here ≡ true = rw c.first_is refl in
        record {
          pieces = ps;
          all = all;
          grown = stays;
          walk = c.piece ∷ later;
          keeps =
              and_from _ _ (and_from _ _ transaction start)
              (later_keeps ps true f Here q z later c h);
        }

    begins_walk : (ps : List Piece) (f : ℕ) (u : IrFunction) (e : WalkFact) (q : ℕ) (z : WalkFact)
        (later : List Piece) → ArePassing ir ps → slice_get ir.functions f ≡ Some u
        → IsTransaction ir.functions f → holds at_start e ≡ true → Tail ir ps u 0 e q z
        → Later ps f q z later → WalkBuilt ps
    begins_walk ps f u Here q z later all there t h tail l =
        opens_with ps f q z later (close ir ps true f u Here q z there tail) all t l
    begins_walk ps f u (Unwritten r s x) q z later all there t h tail l =
        opens_with ps f q z later (close_begun ir ps true f u (Unwritten r s x) q z there refl
        tail) all t l
    begins_walk ps f u (RootUnwritten x) q z later all there t h tail l =
        opens_with ps f q z later (close_begun ir ps true f u (RootUnwritten x) q z there refl
        tail) all t l
    begins_walk ps f u (ReadRoot x) q z later all there t h tail l = absurd (false≢true h)
    begins_walk ps f u (ReadField s x) q z later all there t h tail l = absurd (false≢true h)
    begins_walk ps f u Freed q z later all there t h tail l = absurd (false≢true h)

    build_walk : {f p : ℕ} {b : WalkFact} → Flows ir.functions f p b
        → (ps : List Piece) (u : IrFunction) (q : ℕ) (z : WalkFact) (later : List Piece)
        → ArePassing ir ps → slice_get ir.functions f ≡ Some u → There ir.shapes u.registers b
        → Tail ir ps u p b q z → Later ps f q z later → WalkBuilt ps
    build_walk (first {f = f} {e = e} t h) ps u q z later all there fits tail l =
        begins_walk ps f u e q z later all there t h tail l
    build_walk (called {f = f} {p = p} {g = g} {to = to} {args = args} {x = x} d call) ps u q z
        later all there fits tail l =
        let v = body f p (Call to g args) call in
        let at = code_at ir f p v.0 (Call to g args) v.1 call in
        let c = called_at ir f p g to args v.0 well v.1 at in
        let bodies : u ≡ c.body = let some : Some u ≡ Some c.body = sym there ∙ c.there in cc in
        let count : length args ≡ u.parameters = rw bodies c.count in
        let before =
        call_there ir v.0 g args c x (subst
        (λ (w : IrFunction). There ir.shapes w.registers x) bodies fits) in
        let e = entry ir ps g u args x q z there count tail in
        let call' : instruction_at ir.functions f p
        ≡ Some (Call to e.closed.piece.function args) = rw e.closed.named call in
        let binding : binds args (at_call args x) (first_fact e.closed.piece) ≡ true =
        rw e.closed.first_is e.binding in
        build_walk d ps v.0 p (at_call args x) (e.closed.piece ∷ later) all v.1 before
        (tail_end ir ps v.0 p (at_call args x) before)
        (to, args, call', binding, later_keeps ps false g e.first q z later e.closed l)
    build_walk (on {f = f} {p = p} {q = p'} {a = a} {b = b} i d is to m) ps u q z later all there
        fits tail l =
        let at = code_at ir f p u i there is in
        let before =
        there_origins ir u.registers (length u.code) i b (well_at ir f p u i well there at)
        fits a m in
        build_walk d ps u q z later all there before
        (before_along ir ps u p p' i a b q z at to m before tail) l
    build_walk (across {f = f} {p = p} {g = g} {q = q'} {to = to} {args = args} {x = x} {y = y}
        {b = b} d call r ret same) ps u q z later all there fits tail l =
        let at = code_at ir f p u (Call to g args) there call in
        let c = called_at ir f p g to args u well there at in
        let y_fits = return_there ir u g to args c b y fits same in
        let inner =
        build ir well r ps c.body q' y all c.there y_fits
        (tail_end ir ps c.body q' y y_fits) in
        let s = by_return ir ps u p g to q' args x y b q z c at ret same inner tail in
        then_walk s.grown (build_walk d s.pieces u q z later s.all there s.fits s.tail
        (later_grown f q z later s.grown l))
    build_walk (beside {f = f} {p = p} {g = g} {q = q'} {to = to} {args = args} {b = b} d call r
        ret same) ps u q z later all there fits tail l =
        let at = code_at ir f p u (Call to g args) there call in
        let c = called_at ir f p g to args u well there at in
        let inner =
        build ir well r ps c.body q' Here all c.there tt (tail_end ir ps c.body q' Here tt) in
        let s = by_staying ir ps u p g to q' args b q z c at ret same fits inner tail in
        then_walk s.grown (build_walk d s.pieces u q z later s.all there s.fits s.tail
        (later_grown f q z later s.grown l))

    -- a walk to the site
    to_site : (ps : List Piece) (u : IrFunction) (b : WalkFact) → ArePassing ir ps
        → slice_get ir.functions site.function ≡ Some u → There ir.shapes u.registers b
        → AmongOrigins b ends → SomeWalk ir.functions site.function site.place b → WalkBuilt ps
    to_site ps u b all there fits m w =
        build_walk ((exact ir.functions site.function site.place b).0 w) ps u site.place b [] all
        there fits (tail_end ir ps u site.place b fits) (refl, refl, m)

  -- a reason for a site
  record ReasonBuilt (ps : List Piece) (site : Site) : Type 0 where
    pub pieces : List Piece
    pub all : ArePassing ir pieces
    pub grown : Grows ps pieces
    pub reason : Reason
    pub keeps : reason_keeps ir pieces site reason ≡ true

  pub target_end : (target : Target) → AmongOrigins (unwritten target) (unwritten_ends target)
  target_end (Root x None) = refl
  target_end (Root x (Some i)) = inl refl
  target_end (Field b s x i) = refl

  fill_reason : (ps : List Piece) (site : Site) → ArePassing ir ps → site.fill ≡ true
      → IsClobberFill ir.functions site.function site.place → ReasonBuilt ps site
  fill_reason ps site all fill h =
      let u = body site.function site.place (New h.0 h.1 h.2 h.3) h.4 in
      let w = to_site site (One Freed) ps u.0 Freed all u.1 tt refl h.5 in
      record {
        pieces = w.pieces;
        all = w.all;
        grown = w.grown;
        reason = PastFree (record { pieces = w.walk });
        keeps = rw h.4 (and_from _ _ fill w.keeps);
      }

  pub clobber_keeps : (ps : List Piece) (site : Site) (target : Target) (from line : ℕ)
      (unwrites reads : List Piece)
      → instruction_at ir.functions site.function site.place ≡ Some (Store target from line)
      → site.fill ≡ false → walk_keeps ir ps site (unwritten_ends target) unwrites ≡ true
      → walk_keeps ir ps site (One (read_fact target)) reads ≡ true
      → reason_keeps ir ps site (Clobber (record { pieces = unwrites })
      (record { pieces = reads })) ≡ true
  clobber_keeps ps site target from line unwrites reads is fill u r =
      rw is (and_from _ _ (ap not fill) (and_from _ _ u r))

  clobber_reason : (ps : List Piece) (site : Site) → ArePassing ir ps → site.fill ≡ false
      → IsClobber ir.functions site.function site.place → ReasonBuilt ps site
  clobber_reason ps site all fill h =
      let target = h.0 in
      let u = body site.function site.place (Store target h.1 h.2) h.3 in
      let ok =
      well_at ir site.function site.place u.0 (Store target h.1 h.2) well u.1
      (code_at ir site.function site.place u.0 (Store target h.1 h.2) u.1 h.3) in
      let unwrites =
      to_site site (unwritten_ends target) ps u.0 (unwritten target) all u.1
      (target_unwritten ir.shapes u.0.registers target ok.1) (target_end target) h.4 in
      let reads =
      to_site site (One (read_fact target)) unwrites.pieces u.0 (read_fact target) unwrites.all u.1
      (target_read ir.shapes u.0.registers target ok.1) refl h.5 in
      record {
        pieces = reads.pieces;
        all = reads.all;
        grown = grows_on unwrites.grown reads.grown;
        reason = Clobber (record { pieces = unwrites.walk }) (record { pieces = reads.walk });
        keeps =
            clobber_keeps reads.pieces site target h.1 h.2 unwrites.walk reads.walk h.3 fill
            (walk_grown ir site (unwritten_ends target) unwrites.walk reads.grown unwrites.keeps)
            reads.keeps;
      }

  header_reason : (ps : List Piece) (site : Site) → ArePassing ir ps → site.fill ≡ false
      → WritesHeader ir.functions site.function site.place → ReasonBuilt ps site
  header_reason ps site all fill h = record {
    pieces = ps;
    all = all;
    grown = stays;
    reason = Always;
    keeps = header h;
  }
    where
      header : WritesHeader ir.functions site.function site.place
          → reason_keeps ir ps site Always ≡ true
      header (inl e) = rw e.4 (ap not fill)
      header (inr e) = rw e.3 (ap not fill)

  reason_of : (ps : List Piece) (site : Site) (fill : Bool) → ArePassing ir ps → site.fill ≡ fill
      → LoggedAt ir.functions fill site.function site.place → ReasonBuilt ps site
  reason_of ps site true all is h = fill_reason ps site all is h
  reason_of ps site false all is (inl h) = clobber_reason ps site all is h
  reason_of ps site false all is (inr h) = header_reason ps site all is h

  pub gives_grown : {ps qs : List Piece} (site : Site) (o : Option Instruction) (reason : Reason)
      → Grows ps qs → gives_reason ir ps site o reason ≡ true
      → gives_reason ir qs site o reason ≡ true
  gives_grown site None reason g h = absurd (false≢true h)
  gives_grown site (Some i) Always g h = h
  gives_grown site (Some i) (PastFree walk) g h =
      let parts = and_parts _ _ h in
      and_from _ _ parts.0 (walk_grown ir site (One Freed) walk.pieces g parts.1)
  gives_grown site (Some (Store target from line)) (Clobber unwrites reads) g h =
      let parts = and_parts _ _ h in
      let walks = and_parts _ _ parts.1 in
      and_from _ _ parts.0 (and_from _ _ (walk_grown ir site (unwritten_ends target)
      unwrites.pieces g walks.0) (walk_grown ir site (One (read_fact target)) reads.pieces g
      walks.1))
  gives_grown site (Some _) (Clobber unwrites reads) g h = absurd (false≢true (and_parts _ _ h).1)

  -- reasons for sites
  record ReasonsBuilt (ps : List Piece) (sites : List Site) : Type 0 where
    pub pieces : List Piece
    pub all : ArePassing ir pieces
    pub grown : Grows ps pieces
    pub reasons : List (Site × Reason)
    pub lists : map (λ (r : Site × Reason). r.0) reasons ≡ sites
    pub keep : (n : ℕ) → bad_reason ir pieces n reasons ≡ None

  reasons_of : (ps : List Piece) (sites : List Site) → ArePassing ir ps
      → AllByRecursion (IsLogged ir.functions) sites → ReasonsBuilt ps sites
  reasons_of ps [] all h =
      record {
        pieces = ps;
        all = all;
        grown = stays;
        reasons = [];
        lists = refl;
        keep = λ n. refl;
      }
  reasons_of ps (site ∷ sites) all h =
      let r = reason_of ps site site.fill all refl h.0 in
      let more = reasons_of r.pieces sites r.all h.1 in
      let kept : reason_keeps ir more.pieces site r.reason ≡ true =
      gives_grown site (instruction_at ir.functions site.function site.place) r.reason
      more.grown r.keeps in
      record {
        pieces = more.pieces;
        all = more.all;
        grown = grows_on r.grown more.grown;
        reasons = (site, r.reason) ∷ more.reasons;
        lists = ap (λ (ss : List Site). site ∷ ss) more.lists;
        keep = λ n. rw kept (more.keep (n + 1));
      }

pub logged_have : LoggedHaveCertificates
logged_have ir well sites h =
    let r = reasons_of ir well [] sites no_piece h in (
      record { passed = r.pieces; reasons = r.reasons },
      r.lists,
      rw (no_bad_piece ir r.pieces r.all, r.keep 0) refl,
    )
