-- What is read out of the table keeps the checker's rules.
use Rattle.std.proofs.Common.{◌≡◌, ◌<◌, ◌≤◌, ℕ, zero, suc, Bool, true, false, List, [], ◌∷◌}
use Rattle.std.proofs.Common.{Option, Some, None, length, refl, sym, ◌∙◌, ap, subst, arith}
use Rattle.std.specs.Prelude.{slice_get}
use Rattle.std.proofs.lemmas.Bool.{and_from, or_left}
use Rattle.std.proofs.lemmas.Option.{slice_get_within}
use Rattle.ir.specs.declared.instruction.Instruction.TheVariants.{Call}
use Rattle.ir.specs.declared.function.IrFunction.{IrFunction}
use Rattle.ir.specs.declared.function.Ir.{Ir}
use Rattle.ir.specs.declared.site.Site.{Site}
use Rattle.ir.specs.declared.fact.Fact.{Fact as WalkFact}
use Rattle.ir.specs.declared.fact.Origins.{Origins}
use Rattle.ir.specs.Places.{instruction_at}
use Rattle.ir.specs.Table.{AmongOrigins}
use Rattle.ir.specs.WellFormed.{IsWellFormed}
use Rattle.walk_check.specs.declared.certificate.Step.{Step}
use Rattle.walk_check.specs.declared.certificate.Piece.{Piece}
use Rattle.walk_check.specs.Facts.{fact_of, told}
use Rattle.walk_check.specs.Follow.{binds}
use Rattle.walk_check.specs.Keeps.{fact_is_there, all_there, first_fact, follows, holds_at_entry}
use Rattle.walk_check.specs.Keeps.{pieces_keep, chain, last_step, begins_piece}
use Rattle.ir.specs.declared.fact.Fact.TheVariants.{Here}
use Rattle.walk_check.proofs.Made.{told-is, step_at, Tail, Closed, chain_entry}
use Rattle.walk_check.proofs.Explained.{Later, later_keeps}
use Rattle.walk_maker.specs.declared.table.Aim.TheVariants.{ToSite}
use Rattle.walk_maker.specs.declared.table.Link.{Link}
use Rattle.walk_maker.specs.declared.table.Link.TheVariants.{End, Next, Enter}
use Rattle.walk_maker.specs.declared.table.Entry.{Entry}
use Rattle.walk_maker.specs.inside.Table.{step_of, through_of}
use Rattle.walk_maker.specs.inside.Reading.{entry_fact, next_of, steps_of}
use Rattle.walk_maker.specs.inside.Reading.{piece_end}
use Rattle.walk_maker.specs.inside.Reading.{piece_from, pieces_of}
use Rattle.walk_maker.proofs.Grown.{AtAim, NextHolds, EnterHolds, LinkHolds, AllHold}
use Rattle.walk_maker.proofs.Tried.{at_place}

same_body : (functions : List IrFunction) (f g : ℕ) (u v : IrFunction)
    → slice_get functions f ≡ Some u → slice_get functions g ≡ Some v → g ≡ f → v ≡ u
same_body functions f g u v is there same =
    let h : slice_get functions f ≡ Some v =
    subst (λ k. slice_get functions k ≡ Some v) same there in
    let some : Some v ≡ Some u = sym h ∙ is in cc

module _ (ir : Ir) (goal : Entry) (ps : List Piece) (t : List Entry)
    (all : AllHold ir goal ps t) where
  -- the steps from an entry on
  pub record Read (d n : ℕ) (e : Entry) (u : IrFunction) : Type 0 where
    pub end : Entry
    pub at : slice_get t (piece_end t d n) ≡ Some end
    pub within : piece_end t d n ≤ n
    pub aim : end.aim ≡ e.aim
    pub function : end.function ≡ e.function
    pub tail : Tail ir ps u e.place e.fact end.place end.fact
    pub passing : tail.passing ≡ through_of e.link
    pub steps : steps_of t d n ≡ step_at e.place e.fact tail.passing ∷ tail.rest
    pub stops : next_of end.link ≡ None

  fits_told : (u : IrFunction) (b : WalkFact) → fact_is_there ir.shapes u b ≡ true
      → fact_is_there ir.shapes u (fact_of (told b)) ≡ true
  fits_told u b h = rw (told-is b) h

  -- an entry without a next one in its function
  read_end : (d n : ℕ) (e : Entry) (u : IrFunction) → slice_get t n ≡ Some e
      → fact_is_there ir.shapes u e.fact ≡ true → next_of e.link ≡ None
      → through_of e.link ≡ None → Read (suc d) n e u
  read_end d n e u is fits stops through =
      let ends : piece_end t (suc d) n ≡ n = rw (is, stops) refl in
      record {
        end = e;
        at = rw ends is;
        within = let same : piece_end t (suc d) n ≡ n = ends in omega arith;
        aim = refl;
        function = refl;
        tail =
            record {
              passing = None;
              rest = [];
              chained = λ opens. refl;
              there = and_from _ _ (fits_told u e.fact fits) refl;
              last = refl;
            };
        passing = sym through;
        steps = rw (is, stops, through) refl;
        stops = stops;
      }

  read_next : (d n : ℕ) (e : Entry) (u : IrFunction) (m : ℕ) (through : Option ℕ)
      → slice_get t n ≡ Some e → fact_is_there ir.shapes u e.fact ≡ true
      → e.link ≡ Next m through → (h : NextHolds ir goal ps t n e u m through)
      → Read d m h.later u → Read (suc d) n e u
  read_next d n e u m through is fits link h r =
      let ends : piece_end t (suc d) n ≡ piece_end t d m = rw (is, link) refl in
      let first : step_of e ≡ step_at e.place e.fact through = rw link refl in
      let second : step_of h.later ≡ step_at h.later.place h.later.fact r.tail.passing =
      rw r.passing refl in
      let follow : follows ps u (step_at e.place e.fact through)
      (step_at h.later.place h.later.fact r.tail.passing) through ≡ true =
      subst (λ b. follows ps u (step_at e.place e.fact through) b through ≡ true) second
      (subst (λ a. follows ps u a (step_of h.later) through ≡ true) first h.follow) in
      let less : m < n = h.less in
      let inner : piece_end t d m ≤ m = r.within in
      record {
        end = r.end;
        at = rw ends r.at;
        within = rw ends (omega arith);
        aim = r.aim ∙ h.aim;
        function = r.function ∙ h.function;
        tail =
            record {
              passing = through;
              rest = step_at h.later.place h.later.fact r.tail.passing ∷ r.tail.rest;
              chained = λ opens. and_from _ _ follow (r.tail.chained opens);
              there = and_from _ _ (fits_told u e.fact fits) r.tail.there;
              last = r.tail.last;
            };
        passing = rw link refl;
        steps = rw (is, link, r.steps) refl;
        stops = r.stops;
      }

  pub reads : (d n : ℕ) (e : Entry) (u : IrFunction) → n < d → slice_get t n ≡ Some e
      → slice_get ir.functions e.function ≡ Some u → Read d n e u
  reads zero n e u less is there = absurd (omega arith)
  reads (suc d) n e u less is there =
      let h = all n e is in
      let same : h.body ≡ u =
      same_body ir.functions e.function e.function u h.body there h.there refl in
      let fits : fact_is_there ir.shapes u e.fact ≡ true =
      subst (λ v. fact_is_there ir.shapes v e.fact ≡ true) same h.fits in
      by_link (λ m x small at body. reads d m x u small at body) e.link refl fits
      (subst (λ v. LinkHolds ir goal ps t n e v e.link) same h.link)
    where
      by_link : ((m : ℕ) (x : Entry) → m < d → slice_get t m ≡ Some x
          → slice_get ir.functions x.function ≡ Some u → Read d m x u)
          → (l : Link) → e.link ≡ l → fact_is_there ir.shapes u e.fact ≡ true
          → LinkHolds ir goal ps t n e u l → Read (suc d) n e u
      by_link on End link fits h =
          read_end d n e u is fits (rw link refl) (rw link refl)
      by_link on (Enter m) link fits h =
          read_end d n e u is fits (rw link refl) (rw link refl)
      by_link on (Next m through) link fits h =
          let before : m < n = h.less in
          let small : m < d = omega arith in
          read_next d n e u m through is fits link h (on m h.later small h.there
          (rw h.function there))

  -- a piece from an entry at its function's entry
  pub record PieceRead (opens : Bool) (n : ℕ) (e : Entry) (u : IrFunction) : Type 0 where
    pub end : Entry
    pub at : slice_get t (piece_end t (length t) n) ≡ Some end
    pub within : piece_end t (length t) n ≤ n
    pub aim : end.aim ≡ e.aim
    pub function : end.function ≡ e.function
    pub stops : next_of end.link ≡ None
    pub first : WalkFact
    pub first_is : first ≡ entry_fact opens u e.fact
    pub closed : Closed ir ps opens e.function first end.place end.fact
    pub is_piece : closed.piece ≡ piece_from ir.functions t opens n

  -- a whole piece from its tail, whose steps can be seen
  abbrev closed_at : (opens : Bool) (g : ℕ) (v : IrFunction) (x : WalkFact) (q : ℕ)
      (y : WalkFact) → slice_get ir.functions g ≡ Some v → Tail ir ps v 0 x q y
      → Closed ir ps opens g x q y
  closed_at opens g v x q y there tail = record {
    piece = record { function = g; steps = step_at 0 x tail.passing ∷ tail.rest };
    keeps =
        rw there (and_from _ _ tail.there (chain_entry ir ps opens v (step_at 0 x tail.passing)
        tail.rest (tail.chained opens)));
    named = refl;
    first_is = told-is x;
    place_is = ap (λ (s : Step). s.place) tail.last;
    last_is = ap (λ (s : Step). fact_of s.fact) tail.last ∙ told-is y;
  }

  begins-from : (opens : Bool) (v : IrFunction) (x : WalkFact) (through : Option ℕ)
      → holds_at_entry opens v x ≡ true
      → begins_piece opens v (step_at 0 Here None) (step_at 0 x through) ≡ true
  begins-from opens v x through h = rw (told-is x) h

  abbrev closed_begun : (opens : Bool) (g : ℕ) (v : IrFunction) (x : WalkFact) (q : ℕ)
      (y : WalkFact) → slice_get ir.functions g ≡ Some v → holds_at_entry opens v x ≡ true
      → Tail ir ps v 0 x q y → Closed ir ps opens g Here q y
  closed_begun opens g v x q y there h tail = record {
    piece =
        record { function = g; steps = step_at 0 Here None ∷ step_at 0 x tail.passing ∷ tail.rest };
    keeps =
        rw there (and_from _ _ tail.there (and_from _ _
        (or_left _ (follows ps v (step_at 0 Here None) (step_at 0 x tail.passing) None)
        (begins-from opens v x tail.passing h)) (tail.chained opens)));
    named = refl;
    first_is = refl;
    place_is = ap (λ (s : Step). s.place) tail.last;
    last_is = ap (λ (s : Step). fact_of s.fact) tail.last ∙ told-is y;
  }

  abbrev at_entry : (u : IrFunction) (p : ℕ) (b : WalkFact) (q : ℕ) (z : WalkFact) → p ≡ 0
      → Tail ir ps u p b q z → Tail ir ps u 0 b q z
  at_entry u p b q z zero_is tail =
      record {
        passing = tail.passing;
        rest = tail.rest;
        chained =
            λ opens. subst (λ k. chain ps opens u false (step_at k b tail.passing) tail.rest ≡ true)
            zero_is (tail.chained opens);
        there =
            subst (λ k. all_there ir.shapes u (step_at k b tail.passing ∷ tail.rest) ≡ true) zero_is
            tail.there;
        last =
            subst (λ k. last_step (step_at k b tail.passing) tail.rest ≡ step_at q z None) zero_is
            tail.last;
      }

  pub piece_read : (opens : Bool) (n : ℕ) (e : Entry) (u : IrFunction) → slice_get t n ≡ Some e
      → slice_get ir.functions e.function ≡ Some u → e.place ≡ 0 → PieceRead opens n e u
  piece_read opens n e u is there zero_is =
      let less : n < length t = slice_get_within t n e is in
      let r = reads (length t) n e u less is there in
      let steps : steps_of t (length t) n ≡ step_at 0 e.fact r.tail.passing ∷ r.tail.rest =
      r.steps ∙ ap (λ p. step_at p e.fact r.tail.passing ∷ r.tail.rest) zero_is in
      by_entry r steps (holds_at_entry opens u e.fact) refl
    where
      by_entry : (r : Read (length t) n e u)
          → steps_of t (length t) n ≡ step_at 0 e.fact r.tail.passing ∷ r.tail.rest
          → (b : Bool) → holds_at_entry opens u e.fact ≡ b → PieceRead opens n e u
      by_entry r steps true h =
          record {
            end = r.end;
            at = r.at;
            within = r.within;
            aim = r.aim;
            function = r.function;
            stops = r.stops;
            first = Here;
            first_is = rw h refl;
            closed = closed_begun opens e.function u e.fact r.end.place r.end.fact there h
                (at_entry u e.place e.fact r.end.place r.end.fact zero_is r.tail);
            is_piece = rw (is, there, h, steps) refl;
          }
      by_entry r steps false h =
          record {
            end = r.end;
            at = r.at;
            within = r.within;
            aim = r.aim;
            function = r.function;
            stops = r.stops;
            first = e.fact;
            first_is = rw h refl;
            closed = closed_at opens e.function u e.fact r.end.place r.end.fact there
                (at_entry u e.place e.fact r.end.place r.end.fact zero_is r.tail);
            is_piece = rw (is, there, h, steps) refl;
          }

  -- the walk from an entry on
  module _ (well : IsWellFormed ir) (site : Site) (ends : Origins)
      (in_function : goal.function ≡ site.function) (at_place_of : goal.place ≡ site.place)
      (named : AmongOrigins goal.fact ends) where
    pub record WalkRead (d : ℕ) (opens : Bool) (n : ℕ) : Type 0 where
      pub rest : List Piece
      pub is_walk : pieces_of ir.functions t d opens n ≡ piece_from ir.functions t opens n ∷ rest
      pub keeps : pieces_keep ir ps site ends opens (piece_from ir.functions t opens n) rest ≡ true

    walk_from : (opens : Bool) (n : ℕ) (e : Entry) (u : IrFunction) (r : PieceRead opens n e u)
        (rest : List Piece) → Later ir well site ends ps e.function r.end.place r.end.fact rest
        → pieces_keep ir ps site ends opens (piece_from ir.functions t opens n) rest ≡ true
    walk_from opens n e u r rest l =
        subst (λ p. pieces_keep ir ps site ends opens p rest ≡ true) r.is_piece
        (later_keeps ir well site ends ps opens e.function r.first r.end.place r.end.fact rest
        r.closed l)

    walk_ends : (d : ℕ) (opens : Bool) (n : ℕ) (e : Entry) (u : IrFunction)
        (r : PieceRead opens n e u) → r.end.link ≡ End → AtAim ir goal r.end ToSite
        → WalkRead (suc d) opens n
    walk_ends d opens n e u r link aim = record {
      rest = [];
      is_walk = rw (r.at, link) refl;
      keeps =
          walk_from opens n e u r [] (
            sym r.function ∙ aim.0 ∙ in_function,
            aim.1 ∙ at_place_of,
            subst (λ a. AmongOrigins a ends) (sym aim.2) named,
          );
    }

    walk_enters : (d : ℕ) (opens : Bool) (n : ℕ) (e : Entry) (u : IrFunction)
        (r : PieceRead opens n e u) (m : ℕ) → r.end.link ≡ Enter m
        → slice_get ir.functions r.end.function ≡ Some u
        → (h : EnterHolds ir goal t (piece_end t (length t) n) r.end u m)
        → PieceRead false m h.later h.callee → WalkRead d false m → WalkRead (suc d) opens n
    walk_enters d opens n e u r m link there h p w =
        let piece = piece_from ir.functions t false m in
        let function : piece.function ≡ h.later.function =
        subst (λ (q : Piece). q.function ≡ h.later.function) p.is_piece p.closed.named in
        let call : instruction_at ir.functions e.function r.end.place
        ≡ Some (Call h.to piece.function h.args) =
        rw (function, ← r.function) (at_place ir r.end.function r.end.place u
        (Call h.to h.later.function h.args) there h.call) in
        let first : first_fact piece ≡ entry_fact false h.callee h.later.fact =
        subst (λ (q : Piece). first_fact q ≡ p.first) p.is_piece p.closed.first_is ∙ p.first_is in
        let binding : binds h.args r.end.fact (first_fact piece) ≡ true = rw first h.binding in
        record {
          rest = piece ∷ w.rest;
          is_walk = rw (r.at, link, w.is_walk) refl;
          keeps =
              walk_from opens n e u r (piece ∷ w.rest) (h.to, h.args, call, binding, w.keeps);
        }

    pub walk_read : (d : ℕ) (opens : Bool) (n : ℕ) (e : Entry) (u : IrFunction) → n < d
        → slice_get t n ≡ Some e → slice_get ir.functions e.function ≡ Some u → e.aim ≡ ToSite
        → e.place ≡ 0 → WalkRead d opens n
    walk_read zero opens n e u less is there aim zero_is = absurd (omega arith)
    walk_read (suc d) opens n e u less is there aim zero_is =
        let r = piece_read opens n e u is there zero_is in
        let last = all (piece_end t (length t) n) r.end r.at in
        let end_there : slice_get ir.functions r.end.function ≡ Some u = rw r.function there in
        let same : last.body ≡ u =
        same_body ir.functions r.end.function r.end.function u last.body end_there last.there
        refl in
        by_link (λ m x v small at body aim' entry. walk_read d false m x v small at body aim' entry)
        r end_there r.end.link refl
        (subst (λ v. LinkHolds ir goal ps t (piece_end t (length t) n) r.end v r.end.link) same
        last.link)
      where
        by_link : ((m : ℕ) (x : Entry) (v : IrFunction) → m < d → slice_get t m ≡ Some x
            → slice_get ir.functions x.function ≡ Some v → x.aim ≡ ToSite → x.place ≡ 0
            → WalkRead d false m)
            → (r : PieceRead opens n e u) → slice_get ir.functions r.end.function ≡ Some u
            → (l : Link) → r.end.link ≡ l
            → LinkHolds ir goal ps t (piece_end t (length t) n) r.end u l
            → WalkRead (suc d) opens n
        by_link on r end_there End link h =
            walk_ends d opens n e u r link
            (subst (λ a. AtAim ir goal r.end a) (r.aim ∙ aim) h)
        by_link on r end_there (Next m through) link h =
            let next : next_of r.end.link ≡ Some m = rw link refl in
            let clash : Some m ≡ None = sym next ∙ r.stops in absurd cc
        by_link on r end_there (Enter m) link h =
            let inside : piece_end t (length t) n ≤ n = r.within in
            let before : m < piece_end t (length t) n = h.less in
            let small : m < d = omega arith in
            walk_enters d opens n e u r m link end_there h
            (piece_read false m h.later h.callee h.there h.callee_is h.entry)
            (on m h.later h.callee small h.there h.callee_is h.aim_later h.entry)
