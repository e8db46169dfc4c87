-- What a search gives: a walk, or none where there is none.
use Rattle.std.proofs.Common.{◌≡◌, ◌<◌, ◌+◌, ℕ, zero, suc, true, List, [], ◌∷◌}
use Rattle.std.proofs.Common.{Result, Ok, Err, IfOk, Option, Some, None, length, refl, sym, ◌∙◌}
use Rattle.std.proofs.Common.{subst, arith}
use Rattle.std.specs.Prelude.{slice_get, position, get_or}
use Rattle.std.proofs.lemmas.Bool.{false≢true, and_parts, and_from, eqb-true}
use Rattle.std.proofs.lemmas.Option.{slice_get-get_or, slice_get_within}
use Rattle.std.proofs.lemmas.List.Quantifiers.{position-Some}
use Rattle.ir.specs.declared.function.IrFunction.{IrFunction}
use Rattle.ir.specs.declared.function.Ir.{Ir}
use Rattle.ir.specs.declared.site.Site.{Site}
use Rattle.ir.specs.declared.fact.Fact.{Fact as WalkFact}
use Rattle.ir.specs.declared.fact.Fact.TheVariants.{Here}
use Rattle.ir.specs.declared.fact.Origins.{Origins}
use Rattle.ir.specs.Table.{AmongOrigins}
use Rattle.ir.specs.Clobber.{SomeWalk}
use Rattle.ir.specs.WellFormed.{IsWellFormed}
use Rattle.ir.proofs.Law.{exact}
use Rattle.walk_check.specs.declared.certificate.Piece.{Piece}
use Rattle.walk_check.specs.Facts.{same}
use Rattle.walk_check.specs.Keeps.{first_fact, is_tx, walk_keeps}
use Rattle.walk_check.specs.inside.Grown.{ArePassing}
use Rattle.walk_check.proofs.Tests.{same-true}
use Rattle.walk_maker.specs.declared.table.Aim.{Aim}
use Rattle.walk_maker.specs.declared.table.Aim.TheVariants.{ToSite, ToReturn}
use Rattle.walk_maker.specs.declared.table.Entry.{Entry}
use Rattle.walk_maker.specs.inside.Table.{has}
use Rattle.walk_maker.specs.inside.Reading.{entry_fact, piece_from, pieces_of}
use Rattle.walk_maker.specs.inside.Search.{SearchState, state, expanded, later_at, starts_in}
use Rattle.walk_maker.specs.inside.Search.{starts_at, is_start}
use Rattle.walk_maker.specs.inside.Search.{Swept, Searched, Stopped}
use Rattle.walk_maker.specs.inside.Search.Searched.{found, closed, goes_on, begins_by}
use Rattle.walk_maker.specs.inside.Reasons.{FactThere, WalkGiven}
use Rattle.walk_maker.proofs.Grown.{Holds, AllHold, Steps, steps_on, steps_hold, steps_passing}
use Rattle.walk_maker.proofs.Grown.{steps_grow, steps_has, steps_same, same_spot-refl}
use Rattle.walk_maker.proofs.Grown.Steps.{still}
use Rattle.walk_maker.proofs.Read.{piece_read, walk_read}
use Rattle.walk_maker.proofs.Swept.{steps_swept, steps_stopped, swept_still}
use Rattle.walk_maker.proofs.Closing.{spot}
use Rattle.walk_maker.proofs.Closed.{none_flows}
use Rattle.walk_maker.proofs.Still.{Has, is_closed}

module _ (ir : Ir) (goal : Entry) where
  -- what is so of the last state of a search
  record Ended (s : SearchState) (n : Option ℕ) (end : SearchState) : Type 0 where
    pub steps : Steps ir goal s end
    pub starts : position (is_start ir.functions) end.table ≡ n
    pub still : n ≡ None → (k : ℕ) (e : Entry) → slice_get end.table k ≡ Some e
        → end ≡ expanded ir (later_at k e) end

  ended_still : {s end : SearchState} → Swept ir 0 s end → AllHold ir goal s.passed s.table
      → length end.table ≡ length s.table → length end.passed ≡ length s.passed
      → position (is_start ir.functions) s.table ≡ None → Ended s None end
  ended_still {s = s} {end = end} w all few less none =
      let steps = steps_swept ir goal w all in
      let same : s ≡ end = steps_same ir goal steps (omega arith) (omega arith) in
      let calm : (k : ℕ) (e : Entry) → slice_get s.table k ≡ Some e
      → s ≡ expanded ir (later_at k e) s =
      λ k e is. let place : k ≡ 0 + k = omega arith in
      let there : slice_get s.table (0 + k) ≡ Some e =
      subst (λ m. slice_get s.table m ≡ Some e) place is in
      subst (λ m. s ≡ expanded ir (later_at m e) s) (sym place)
      (swept_still ir goal w all few less k e there) in
      record {
        steps = steps;
        starts = subst (λ (v : SearchState). position (is_start ir.functions) v.table
            ≡ None) same none;
        still =
            λ no_start. subst (λ (v : SearchState). (k : ℕ) (e : Entry)
            → slice_get v.table k ≡ Some e
            → v ≡ expanded ir (later_at k e) v) same calm;
      }

  ended : {s end : SearchState} {n : Option ℕ} → Searched ir s n end
      → AllHold ir goal s.passed s.table
      → Ended s n end
  ended (found starts) all = record {
    steps = still;
    starts = starts;
    still = λ none. absurd cc;
  }
  ended (closed none w few less) all = ended_still w all few less none
  ended (goes_on w more) all =
      let first = steps_swept ir goal w all in
      let r = ended more (steps_hold ir goal first all) in
      record {
        steps = steps_on ir goal first r.steps;
        starts = r.starts;
        still = r.still;
      }
  ended (begins_by w more) all =
      let first = steps_stopped ir goal w all in
      let r = ended more (steps_hold ir goal first all) in
      record {
        steps = steps_on ir goal first r.steps;
        starts = r.starts;
        still = r.still;
      }

-- a search after a part of a sweep
pub searched_on : (ir : Ir) (s middle end : SearchState) {E : Type 0} (r : Result (Option ℕ) E)
    → Stopped ir 0 s middle → IfOk r (λ (n : Option ℕ). Searched ir middle n end)
    → IfOk r (λ (n : Option ℕ). Searched ir s n end)
searched_on ir s middle end (Ok n) part more = begins_by part more
searched_on ir s middle end (Err e) part more = more

-- a start, by its tests
record Start (ir : Ir) (e : Entry) : Type 0 where
  pub aim : e.aim ≡ ToSite
  pub entry : e.place ≡ 0
  pub body : IrFunction
  pub there : slice_get ir.functions e.function ≡ Some body
  pub tx : body.tx ≡ true
  pub first : entry_fact true body e.fact ≡ Here

start_in : (ir : Ir) (e : Entry) (o : Option IrFunction) → e.aim ≡ ToSite → e.place ≡ 0
    → slice_get ir.functions e.function ≡ o → starts_in e.fact o ≡ true → Start ir e
start_in ir e None aim entry there h = absurd (false≢true h)
start_in ir e (Some u) aim entry there h =
    let parts = and_parts _ _ h in
    record {
      aim = aim;
      entry = entry;
      body = u;
      there = there;
      tx = parts.0;
      first = same-true (entry_fact true u e.fact) Here parts.1;
    }

start_at : (ir : Ir) (e : Entry) (a : Aim) → e.aim ≡ a → starts_at ir.functions e a ≡ true
    → Start ir e
start_at ir e ToSite aim h =
    let parts = and_parts _ _ h in
    start_in ir e (slice_get ir.functions e.function) aim (eqb-true e.place 0 parts.0) refl parts.1
start_at ir e (ToReturn y) aim h = absurd (false≢true h)

start_found : (ir : Ir) (t : List Entry) (n : ℕ) (goal : Entry)
    → position (is_start ir.functions) t ≡ Some n
    → (e : Entry) × (slice_get t n ≡ Some e) × Start ir e
start_found ir t n goal is =
    let some = position-Some (is_start ir.functions) t n goal is in
    let e = get_or t n goal in
    (e, slice_get-get_or t n goal some.0, start_at ir e e.aim refl some.1)

module _ (ir : Ir) (well : IsWellFormed ir) (site : Site) (fact : WalkFact) where
  abbrev pub Goal : Entry
  Goal = spot ToSite site.function site.place fact

  first_holds : (ps : List Piece) → FactThere ir site fact → AllHold ir Goal ps (Goal ∷ [])
  first_holds ps h zero e is =
      let same : Goal ≡ e = cc in
      subst (λ x. Holds ir Goal ps (Goal ∷ []) 0 x) same (record {
        body = h.0;
        there = h.1;
        fits = h.2;
        link = (refl, refl, refl);
      })
  first_holds ps h (suc n) e is = absurd cc

  walk_starts : (t : List Entry) (ps : List Piece) (n : ℕ) → AllHold ir Goal ps t
      → position (is_start ir.functions) t ≡ Some n → (ends : Origins) → AmongOrigins fact ends
      → walk_keeps ir ps site ends (pieces_of ir.functions t (length t) true n) ≡ true
  walk_starts t ps n all is ends named =
      let some = start_found ir t n Goal is in
      let e = some.0 in
      let s = some.2 in
      let less : n < length t = slice_get_within t n e some.1 in
      let r = piece_read ir Goal ps t all true n e s.body some.1 s.there s.entry in
      let w =
      walk_read ir Goal ps t all well site ends refl refl named (length t) true n e s.body less
      some.1 s.there s.aim s.entry in
      let piece = piece_from ir.functions t true n in
      let named_so : piece.function ≡ e.function =
      subst (λ (p : Piece). p.function ≡ e.function) r.is_piece r.closed.named in
      let tx : is_tx (slice_get ir.functions piece.function) ≡ true = rw (named_so, s.there) s.tx in
      let first_so : first_fact piece ≡ Here =
      subst (λ (p : Piece). first_fact p ≡ Here) r.is_piece
      (r.closed.first_is ∙ r.first_is ∙ s.first) in
      let begins : same (first_fact piece) Here ≡ true = rw first_so refl in
      rw w.is_walk (and_from _ _ (and_from _ _ tx begins) w.keeps)

  no_walk : (end : SearchState) → AllHold ir Goal end.passed end.table
      → ((k : ℕ) (e : Entry) → slice_get end.table k ≡ Some e
      → end ≡ expanded ir (later_at k e) end)
      → position (is_start ir.functions) end.table ≡ None → has end.table Goal ≡ true
      → SomeWalk ir.functions site.function site.place fact → ⊥
  no_walk end all calm none has_goal w =
      none_flows ir.functions (Has ir Goal well end all calm)
      (is_closed ir Goal well end all calm none)
      ((exact ir.functions site.function site.place fact).0 w) has_goal

  pub found_walk : (t : List Entry) (old new : List Piece) (n : ℕ) → FactThere ir site fact
      → ArePassing ir old → Searched ir (state (Goal ∷ []) old) (Some n) (state t new)
      → WalkGiven ir site fact old new
      (Some (record { pieces = pieces_of ir.functions t (length t) true n }))
  found_walk t old new n there passing searched =
      let all = first_holds old there in
      let e = ended ir Goal searched all in
      record {
        passing = steps_passing ir Goal e.steps passing;
        grown = steps_grow ir Goal e.steps;
        given = walk_starts t new n (steps_hold ir Goal e.steps all) e.starts;
      }

  pub found_none : (t : List Entry) (old new : List Piece) → FactThere ir site fact
      → ArePassing ir old → Searched ir (state (Goal ∷ []) old) None (state t new)
      → WalkGiven ir site fact old new None
  found_none t old new there passing searched =
      let all = first_holds old there in
      let e = ended ir Goal searched all in
      let here : has (Goal ∷ []) Goal ≡ true = rw (same_spot-refl Goal) refl in
      record {
        passing = steps_passing ir Goal e.steps passing;
        grown = steps_grow ir Goal e.steps;
        given =
            no_walk (state t new) (steps_hold ir Goal e.steps all) (e.still refl) e.starts
            (steps_has ir Goal Goal e.steps here);
      }
