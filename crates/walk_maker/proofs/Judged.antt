-- The reasons that searches give, and that there is none where a site isn't logged.
use Rattle.std.proofs.Common.{◌≡◌, ◌+◌, ◌++◌, ℕ, Bool, true, false, List}
use Rattle.std.proofs.Common.{[], ◌∷◌, Option, Some, None}
use Rattle.std.proofs.Common.{refl, sym, ◌∙◌, ap, subst, inl, inr}
use Rattle.std.specs.Prelude.{slice_get, map, drop}
use Rattle.std.specs.List.{AllByRecursion}
use Rattle.std.proofs.lemmas.Bool.{and_from}
use mathlib.Core.Logic.{◌⊎◌}
use Rattle.ir.specs.declared.instruction.Target.{Target}
use Rattle.ir.specs.declared.instruction.Instruction.{Instruction}
use Rattle.ir.specs.declared.instruction.Instruction.TheVariants.{Store, New, Free}
use Rattle.ir.specs.declared.function.IrFunction.{IrFunction}
use Rattle.ir.specs.declared.function.Ir.{Ir}
use Rattle.ir.specs.declared.site.Site.{Site}
use Rattle.ir.specs.declared.fact.Fact.TheVariants.{Freed}
use Rattle.ir.specs.declared.fact.Origins.TheVariants.{One}
use Rattle.ir.specs.Places.{instruction_at}
use Rattle.ir.specs.Clobber.{unwritten, read_fact, SomeWalk, IsClobber, WritesHeader}
use Rattle.ir.specs.Clobber.{LoggedAt, IsLogged}
use Rattle.ir.specs.WellFormed.{IsWellFormed}
use Rattle.clobber_pass.specs.declared.marking.MarkTable.{MarkTable}
use Rattle.clobber_pass.specs.Logged.{is_logged, IsExact}
use Rattle.walk_check.specs.declared.certificate.Piece.{Piece}
use Rattle.walk_check.specs.declared.certificate.Walk.{Walk}
use Rattle.walk_check.specs.declared.certificate.Reason.{Reason}
use Rattle.walk_check.specs.declared.certificate.Reason.TheVariants.{Always, PastFree, Clobber}
use Rattle.walk_check.specs.Follow.{unwritten_ends}
use Rattle.walk_check.specs.Keeps.{reason_keeps, bad_reason}
use Rattle.walk_check.specs.Keeps.{certificate_fault}
use Rattle.walk_check.specs.Law.{listed}
use Rattle.walk_check.specs.inside.Grown.{ArePassing, Grows}
use Rattle.walk_check.specs.inside.Grown.Grows.{stays}
use Rattle.walk_check.proofs.Named.{is_there-from, well_at, target_unwritten, target_read}
use Rattle.walk_check.proofs.Grown.{grows_on, walk_grown, no_bad_piece}
use Rattle.walk_check.proofs.Made.{code_at}
use Rattle.walk_check.proofs.Explained.{body_of, target_end, clobber_keeps, gives_grown}
use Rattle.walk_check.proofs.Shown.{all_logged}
use Rattle.walk_maker.specs.Lists.{ListsLogged}
use Rattle.walk_maker.specs.Lists.ListsLogged.{no_site, logged, unlogged}
use Rattle.walk_maker.specs.inside.Reasons.{FactThere, WalkGiven, ReasonGiven, StoresAt, FillsAt}
use Rattle.walk_maker.specs.inside.Reasons.{written_kind, with_reason, AllKept, Skips}
use Rattle.walk_maker.specs.inside.Reasons.Skips.{no_more, kept, skipped}
use Rattle.walk_maker.specs.declared.reasons.Kind.TheVariants.{Store as Written, Header, Fill}
use Rattle.walk_maker.specs.declared.reasons.Kind.TheVariants.{Nothing}
use Rattle.std.proofs.lemmas.List.{append-nil}
use Rattle.walk_maker.proofs.Fuel.{drop_at}

body : (ir : Ir) (f p : ℕ) (i : Instruction) → instruction_at ir.functions f p ≡ Some i
    → (u : IrFunction) × (slice_get ir.functions f ≡ Some u)
body ir f p i there = body_of ir.functions f p i (slice_get ir.functions f) refl there

module _ (ir : Ir) (well : IsWellFormed ir) (site : Site) where
  -- what a store names exists
  module _ (target : Target) (h : StoresAt ir site target) where
    store_body : (u : IrFunction) × (slice_get ir.functions site.function ≡ Some u)
    store_body = body ir site.function site.place (Store target h.1 h.2) h.3

    pub unwritten_there : FactThere ir site (unwritten target)
    unwritten_there =
        let u = store_body in
        let code = code_at ir site.function site.place u.0 (Store target h.1 h.2) u.1 h.3 in
        let ok = well_at ir site.function site.place u.0 (Store target h.1 h.2) well u.1 code in (
          u.0,
          u.1,
          is_there-from ir.shapes u.0 (unwritten target)
              (target_unwritten ir.shapes u.0.registers target ok.1),
        )

    pub read_there : FactThere ir site (read_fact target)
    read_there =
        let u = store_body in
        let code = code_at ir site.function site.place u.0 (Store target h.1 h.2) u.1 h.3 in
        let ok = well_at ir site.function site.place u.0 (Store target h.1 h.2) well u.1 code in (
          u.0,
          u.1,
          is_there-from ir.shapes u.0 (read_fact target)
              (target_read ir.shapes u.0.registers target ok.1),
        )

    -- a store is logged only if it is clobber
    store_logged : IsLogged ir.functions site
        → SomeWalk ir.functions site.function site.place (unwritten target)
        × SomeWalk ir.functions site.function site.place (read_fact target)
    store_logged l = by_case (subst (λ b. LoggedAt ir.functions b site.function site.place) h.0 l)
      where
        by_case : IsClobber ir.functions site.function site.place
            ⊎ WritesHeader ir.functions site.function site.place
            → SomeWalk ir.functions site.function site.place (unwritten target)
            × SomeWalk ir.functions site.function site.place (read_fact target)
        by_case (inl c) =
            let some : Some (Store c.0 c.1 c.2) ≡ Some (Store target h.1 h.2) = sym c.3 ∙ h.3 in
            let same : c.0 ≡ target = cc in (
              subst (λ t. SomeWalk ir.functions site.function site.place (unwritten t)) same c.4,
              subst (λ t. SomeWalk ir.functions site.function site.place (read_fact t)) same c.5,
            )
        by_case (inr (inl w)) =
            let no : Some (New w.0 w.1 w.2 w.3) ≡ Some (Store target h.1 h.2) = sym w.4 ∙ h.3 in
            absurd cc
        by_case (inr (inr w)) =
            let no : Some (Free w.0 w.1 w.2) ≡ Some (Store target h.1 h.2) = sym w.3 ∙ h.3 in
            absurd cc

    pub not_unwritten : {old new : List Piece}
        → WalkGiven ir site (unwritten target) old new None → ReasonGiven ir site old new None
    not_unwritten g = record {
      passing = g.passing;
      grown = g.grown;
      given = λ l. g.given (store_logged l).0;
    }

    pub not_read : {old middle new : List Piece} {walk : Option Walk}
        → WalkGiven ir site (unwritten target) old middle walk
        → WalkGiven ir site (read_fact target) middle new None → ReasonGiven ir site old new None
    not_read w g = record {
      passing = g.passing;
      grown = grows_on w.grown g.grown;
      given = λ l. g.given (store_logged l).1;
    }

    pub clobbered : {old middle new : List Piece} {unwrites reads : Walk}
        → WalkGiven ir site (unwritten target) old middle (Some unwrites)
        → WalkGiven ir site (read_fact target) middle new (Some reads)
        → ReasonGiven ir site old new (Some (Clobber unwrites reads))
    clobbered {new = new} {unwrites = unwrites} {reads = reads} w g =
        record {
          passing = g.passing;
          grown = grows_on w.grown g.grown;
          given =
              clobber_keeps ir well new site target h.1 h.2 unwrites.pieces reads.pieces h.3 h.0
              (walk_grown ir site (unwritten_ends target) unwrites.pieces g.grown
              (w.given (unwritten_ends target) (target_end ir well target)))
              (g.given (One (read_fact target)) refl);
        }

  module _ (h : FillsAt ir site) where
    pub freed_there : FactThere ir site Freed
    freed_there =
        let u = body ir site.function site.place (New h.1 h.2 h.3 h.4) h.5 in (u.0, u.1, refl)

    pub not_freed : {old new : List Piece} → WalkGiven ir site Freed old new None
        → ReasonGiven ir site old new None
    not_freed g = record {
      passing = g.passing;
      grown = g.grown;
      given = λ l. g.given (fill l);
    }
      where
        fill : IsLogged ir.functions site
            → SomeWalk ir.functions site.function site.place Freed
        fill l = (subst (λ b. LoggedAt ir.functions b site.function site.place) h.0 l).5

    pub past_free : {old new : List Piece} {walk : Walk}
        → WalkGiven ir site Freed old new (Some walk)
        → ReasonGiven ir site old new (Some (PastFree walk))
    past_free {new = new} {walk = walk} g = record {
      passing = g.passing;
      grown = g.grown;
      given = rw h.5 (and_from _ _ h.0 (g.given (One Freed) refl));
    }

  abbrev Here : Option Instruction
  Here = instruction_at ir.functions site.function site.place

  -- what the kind of a site says
  store_kind : (o : Option Instruction) (fill : Bool) (target : Target) → Here ≡ o
      → site.fill ≡ fill → written_kind o fill ≡ Written target → StoresAt ir site target
  store_kind (Some (Store t from line)) false target is fill h =
      let same : t ≡ target = cc in
      (fill, from, line, is ∙ ap (λ x. Some (Store x from line)) same)
  store_kind (Some (New to kind log_fill line)) false target is fill h = absurd cc
  store_kind (Some (New to kind log_fill line)) true target is fill h = absurd cc
  store_kind (Some (Free from kind line)) false target is fill h = absurd cc
  store_kind _ _ target is fill h = absurd cc

  pub stores_at : (target : Target) → written_kind Here site.fill ≡ Written target
      → StoresAt ir site target
  stores_at target h = store_kind Here site.fill target refl refl h

  fill_kind : (o : Option Instruction) (fill : Bool) → Here ≡ o → site.fill ≡ fill
      → written_kind o fill ≡ Fill → FillsAt ir site
  fill_kind (Some (Store t from line)) false is fill h = absurd cc
  fill_kind (Some (New to kind log_fill line)) false is fill h = absurd cc
  fill_kind (Some (New to kind log_fill line)) true is fill h =
      (fill, to, kind, log_fill, line, is)
  fill_kind (Some (Free from kind line)) false is fill h = absurd cc
  fill_kind _ _ is fill h = absurd cc

  pub fills_at : written_kind Here site.fill ≡ Fill → FillsAt ir site
  fills_at h = fill_kind Here site.fill refl refl h

  header_kind : (o : Option Instruction) (fill : Bool) (ps : List Piece) → Here ≡ o
      → site.fill ≡ fill → written_kind o fill ≡ Header
      → reason_keeps ir ps site Always ≡ true
  header_kind (Some (Store t from line)) false ps is fill h = absurd cc
  header_kind (Some (New to kind log_fill line)) false ps is fill h = rw (is, fill) refl
  header_kind (Some (New to kind log_fill line)) true ps is fill h = absurd cc
  header_kind (Some (Free from kind line)) false ps is fill h = rw (is, fill) refl
  header_kind _ _ ps is fill h = absurd cc

  pub header_given : (ps : List Piece) → ArePassing ir ps → written_kind Here site.fill ≡ Header
      → ReasonGiven ir site ps ps (Some Always)
  header_given ps all h = record {
    passing = all;
    grown = stays;
    given = header_kind Here site.fill ps refl refl h;
  }

  -- other sites aren't logged
  not_logged : (o : Option Instruction) (fill : Bool) → Here ≡ o → written_kind o fill ≡ Nothing
      → LoggedAt ir.functions fill site.function site.place → ⊥
  not_logged o true is h l =
      let kind : written_kind o true ≡ Fill = rw (sym is ∙ l.4) refl in
      let clash : Fill ≡ Nothing = sym kind ∙ h in absurd cc
  not_logged o false is h (inl c) =
      let kind : written_kind o false ≡ Written c.0 = rw (sym is ∙ c.3) refl in
      let clash : Written c.0 ≡ Nothing = sym kind ∙ h in absurd cc
  not_logged o false is h (inr (inl w)) =
      let kind : written_kind o false ≡ Header = rw (sym is ∙ w.4) refl in
      let clash : Header ≡ Nothing = sym kind ∙ h in absurd cc
  not_logged o false is h (inr (inr w)) =
      let kind : written_kind o false ≡ Header = rw (sym is ∙ w.3) refl in
      let clash : Header ≡ Nothing = sym kind ∙ h in absurd cc

  pub nothing_given : (ps : List Piece) → ArePassing ir ps → written_kind Here site.fill ≡ Nothing
      → ReasonGiven ir site ps ps None
  nothing_given ps all h = record {
    passing = all;
    grown = stays;
    given = not_logged Here site.fill refl h;
  }

not_both : (b : Bool) → b ≡ true → b ≡ false → ⊥
not_both b holds never = cc

-- a site that exact marks don't log has no reason
pub unmarked : (ir : Ir) (site : Site) (table : MarkTable) (ps : List Piece) → ArePassing ir ps
    → IsExact ir.functions table → is_logged table site ≡ false → ReasonGiven ir site ps ps None
unmarked ir site table ps all exact plain = record {
  passing = all;
  grown = stays;
  given = λ (is : IsLogged ir.functions site).
      not_both (is_logged table site) ((exact site).1 is) plain;
}

-- the reasons so far
module _ (ir : Ir) where
  pub kept_grown : {ps qs : List Piece} (well : IsWellFormed ir) (rs : List (Site × Reason))
      → Grows ps qs → AllKept ir ps rs → AllKept ir qs rs
  kept_grown well [] g all = tt
  kept_grown well (r ∷ rs) g all = (
    gives_grown ir well r.0 (instruction_at ir.functions r.0.function r.0.place) r.1 g all.0,
    kept_grown well rs g all.1,
  )

  pub kept_last : (ps : List Piece) (rs : List (Site × Reason)) (r : Site × Reason)
      → AllKept ir ps rs → reason_keeps ir ps r.0 r.1 ≡ true → AllKept ir ps (rs ++ r ∷ [])
  kept_last ps [] r all h = (h, tt)
  kept_last ps (s ∷ rs) r all h = (all.0, kept_last ps rs r all.1 h)

  none_bad : (ps : List Piece) (n : ℕ) (rs : List (Site × Reason)) → AllKept ir ps rs
      → bad_reason ir ps n rs ≡ None
  none_bad ps n [] all = refl
  none_bad ps n (r ∷ rs) all = rw all.0 (none_bad ps (n + 1) rs all.1)

  pub no_fault : (ps : List Piece) (rs : List (Site × Reason)) → ArePassing ir ps
      → AllKept ir ps rs → certificate_fault ir (record { passed = ps; reasons = rs }) ≡ None
  no_fault ps rs passing all =
      rw (no_bad_piece ir ps passing, none_bad ps 0 rs all) refl

  lists_from : (sites told : List Site) (rs : List (Site × Reason))
      → Skips ir.functions sites told → told ≡ map (λ (r : Site × Reason). r.0) rs
      → AllByRecursion (λ (r : Site × Reason). IsLogged ir.functions r.0) rs
      → ListsLogged ir.functions sites told
  lists_from [] [] rs no_more is all = no_site
  lists_from [] (t ∷ told) rs h is all = elim h [ ]
  lists_from (s ∷ sites) told rs (skipped not_so more) is all =
      unlogged not_so (lists_from sites told rs more is all)
  lists_from (s ∷ sites) told [] (kept {told = others} more) is all = absurd cc
  lists_from (s ∷ sites) told (r ∷ rs) (kept {told = others} more) is all =
      let first : s ≡ r.0 = cc in
      let rest : others ≡ map (λ (r : Site × Reason). r.0) rs = cc in
      logged (subst (λ x. IsLogged ir.functions x) (sym first) all.0)
      (lists_from sites others rs more rest all.1)

  -- one more site
  abbrev pub Reasoned : List Site → List Site → List Piece → List (Site × Reason) → Type 0
  Reasoned sites left ps rs =
      ArePassing ir ps × AllKept ir ps rs × ((rest : List Site) → Skips ir.functions left rest
      → Skips ir.functions sites (map (λ (r : Site × Reason). r.0) rs ++ rest))

  map_last : (rs : List (Site × Reason)) (s : Site) (reason : Reason) (rest : List Site)
      → map (λ (r : Site × Reason). r.0) (rs ++ (s, reason) ∷ []) ++ rest
      ≡ map (λ (r : Site × Reason). r.0) rs ++ s ∷ rest
  map_last [] s reason rest = refl
  map_last (r ∷ rs) s reason rest =
      ap (λ (xs : List Site). r.0 ∷ xs) (map_last rs s reason rest)

  pub reasoned : (sites left : List Site) (s : Site) (ps qs : List Piece)
      (rs : List (Site × Reason)) (o : Option Reason) → IsWellFormed ir
      → ReasonGiven ir s ps qs o → Reasoned sites (s ∷ left) ps rs
      → Reasoned sites left qs (with_reason rs s o)
  reasoned sites left s ps qs rs None well g h =
      (g.passing, kept_grown well rs g.grown h.1, λ rest more. h.2 rest (skipped g.given more))
  reasoned sites left s ps qs rs (Some reason) well g h = (
    g.passing,
    kept_last qs rs (s, reason) (kept_grown well rs g.grown h.1) g.given,
    λ rest more. subst (λ xs. Skips ir.functions sites xs) (sym (map_last rs s reason rest))
        (h.2 (s ∷ rest) (kept more)),
  )

  pub reasoned_at : (sites : List Site) (i : ℕ) (s : Site) (ps qs : List Piece)
      (rs : List (Site × Reason)) (o : Option Reason) → IsWellFormed ir
      → slice_get sites i ≡ Some s → ReasonGiven ir s ps qs o
      → Reasoned sites (drop i sites) ps rs
      → Reasoned sites (drop (i + 1) sites) qs (with_reason rs s o)
  reasoned_at sites i s ps qs rs o well at g h =
      reasoned sites (drop (i + 1) sites) s ps qs rs o well g
      (subst (λ left. Reasoned sites left ps rs) (drop_at sites i s at) h)

  pub reasoned_all : (sites : List Site) (ps : List Piece) (rs : List (Site × Reason))
      → Reasoned sites [] ps rs → Skips ir.functions sites (map (λ (r : Site × Reason). r.0) rs)
  reasoned_all sites ps rs h =
      subst (λ xs. Skips ir.functions sites xs)
      (append-nil (map (λ (r : Site × Reason). r.0) rs)) (h.2 [] no_more)

  pub lists_logged : (sites : List Site) (ps : List Piece) (rs : List (Site × Reason))
      → IsWellFormed ir → ArePassing ir ps → AllKept ir ps rs
      → Skips ir.functions sites (map (λ (r : Site × Reason). r.0) rs)
      → ListsLogged ir.functions sites (listed (record { passed = ps; reasons = rs }))
  lists_logged sites ps rs well passing all h =
      lists_from sites (map (λ (r : Site × Reason). r.0) rs) rs h refl
      (all_logged ir (record { passed = ps; reasons = rs }) well
      (no_fault ps rs passing all))

pub ruleset stores = (unwritten_there, read_there, not_unwritten, not_read, clobbered)

pub ruleset kinds = (stores_at, fills_at, header_given, nothing_given)

pub ruleset fills = (freed_there, not_freed, past_free)
