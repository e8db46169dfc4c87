-- What a sweep adds, and that a sweep that adds nothing leaves nothing to add.
use Rattle.std.proofs.Common.{◌≡◌, ◌≤◌, ◌+◌, ◌++◌, ℕ, zero, suc, Bool, true, false, List, []}
use Rattle.std.proofs.Common.{◌∷◌, Option, Some, None, length, refl, sym, ◌∙◌, ap, subst, arith}
use Rattle.std.specs.Prelude.{◌==◌, slice_get, if◌then◌else◌}
use Rattle.std.proofs.lemmas.Bool.{and_from, eq-eqb, eqb-true}
use Rattle.ir.specs.declared.instruction.Instruction.{Instruction}
use Rattle.ir.specs.declared.instruction.Instruction.TheVariants.{Return}
use Rattle.ir.specs.declared.function.IrFunction.{IrFunction}
use Rattle.ir.specs.declared.function.Ir.{Ir}
use Rattle.ir.specs.declared.fact.Fact.{Fact as WalkFact}
use Rattle.ir.specs.Places.{instruction_at}
use Rattle.walk_check.specs.declared.certificate.Piece.{Piece}
use Rattle.walk_check.specs.Facts.{same}
use Rattle.walk_check.specs.Keeps.{first_fact, last_fact, is_return, passing_keeps}
use Rattle.walk_maker.specs.declared.table.Aim.{Aim}
use Rattle.walk_maker.specs.declared.table.Aim.TheVariants.{ToSite, ToReturn}
use Rattle.walk_maker.specs.declared.table.Link.{Link}
use Rattle.walk_maker.specs.declared.table.Link.TheVariants.{End, Next, Enter}
use Rattle.walk_maker.specs.declared.table.Entry.{Entry}
use Rattle.walk_maker.specs.declared.expand.Later.{Later}
use Rattle.walk_maker.specs.inside.Reading.{entry_fact, next_of, piece_end, piece_from}
use Rattle.walk_maker.specs.inside.Expand.{all_before_tried, bound_fact, callers_tried}
use Rattle.walk_maker.specs.inside.Search.{SearchState, state, goes_from, is_known}
use Rattle.walk_maker.specs.inside.Search.{piece_added, aim_table}
use Rattle.walk_maker.specs.inside.Search.{aim_passed, with_entered, expanded, expanded_in}
use Rattle.walk_maker.specs.inside.Search.{later_at}
use Rattle.walk_maker.specs.inside.Search.{Swept, Stopped}
use Rattle.walk_maker.specs.inside.Search.Swept.{ends, goes}
use Rattle.walk_maker.specs.inside.Search.Stopped.{stops, goes_past}
use Rattle.walk_maker.proofs.Grown.{AtAim, LinkHolds, AllHold, Adds, Steps, steps_on, adds_steps}
use Rattle.walk_maker.proofs.Grown.{adds_hold, adds_get, steps_hold, steps_longer}
use Rattle.walk_maker.proofs.Grown.{steps_same, any_last}
use Rattle.walk_check.proofs.Made.{same-refl}
use Rattle.walk_maker.proofs.Grown.Steps.{still, piece}
use Rattle.walk_maker.proofs.Tried.{adds_all_before, adds_callers, rest_whole}
use Rattle.walk_maker.proofs.Read.{PieceRead, piece_read}

returns : (o : Option Instruction) (from : ℕ) → o ≡ Some (Return from) → is_return o ≡ true
returns o from is = rw is refl

module _ (ir : Ir) (goal : Entry) where
  -- a piece to a return that is read ends there
  aims : (ps : List Piece) (t : List Entry) (n : ℕ) (e : Entry) (u : IrFunction) (y : WalkFact)
      (all : AllHold ir goal ps t) → e.aim ≡ ToReturn y
      → (r : PieceRead ir goal ps t all false n e u) → AtAim ir goal r.end (ToReturn y)
  aims ps t n e u y all aim r = by_link r.end.link refl (all _ r.end r.at).link
    where
      by_link : (l : Link) → r.end.link ≡ l
          → LinkHolds ir goal ps t (piece_end t (length t) n) r.end (all _ r.end r.at).body l
          → AtAim ir goal r.end (ToReturn y)
      by_link End link h = subst (λ a. AtAim ir goal r.end a) (r.aim ∙ aim) h
      by_link (Next m through) link h =
          let next : next_of r.end.link ≡ Some m = rw link refl in
          let clash : Some m ≡ None = sym next ∙ r.stops in absurd cc
      by_link (Enter m) link h =
          let no : ToSite ≡ ToReturn y = sym h.aim ∙ r.aim ∙ aim in absurd cc

  -- it passes calls
  piece_passes : (ps : List Piece) (t : List Entry) (n : ℕ) (e : Entry) (u : IrFunction)
      (y : WalkFact) (all : AllHold ir goal ps t) → e.aim ≡ ToReturn y
      → PieceRead ir goal ps t all false n e u
      → passing_keeps ir ps (piece_from ir.functions t false n) ≡ true
  piece_passes ps t n e u y all aim r =
      let ret = (aims ps t n e u y all aim r).0 in
      let at : instruction_at ir.functions e.function r.end.place ≡ Some (Return ret.0) =
      subst (λ f. instruction_at ir.functions f r.end.place ≡ Some (Return ret.0)) r.function ret.1
      in
      subst (λ p. passing_keeps ir ps p ≡ true) r.is_piece (and_from _ _ r.closed.keeps
      (rw (r.closed.named, r.closed.place_is)
      (returns (instruction_at ir.functions e.function r.end.place) ret.0 at)))

  -- it goes from the entry's fact to that of its aim
  piece_goes : (ps : List Piece) (t : List Entry) (n : ℕ) (e : Entry) (u : IrFunction)
      (y : WalkFact) (all : AllHold ir goal ps t) → e.aim ≡ ToReturn y
      → PieceRead ir goal ps t all false n e u
      → goes_from e.function (entry_fact false u e.fact) y (piece_from ir.functions t false n)
      ≡ true
  piece_goes ps t n e u y all aim r =
      let last = (aims ps t n e u y all aim r).1 in
      let x = entry_fact false u e.fact in
      let first_so : same (first_fact r.closed.piece) x ≡ true =
      rw (r.closed.first_is, r.first_is) (same-refl x) in
      let last_so : same (last_fact r.closed.piece) y ≡ true =
      rw (r.closed.last_is, last) (same-refl y) in
      subst (λ p. goes_from e.function (entry_fact false u e.fact) y p ≡ true) r.is_piece
      (and_from _ _ (eq-eqb r.closed.piece.function e.function r.closed.named)
      (and_from _ _ first_so last_so))

  module _ (later : Later) (u : IrFunction)
      (there : slice_get ir.functions later.entry.function ≡ Some u) where
    abbrev Is : List Entry → Type 0
    Is t = slice_get t later.number ≡ Some later.entry

    steps_piece : (ps : List Piece) (t : List Entry) (y : WalkFact) → AllHold ir goal ps t → Is t
        → later.entry.aim ≡ ToReturn y → later.entry.place ≡ 0
        → Steps ir goal (state t ps) (state t (piece_added ir u later y t ps))
    steps_piece ps t y all is aim zero_is =
        by_test (is_known ps later.entry.function (bound_fact u later) y)
      where
        by_test : (b : Bool) → Steps ir goal (state t ps)
            (state t (if b then ps else ps ++ piece_from ir.functions t false later.number ∷ []))
        by_test true = still
        by_test false =
            piece (piece_from ir.functions t false later.number) still
            (piece_passes ps t later.number later.entry u y all aim
            (piece_read ir goal ps t all false later.number later.entry u is there zero_is))

    pub known_piece : (ps : List Piece) (t : List Entry) (y : WalkFact) → AllHold ir goal ps t
        → Is t
        → later.entry.aim ≡ ToReturn y → later.entry.place ≡ 0
        → is_known (piece_added ir u later y t ps) later.entry.function (bound_fact u later) y
        ≡ true
    known_piece ps t y all is aim zero_is =
        by_test (is_known ps later.entry.function (bound_fact u later) y) refl
      where
        by_test : (b : Bool) → is_known ps later.entry.function (bound_fact u later) y ≡ b
            → is_known (if b then ps else ps ++ piece_from ir.functions t false later.number ∷ [])
            later.entry.function (bound_fact u later) y ≡ true
        by_test true h = h
        by_test false h =
            any_last (goes_from later.entry.function (bound_fact u later) y) ps
            (piece_from ir.functions t false later.number)
            (piece_goes ps t later.number later.entry u y all aim
            (piece_read ir goal ps t all false later.number later.entry u is there zero_is))

    steps_aim : (ps : List Piece) (t : List Entry) (a : Aim) → AllHold ir goal ps t → Is t
        → later.entry.aim ≡ a → later.entry.place ≡ 0
        → Steps ir goal (state t ps)
        (state (aim_table ir u later a t) (aim_passed ir u later a t ps))
    steps_aim ps t ToSite all is aim zero_is =
        adds_steps ir goal ps (adds_callers ir goal ps later u there aim zero_is 0 ir.functions t
        (rest_whole ir.functions) is)
    steps_aim ps t (ToReturn y) all is aim zero_is = steps_piece ps t y all is aim zero_is

    pub entered_return : (ps : List Piece) (t : List Entry) (y : WalkFact)
        → later.entry.aim ≡ ToReturn y → later.entry.place ≡ 0
        → (with_entered ir u later t ps).passed ≡ piece_added ir u later y t ps
    entered_return ps t y aim zero_is =
        let test = eq-eqb later.entry.place 0 zero_is in
        rw test (ap (λ a. aim_passed ir u later a t ps) aim)

    pub entered_site : (ps : List Piece) (t : List Entry) → later.entry.aim ≡ ToSite
        → later.entry.place ≡ 0
        → (with_entered ir u later t ps).table ≡ callers_tried ir later (bound_fact u later) 0
        ir.functions t
    entered_site ps t aim zero_is =
        let test = eq-eqb later.entry.place 0 zero_is in
        rw test (ap (λ a. aim_table ir u later a t) aim)

    pub steps_entered : (ps : List Piece) (t : List Entry) → AllHold ir goal ps t → Is t
        → Steps ir goal (state t ps) (with_entered ir u later t ps)
    steps_entered ps t all is = by_test (later.entry.place == 0) refl
      where
        by_test : (b : Bool) → (later.entry.place == 0) ≡ b → Steps ir goal (state t ps)
            (state (if b then aim_table ir u later later.entry.aim t else t)
            (if b then aim_passed ir u later later.entry.aim t ps else ps))
        by_test true h =
            steps_aim ps t later.entry.aim all is refl (eqb-true later.entry.place 0 h)
        by_test false h = still

    pub adds_here : (ps : List Piece) (t : List Entry) → Is t
        → Adds ir goal ps t (all_before_tried ir ps u later 0 u.code t)
    adds_here ps t is = adds_all_before ir goal ps later u there 0 u.code t is

    pub is_after : (ps : List Piece) (t : List Entry) → Is t
        → Is (all_before_tried ir ps u later 0 u.code t)
    is_after ps t is = adds_get ir goal later.number later.entry (adds_here ps t is) is

    steps_in : (s : SearchState) → AllHold ir goal s.passed s.table → Is s.table
        → Steps ir goal s (expanded_in ir later (Some u) s)
    steps_in s all is =
        let first = adds_here s.passed s.table is in
        steps_on ir goal (adds_steps ir goal s.passed first) (steps_entered s.passed
        (all_before_tried ir s.passed u later 0 u.code s.table) (adds_hold ir goal first all)
        (is_after s.passed s.table is))

  pub steps_expanded : (later : Later) (s : SearchState) → AllHold ir goal s.passed s.table
      → slice_get s.table later.number ≡ Some later.entry
      → Steps ir goal s (expanded ir later s)
  steps_expanded later s all is =
      by_body (slice_get ir.functions later.entry.function) refl
    where
      by_body : (o : Option IrFunction) → slice_get ir.functions later.entry.function ≡ o
          → Steps ir goal s (expanded_in ir later o s)
      by_body None there = still
      by_body (Some u) there = steps_in later u there s all is

  pub steps_swept : {n : ℕ} {s end : SearchState} → Swept ir n s end
      → AllHold ir goal s.passed s.table → Steps ir goal s end
  steps_swept (ends past) all = still
  steps_swept (goes {n = n} {s = s} {e = e} is more) all =
      let first = steps_expanded (later_at n e) s all is in
      steps_on ir goal first (steps_swept more (steps_hold ir goal first all))

  pub steps_stopped : {n : ℕ} {s end : SearchState} → Stopped ir n s end
      → AllHold ir goal s.passed s.table → Steps ir goal s end
  steps_stopped stops all = still
  steps_stopped (goes_past {n = n} {s = s} {e = e} is more) all =
      let first = steps_expanded (later_at n e) s all is in
      steps_on ir goal first (steps_stopped more (steps_hold ir goal first all))

  none_past : {X : Type 0} (xs : List X) (n k : ℕ) (x : X) → slice_get xs n ≡ None
      → slice_get xs (n + k) ≡ Some x → ⊥
  none_past [] n k x past is = absurd cc
  none_past (y ∷ xs) zero k x past is = absurd cc
  none_past {X = X} (y ∷ xs) (suc n) k x past is =
      let sum : suc n + k ≡ suc (n + k) = omega arith in
      let at : slice_get (y ∷ xs) (suc (n + k)) ≡ Some x =
      subst (λ m. slice_get (y ∷ xs) m ≡ Some x) sum is in none_past xs n k x past at

  -- no entry of the state has anything new before it
  abbrev pub StillFrom : ℕ → SearchState → Type 0
  StillFrom n s = (k : ℕ) (e : Entry) → slice_get s.table (n + k) ≡ Some e
      → s ≡ expanded ir (later_at (n + k) e) s

  still_more : (n : ℕ) (s : SearchState) (e : Entry) → slice_get s.table n ≡ Some e
      → s ≡ expanded ir (later_at n e) s → StillFrom (n + 1) s → StillFrom n s
  still_more n s e is same more zero x at =
      let place : n + 0 ≡ n = omega arith in
      let here : slice_get s.table n ≡ Some x =
      subst (λ m. slice_get s.table m ≡ Some x) place at in
      let some : Some e ≡ Some x = sym is ∙ here in
      let entry_is : e ≡ x = cc in
      subst (λ m. s ≡ expanded ir (later_at m x) s) (sym place)
      (subst (λ y. s ≡ expanded ir (later_at n y) s) entry_is same)
  still_more n s e is same more (suc k) x at =
      let place : n + suc k ≡ (n + 1) + k = omega arith in
      let there : slice_get s.table ((n + 1) + k) ≡ Some x =
      subst (λ m. slice_get s.table m ≡ Some x) place at in
      subst (λ m. s ≡ expanded ir (later_at m x) s) (sym place) (more k x there)

  pub swept_still : {n : ℕ} {s end : SearchState} → Swept ir n s end
      → AllHold ir goal s.passed s.table → length end.table ≡ length s.table
      → length end.passed ≡ length s.passed → StillFrom n s
  swept_still (ends {n = n} {s = s} past) all few less =
      λ k e is. absurd (none_past s.table n k e past is)
  swept_still (goes {n = n} {s = s} {end = end} {e = e} is more) all few less =
      let first = steps_expanded (later_at n e) s all is in
      let after = expanded ir (later_at n e) s in
      let held = steps_hold ir goal first all in
      let rest = steps_longer ir goal (steps_swept more held) in
      let table_up : length after.table ≤ length end.table = rest.0 in
      let passed_up : length after.passed ≤ length end.passed = rest.1 in
      let same : s ≡ after = steps_same ir goal first (omega arith) (omega arith) in
      still_more n s e is same (subst (λ v. StillFrom (n + 1) v) (sym same)
      (swept_still more held (few ∙ ap (λ (v : SearchState). length v.table) same)
      (less ∙ ap (λ (v : SearchState). length v.passed) same)))
