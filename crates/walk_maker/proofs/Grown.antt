-- A search adds only entries that are linked as they say, and pieces that keep the rules.
use Rattle.std.proofs.Common.{◌≡◌, ◌<◌, ◌≤◌, ◌+◌, ◌++◌, ℕ, zero, suc, Bool, true, false, List}
use Rattle.std.proofs.Common.{[], ◌∷◌, Option, Some, length, refl, sym, ◌∙◌, ap, subst, arith}
use Rattle.std.proofs.Common.{inl, inr, ⊎_elim}
use Rattle.std.specs.Prelude.{slice_get}
use Rattle.std.specs.List.{list_any}
use Rattle.std.proofs.lemmas.Bool.{and_from, or_left, or_right, eq-eqb}
use Rattle.std.proofs.lemmas.List.{length-append}
use Rattle.std.proofs.lemmas.List.Folds.{list_any-append}
use mathlib.Core.Logic.{◌⊎◌}
use Rattle.ir.specs.declared.instruction.Instruction.TheVariants.{Call}
use Rattle.ir.specs.declared.function.IrFunction.{IrFunction}
use Rattle.ir.specs.declared.function.Ir.{Ir}
use Rattle.ir.specs.Places.{ReturnsAt}
use Rattle.walk_check.specs.declared.certificate.Piece.{Piece}
use Rattle.walk_check.specs.Follow.{binds}
use Rattle.walk_check.specs.Keeps.{fact_is_there, follows, passing_keeps}
use Rattle.walk_check.specs.inside.Grown.{ArePassing, Grows}
use Rattle.walk_check.specs.inside.Grown.ArePassing.{one_more}
use Rattle.walk_check.specs.inside.Grown.Grows.{stays, grows}
use Rattle.walk_check.proofs.Grown.{slice_get_more, follows_more}
use Rattle.walk_check.proofs.Made.{same-refl}
use Rattle.walk_maker.specs.declared.table.Aim.{Aim}
use Rattle.walk_maker.specs.declared.table.Aim.TheVariants.{ToSite, ToReturn}
use Rattle.walk_maker.specs.declared.table.Link.{Link}
use Rattle.walk_maker.specs.declared.table.Link.TheVariants.{End, Next, Enter}
use Rattle.walk_maker.specs.declared.table.Entry.{Entry}
use Rattle.walk_maker.specs.inside.Table.{same_aim, same_spot, has, step_of}
use Rattle.walk_maker.specs.inside.Reading.{entry_fact}
use Rattle.walk_maker.specs.inside.Search.{SearchState, state}

-- an element of a longer list is the last one or one before it
pub last_or_before : {X : Type 0} (xs : List X) (y : X) (k : ℕ) (x : X)
    → slice_get (xs ++ y ∷ []) k ≡ Some x
    → (slice_get xs k ≡ Some x) ⊎ ((k ≡ length xs) × (y ≡ x))
last_or_before [] y zero x is = let e : y ≡ x = cc in inr (refl, e)
last_or_before [] y (suc k) x is = absurd cc
last_or_before (z ∷ xs) y zero x is = inl is
last_or_before (z ∷ xs) y (suc k) x is =
    ⊎_elim (λ e. inl e) (λ e. let same : k ≡ length xs = e.0 in inr (ap suc same, e.1))
    (last_or_before xs y k x is)

pub same_aim-refl : (a : Aim) → same_aim a a ≡ true
same_aim-refl ToSite = refl
same_aim-refl (ToReturn y) = same-refl y

pub same_spot-refl : (e : Entry) → same_spot e e ≡ true
same_spot-refl e =
    and_from _ _ (same_aim-refl e.aim) (and_from _ _ (eq-eqb e.function e.function refl)
    (and_from _ _ (eq-eqb e.place e.place refl) (same-refl e.fact)))

pub any_more : {X : Type 0} (p : X → Bool) (xs : List X) (y : X) → list_any p xs ≡ true
    → list_any p (xs ++ y ∷ []) ≡ true
any_more p xs y h =
    list_any-append p xs (y ∷ []) ∙ or_left (list_any p xs) (list_any p (y ∷ [])) h

pub any_last : {X : Type 0} (p : X → Bool) (xs : List X) (y : X) → p y ≡ true
    → list_any p (xs ++ y ∷ []) ≡ true
any_last p xs y h =
    list_any-append p xs (y ∷ []) ∙ or_right (list_any p xs) (list_any p (y ∷ []))
    (or_left (p y) false h)

module _ (ir : Ir) (goal : Entry) where
  -- an entry without a further one is at its aim
  abbrev pub AtAim : Entry → Aim → Type 0
  AtAim e ToSite =
      (e.function ≡ goal.function) × (e.place ≡ goal.place) × (e.fact ≡ goal.fact)
  AtAim e (ToReturn y) = ReturnsAt ir.functions e.function e.place × (e.fact ≡ y)

  -- the next step follows
  pub record NextHolds (ps : List Piece) (t : List Entry) (n : ℕ) (e : Entry) (u : IrFunction)
      (m : ℕ) (through : Option ℕ) : Type 0 where
    pub later : Entry
    pub less : m < n
    pub there : slice_get t m ≡ Some later
    pub aim : later.aim ≡ e.aim
    pub function : later.function ≡ e.function
    pub follow : follows ps u (step_of e) (step_of later) through ≡ true

  -- the call is entered
  pub record EnterHolds (t : List Entry) (n : ℕ) (e : Entry) (u : IrFunction) (m : ℕ)
      : Type 0 where
    pub later : Entry
    pub callee : IrFunction
    pub less : m < n
    pub there : slice_get t m ≡ Some later
    pub aim : e.aim ≡ ToSite
    pub aim_later : later.aim ≡ ToSite
    pub entry : later.place ≡ 0
    pub callee_is : slice_get ir.functions later.function ≡ Some callee
    pub to : ℕ
    pub args : List ℕ
    pub call : slice_get u.code e.place ≡ Some (Call to later.function args)
    pub binding : binds args e.fact (entry_fact false callee later.fact) ≡ true

  abbrev pub LinkHolds : List Piece → List Entry → ℕ → Entry → IrFunction → Link → Type 0
  LinkHolds ps t n e u End = AtAim e e.aim
  LinkHolds ps t n e u (Next m through) = NextHolds ps t n e u m through
  LinkHolds ps t n e u (Enter m) = EnterHolds t n e u m

  -- entry number n of the table is linked as it says
  pub record Holds (ps : List Piece) (t : List Entry) (n : ℕ) (e : Entry) : Type 0 where
    pub body : IrFunction
    pub there : slice_get ir.functions e.function ≡ Some body
    pub fits : fact_is_there ir.shapes body e.fact ≡ true
    pub link : LinkHolds ps t n e body e.link

  abbrev pub AllHold : List Piece → List Entry → Type 0
  AllHold ps t = (n : ℕ) (e : Entry) → slice_get t n ≡ Some e → Holds ps t n e

  -- entries are added
  pub data Adds (ps : List Piece) : List Entry → List Entry → Type 0 where
    no_more : {t : List Entry} → Adds ps t t
    one : {s t : List Entry} (e : Entry) → Adds ps s t → Holds ps t (length t) e
        → Adds ps s (t ++ e ∷ [])

  -- entries and pieces are added
  pub data Steps : SearchState → SearchState → Type 0 where
    still : {s : SearchState} → Steps s s
    entry : {s t : SearchState} (e : Entry) → Steps s t → Holds t.passed t.table (length t.table) e
        → Steps s (state (t.table ++ e ∷ []) t.passed)
    piece : {s t : SearchState} (p : Piece) → Steps s t → passing_keeps ir t.passed p ≡ true
        → Steps s (state t.table (t.passed ++ p ∷ []))

  pub adds_on : {ps : List Piece} {s t v : List Entry} → Adds ps s t → Adds ps t v → Adds ps s v
  adds_on a no_more = a
  adds_on a (one e b h) = one e (adds_on a b) h

  pub steps_on : {s t v : SearchState} → Steps s t → Steps t v → Steps s v
  steps_on a still = a
  steps_on a (entry e b h) = entry e (steps_on a b) h
  steps_on a (piece p b h) = piece p (steps_on a b) h

  pub adds_steps : (ps : List Piece) {s t : List Entry} → Adds ps s t
      → Steps (state s ps) (state t ps)
  adds_steps ps no_more = still
  adds_steps ps (one e a h) = entry e (adds_steps ps a) h

  pub adds_get : {ps : List Piece} {s t : List Entry} (n : ℕ) (e : Entry) → Adds ps s t
      → slice_get s n ≡ Some e → slice_get t n ≡ Some e
  adds_get n e no_more is = is
  adds_get n e (one {t = t} x a h) is = slice_get_more t x n e (adds_get n e a is)

  pub adds_has : {ps : List Piece} {s t : List Entry} (x : Entry) → Adds ps s t
      → has s x ≡ true → has t x ≡ true
  adds_has x no_more h = h
  adds_has x (one {t = t} e a k) h =
      any_more (λ (y : Entry). same_spot y x) t e (adds_has x a h)

  pub steps_has : {s t : SearchState} (x : Entry) → Steps s t → has s.table x ≡ true
      → has t.table x ≡ true
  steps_has x still h = h
  steps_has x (entry {t = t} e a k) h =
      any_more (λ (y : Entry). same_spot y x) t.table e (steps_has x a h)
  steps_has x (piece p a k) h = steps_has x a h

  -- what holds stays
  next_more : (ps : List Piece) (t : List Entry) (x : Entry) (n : ℕ) (e : Entry) (u : IrFunction)
      (m : ℕ) (through : Option ℕ) → NextHolds ps t n e u m through
      → NextHolds ps (t ++ x ∷ []) n e u m through
  next_more ps t x n e u m through h =
      record {
        later = h.later;
        less = h.less;
        there = slice_get_more t x m h.later h.there;
        aim = h.aim;
        function = h.function;
        follow = h.follow;
      }

  enter_more : (t : List Entry) (x : Entry) (n : ℕ) (e : Entry) (u : IrFunction) (m : ℕ)
      → EnterHolds t n e u m → EnterHolds (t ++ x ∷ []) n e u m
  enter_more t x n e u m h =
      record {
        later = h.later;
        callee = h.callee;
        less = h.less;
        there = slice_get_more t x m h.later h.there;
        aim = h.aim;
        aim_later = h.aim_later;
        entry = h.entry;
        callee_is = h.callee_is;
        to = h.to;
        args = h.args;
        call = h.call;
        binding = h.binding;
      }

  link_more : (ps : List Piece) (t : List Entry) (x : Entry) (n : ℕ) (e : Entry)
      (u : IrFunction) (l : Link) → LinkHolds ps t n e u l
      → LinkHolds ps (t ++ x ∷ []) n e u l
  link_more ps t x n e u End h = h
  link_more ps t x n e u (Next m through) h = next_more ps t x n e u m through h
  link_more ps t x n e u (Enter m) h = enter_more t x n e u m h

  link_passed : (ps : List Piece) (p : Piece) (t : List Entry) (n : ℕ) (e : Entry)
      (u : IrFunction) (l : Link) → LinkHolds ps t n e u l
      → LinkHolds (ps ++ p ∷ []) t n e u l
  link_passed ps p t n e u End h = h
  link_passed ps p t n e u (Next m through) h =
      record {
        later = h.later;
        less = h.less;
        there = h.there;
        aim = h.aim;
        function = h.function;
        follow = follows_more ps p u (step_of e) (step_of h.later) through h.follow;
      }
  link_passed ps p t n e u (Enter m) h = h

  holds_more : (ps : List Piece) (t : List Entry) (x : Entry) (n : ℕ) (e : Entry)
      → Holds ps t n e → Holds ps (t ++ x ∷ []) n e
  holds_more ps t x n e h =
      record {
        body = h.body;
        there = h.there;
        fits = h.fits;
        link = link_more ps t x n e h.body e.link h.link;
      }

  holds_passed : (ps : List Piece) (p : Piece) (t : List Entry) (n : ℕ) (e : Entry)
      → Holds ps t n e → Holds (ps ++ p ∷ []) t n e
  holds_passed ps p t n e h =
      record {
        body = h.body;
        there = h.there;
        fits = h.fits;
        link = link_passed ps p t n e h.body e.link h.link;
      }

  pub all_more : (ps : List Piece) (t : List Entry) (x : Entry) → AllHold ps t
      → Holds ps t (length t) x → AllHold ps (t ++ x ∷ [])
  all_more ps t x all h n e is =
      ⊎_elim (λ i. holds_more ps t x n e (all n e i))
      (λ i. let place : length t ≡ n = sym i.0 in
      holds_more ps t x n e (subst (λ k. Holds ps t k e) place
      (subst (λ y. Holds ps t (length t) y) i.1 h)))
      (last_or_before t x n e is)

  pub adds_hold : {ps : List Piece} {s t : List Entry} → Adds ps s t → AllHold ps s → AllHold ps t
  adds_hold no_more all = all
  adds_hold {ps = ps} (one {t = t} e a h) all = all_more ps t e (adds_hold a all) h

  pub steps_hold : {s t : SearchState} → Steps s t → AllHold s.passed s.table
      → AllHold t.passed t.table
  steps_hold still all = all
  steps_hold (entry {t = t} e a h) all = all_more t.passed t.table e (steps_hold a all) h
  steps_hold (piece {t = t} p a h) all =
      λ n e is. holds_passed t.passed p t.table n e (steps_hold a all n e is)

  pub steps_passing : {s t : SearchState} → Steps s t → ArePassing ir s.passed
      → ArePassing ir t.passed
  steps_passing still all = all
  steps_passing (entry e a h) all = steps_passing a all
  steps_passing (piece p a h) all = one_more p (steps_passing a all) h

  pub steps_grow : {s t : SearchState} → Steps s t → Grows s.passed t.passed
  steps_grow still = stays
  steps_grow (entry e a h) = steps_grow a
  steps_grow (piece p a h) = grows p (steps_grow a)

  -- a search that adds nothing
  pub steps_longer : {s t : SearchState} → Steps s t
      → (length s.table ≤ length t.table) × (length s.passed ≤ length t.passed)
  steps_longer {s = s} still = (omega arith, omega arith)
  steps_longer {s = s} (entry {t = t} e a h) =
      let before = steps_longer a in
      let less : length s.table ≤ length t.table = before.0 in
      let more : length (t.table ++ e ∷ []) ≡ length t.table + 1 = length-append t.table (e ∷ [])
      in (omega arith, before.1)
  steps_longer {s = s} (piece {t = t} p a h) =
      let before = steps_longer a in
      let less : length s.passed ≤ length t.passed = before.1 in
      let more : length (t.passed ++ p ∷ []) ≡ length t.passed + 1 =
      length-append t.passed (p ∷ []) in
      (before.0, omega arith)

  pub steps_same : {s t : SearchState} → Steps s t → length t.table ≤ length s.table
      → length t.passed ≤ length s.passed → s ≡ t
  steps_same still few less = refl
  steps_same {s = s} (entry {t = t} e a h) few less =
      let before : length s.table ≤ length t.table = (steps_longer a).0 in
      let more : length (t.table ++ e ∷ []) ≡ length t.table + 1 = length-append t.table (e ∷ [])
      in absurd (omega arith)
  steps_same {s = s} (piece {t = t} p a h) few less =
      let before : length s.passed ≤ length t.passed = (steps_longer a).1 in
      let more : length (t.passed ++ p ∷ []) ≡ length t.passed + 1 =
      length-append t.passed (p ∷ []) in absurd (omega arith)
