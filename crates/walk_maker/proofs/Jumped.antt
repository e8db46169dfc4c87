-- The places that can lead to a place are found by its jumps.
use Rattle.std.proofs.Common.{◌≡◌, ◌+◌, ◌-◌, ◌++◌, ◌&&◌, ◌<◌, ◌≤◌, ◌⊎◌, ℕ, zero, suc}
use Rattle.std.proofs.Common.{Bool, true, false, List, [], ◌∷◌, Option, Some, None, length, drop}
use Rattle.std.proofs.Common.{refl, sym, ◌∙◌, ap, subst, arith, inl, inr, ⊎_elim}
use Rattle.std.specs.Prelude.{◌==◌, slice_get, nat_lt, nat_le, if◌then◌else◌}
use Rattle.std.proofs.lemmas.Bool.{false≢true, and_parts, and_from, eqb-true, lt-ltb, le-leb}
use Rattle.std.proofs.lemmas.Bool.{ltb-true, leb-true, cases_lt}
use Rattle.ir.specs.declared.instruction.Instruction.{Instruction}
use Rattle.ir.specs.declared.instruction.Instruction.TheVariants.{Const, Copy, Bin, Jump, Branch}
use Rattle.ir.specs.declared.instruction.Instruction.TheVariants.{Load, Store, New, Free, Call}
use Rattle.ir.specs.declared.instruction.Instruction.TheVariants.{Return, Tick, Trap, Log}
use Rattle.ir.specs.declared.function.IrFunction.{IrFunction}
use Rattle.ir.specs.declared.function.Ir.{Ir}
use Rattle.walk_check.specs.declared.certificate.Piece.{Piece}
use Rattle.walk_check.specs.Follow.{leads}
use Rattle.walk_maker.specs.declared.table.Entry.{Entry}
use Rattle.walk_maker.specs.declared.expand.Later.{Later}
use Rattle.walk_maker.specs.declared.jumps.Jumps.{Jumps}
use Rattle.walk_maker.specs.inside.Expand as expand
use Rattle.walk_maker.specs.inside.Jumps.{landing_of, jumps_to, NoneJumps, AreJumpsFrom, AreJumps}
use Rattle.walk_maker.specs.inside.Jumps.{number_or_zero, first_jump, next_jump, noted}
use Rattle.walk_maker.specs.inside.Jumps.{AreAllJumps, first_at, next_at, first_in, next_in}
use Rattle.walk_maker.specs.inside.Jumps.{candidate, jump_after}
use Rattle.walk_maker.proofs.Grown.{last_or_before}
use Rattle.walk_maker.proofs.Fuel.{drop_at, drop_past}
use Rattle.walk_maker.proofs.Chained.{set_found}

-- an instruction that doesn't jump to q, and isn't right before it, doesn't lead there
leads_not : (i : Instruction) (p q : ℕ) → jumps_to (landing_of i) q ≡ false → (q == p + 1) ≡ false
    → leads i p q ≡ false
leads_not (Const to value) p q jump next = next
leads_not (Copy to from) p q jump next = next
leads_not (Bin op to left right) p q jump next = next
leads_not (Jump place) p q jump next = jump
leads_not (Branch on place) p q jump next = rw (next, jump) refl
leads_not (Load to target) p q jump next = next
leads_not (Store target from line) p q jump next = next
leads_not (New to kind log_fill line) p q jump next = next
leads_not (Free from kind line) p q jump next = next
leads_not (Call to function args) p q jump next = refl
leads_not (Return from) p q jump next = refl
leads_not Tick p q jump next = next
leads_not (Trap kind) p q jump next = refl
leads_not (Log target) p q jump next = next

here_or_past : {X : Type 0} (xs : List X) (k : ℕ) (o : Option X) → slice_get xs k ≡ o
    → ((x : X) × (slice_get xs k ≡ Some x)) ⊎ (length xs ≤ k)
here_or_past [] k o is = inr (omega arith)
here_or_past (x ∷ xs) zero o is = inl (x, refl)
here_or_past (x ∷ xs) (suc k) o is =
    ⊎_elim (λ h. inl h) (λ (h : length xs ≤ k). inr (omega arith)) (here_or_past xs k o is)

-- from place a on and before place b no instruction leads to q
abbrev pub IsStill : List Instruction → (q a b : ℕ) → Type 0
IsStill code q a b = (p : ℕ) (i : Instruction) → slice_get code p ≡ Some i → a ≤ p → p < b
    → (jumps_to (landing_of i) q ≡ false) × ((q == p + 1) ≡ false)

module _ (ir : Ir) (ps : List Piece) (u : IrFunction) (later : Later) where
  -- what doesn't lead to the later place adds nothing
  before_same : (p : ℕ) (i : Instruction) (t : List Entry)
      → jumps_to (landing_of i) later.entry.place ≡ false → (later.entry.place == p + 1) ≡ false
      → expand.before_tried ir ps u later p i t ≡ t
  before_same p i t jump next =
      let along : leads i p later.entry.place ≡ false =
      leads_not i p later.entry.place jump next in
      rw (next, along) refl

  -- with what comes from the places from p on
  abbrev pub From : (p : ℕ) → List Entry → List Entry
  From p t = expand.all_before_tried ir ps u later p (drop p u.code) t

  pub from_here : (p : ℕ) (i : Instruction) (t : List Entry) → slice_get u.code p ≡ Some i
      → From p t ≡ From (p + 1) (expand.before_tried ir ps u later p i t)
  from_here p i t is = rw (drop_at u.code p i is) refl

  pub from_past : (p : ℕ) (t : List Entry) → length u.code ≤ p → From p t ≡ t
  from_past p t past = rw (drop_past u.code p past) refl

  skip : (k a : ℕ) (t : List Entry) → IsStill u.code later.entry.place a (a + k)
      → From a t ≡ From (a + k) t
  skip zero a t still = let same : a + 0 ≡ a = omega arith in rw same refl
  skip (suc k) a t still =
      ⊎_elim (λ h.
      let off = still a h.0 h.1 (omega arith) (omega arith) in
      let one : From a t ≡ From (a + 1) t = from_here a h.0 t h.1
      ∙ ap (λ s. From (a + 1) s) (before_same a h.0 t off.0 off.1) in
      let more : (a + 1) + k ≡ a + suc k = omega arith in
      one ∙ skip k (a + 1) t (λ p i is from below. still p i is (omega arith) (omega arith))
      ∙ ap (λ b. From b t) more)
      (λ (past : length u.code ≤ a).
      from_past a t past ∙ sym (from_past (a + suc k) t (omega arith)))
      (here_or_past u.code a (slice_get u.code a) refl)

  pub skip_to : (a b : ℕ) (t : List Entry) → a ≤ b → IsStill u.code later.entry.place a b
      → From a t ≡ From b t
  skip_to a b t less still =
      let is : a + (b - a) ≡ b = omega arith in
      skip (b - a) a t (λ p i there from below. still p i there from (omega arith))
      ∙ ap (λ c. From c t) is

not_equal : (q p : ℕ) (b : Bool) → (q == p) ≡ b → (q ≡ p → ⊥) → (q == p) ≡ false
not_equal q p true is never = absurd (never (eqb-true q p is))
not_equal q p false is never = is

pub candidate_from : (q at jump : ℕ) → at ≤ candidate q at jump
candidate_from q at jump = by_test (nat_lt at q && nat_le q jump) refl
  where
    by_later : (b : Bool) → nat_lt at jump ≡ b → at ≤ (if b then jump else at)
    by_later true is = let less : at < jump = ltb-true at jump is in omega arith
    by_later false is = omega arith

    by_test : (b : Bool) → (nat_lt at q && nat_le q jump) ≡ b
        → at ≤ (if b then q - 1 else (if nat_lt at jump then jump else at))
    by_test true is =
        let parts = and_parts _ _ is in
        let less : at < q = ltb-true at q parts.0 in omega arith
    by_test false is = by_later (nat_lt at jump) refl

module _ (code : List Instruction) (q at jump : ℕ) (quiet : NoneJumps code q at jump) where
  pub candidate_still : IsStill code q at (candidate q at jump)
  candidate_still = by_test (nat_lt at q && nat_le q jump) refl
    where
      by_later : (b : Bool) → nat_lt at jump ≡ b → (nat_lt at q && nat_le q jump) ≡ false
          → IsStill code q at (if b then jump else at)
      by_later false is none = λ p i there from below. absurd (omega arith)
      by_later true is none = λ p i there from below. (
        quiet p i there from below,
        not_equal q (p + 1) (q == p + 1) refl (λ (same : q ≡ p + 1).
            let first : at < q = omega arith in
            let second : q ≤ jump = omega arith in
            false≢true (sym none ∙ and_from _ _ (lt-ltb at q first) (le-leb q jump second))),
      )

      by_test : (b : Bool) → (nat_lt at q && nat_le q jump) ≡ b
          → IsStill code q at (if b then q - 1 else (if nat_lt at jump then jump else at))
      by_test true is = λ p i there from below.
          let parts = and_parts _ _ is in
          let first : at < q = ltb-true at q parts.0 in
          let second : q ≤ jump = leb-true q jump parts.1 in (
            quiet p i there from (omega arith),
            not_equal q (p + 1) (q == p + 1) refl (λ (same : q ≡ p + 1). omega arith),
          )
      by_test false is = by_later (nat_lt at jump) refl is

-- one turn of the loop over the places that may lead to the later one
module _ (ir : Ir) (ps : List Piece) (u : IrFunction) (later : Later) (at jump next : ℕ)
    (next_is : next ≡ candidate later.entry.place at jump)
    (quiet : NoneJumps u.code later.entry.place at jump) where
  pub next_from : at ≤ next
  next_from =
      subst (λ n. at ≤ n) (sym next_is) (candidate_from later.entry.place at jump)

  to_next : (t : List Entry) → From ir ps u later at t ≡ From ir ps u later next t
  to_next t = skip_to ir ps u later at next t next_from
      (subst (λ n. IsStill u.code later.entry.place at n) (sym next_is)
      (candidate_still u.code later.entry.place at jump quiet))

  pub turn_on : (i : Instruction) (t whole : List Entry) → slice_get u.code next ≡ Some i
      → From ir ps u later at t ≡ whole
      → From ir ps u later (next + 1) (expand.before_tried ir ps u later next i t) ≡ whole
  turn_on i t whole is so_far =
      sym (from_here ir ps u later next i t is) ∙ sym (to_next t) ∙ so_far

  pub turn_end : (t whole : List Entry) → length u.code ≤ next → From ir ps u later at t ≡ whole
      → t ≡ whole
  turn_end t whole past so_far =
      sym (from_past ir ps u later next t past) ∙ sym (to_next t) ∙ so_far

-- what is kept for a place is quiet, whether it is there or not
first_is : (code : List Instruction) (d : ℕ) (j : Jumps) (q : ℕ) → AreJumpsFrom code d j
    → NoneJumps code q d (first_jump j q)
first_is code d j q are = by_option (slice_get j.firsts q) refl
  where
    by_option : (o : Option ℕ) → slice_get j.firsts q ≡ o → NoneJumps code q d (number_or_zero o)
    by_option None is = λ p i there from below. absurd (omega arith)
    by_option (Some n) is = are.quiet_first q n is

next_is : (code : List Instruction) (j : Jumps) (p q : ℕ) (i : Instruction) → AreJumps code j
    → slice_get code p ≡ Some i → jumps_to (landing_of i) q ≡ true
    → NoneJumps code q (p + 1) (next_jump j p)
next_is code j p q i are there jump = by_option (slice_get j.nexts p) refl
  where
    by_option : (o : Option ℕ) → slice_get j.nexts p ≡ o
        → NoneJumps code q (p + 1) (number_or_zero o)
    by_option None is = λ r k here from below. absurd (omega arith)
    by_option (Some n) is = are.quiet_next p n q i (omega arith) is there jump

module _ (functions : List IrFunction) (js : List Jumps) (all : AreAllJumps functions js) (f : ℕ)
    (u : IrFunction) (is : slice_get functions f ≡ Some u) where
  pub first_quiet : (q : ℕ) → NoneJumps u.code q 0 (first_in js f q)
  first_quiet q = by_option (slice_get js f) refl
    where
      by_option : (o : Option Jumps) → slice_get js f ≡ o → NoneJumps u.code q 0 (first_at o q)
      by_option None h = λ p i there from below. absurd (omega arith)
      by_option (Some j) h = first_is u.code 0 j q (all f u j is h)

  pub after_quiet : (q at jump p : ℕ) (i : Instruction) → slice_get u.code p ≡ Some i → at ≤ p
      → NoneJumps u.code q at jump → NoneJumps u.code q (p + 1) (jump_after js f q jump p i)
  after_quiet q at jump p i there from quiet =
      by_test ((p == jump) && jumps_to (landing_of i) q) refl
    where
      by_option : (o : Option Jumps) → slice_get js f ≡ o → jumps_to (landing_of i) q ≡ true
          → NoneJumps u.code q (p + 1) (next_at o p)
      by_option None h goes = λ r k here from below. absurd (omega arith)
      by_option (Some j) h goes = next_is u.code j p q i (all f u j is h) there goes

      by_test : (b : Bool) → ((p == jump) && jumps_to (landing_of i) q) ≡ b
          → NoneJumps u.code q (p + 1) (if b then next_in js f p else jump)
      by_test true h = by_option (slice_get js f) refl (and_parts _ _ h).1
      by_test false h = λ r k here low below. quiet r k here (omega arith) below

here_or_later : (d p : ℕ) → d ≤ p → (p ≡ d) ⊎ (d + 1 ≤ p)
here_or_later d p from =
    ⊎_elim (λ (low : p < d + 1). inl (omega arith)) (λ (high : d + 1 ≤ p). inr high)
    (cases_lt p (d + 1))

-- an instruction more, from the end on
module _ (code : List Instruction) (d : ℕ) (i : Instruction) (j : Jumps)
    (is : slice_get code d ≡ Some i) (are : AreJumpsFrom code (d + 1) j) where
  same_there : (p : ℕ) (k : Instruction) → p ≡ d → slice_get code p ≡ Some k → i ≡ k
  same_there p k here there =
      let one : slice_get code d ≡ Some k = subst (λ r. slice_get code r ≡ Some k) here there in cc

  -- what is kept for a place stays, if the instruction doesn't jump there
  quiet_more : (q n : ℕ) → jumps_to (landing_of i) q ≡ false → NoneJumps code q (d + 1) n
      → NoneJumps code q d n
  quiet_more q n off quiet p k there from below =
      ⊎_elim (λ (here : p ≡ d).
      subst (λ x. jumps_to (landing_of x) q ≡ false) (same_there p k here there) off)
      (λ (later : d + 1 ≤ p). quiet p k there later below) (here_or_later d p from)

  by_target : (o : Option ℕ) → landing_of i ≡ o → AreJumpsFrom code d (noted o d j)
  by_target None t = record {
    quiet_first = λ q n there. quiet_more q n (ap (λ o. jumps_to o q) t)
        (are.quiet_first q n there);
    quiet_next = λ p n q k from there at_p goes.
        ⊎_elim (λ (here : p ≡ d).
        let same : i ≡ k = same_there p k here at_p in
        let off : jumps_to (landing_of k) q ≡ false =
        subst (λ x. jumps_to (landing_of x) q ≡ false) same (ap (λ o. jumps_to o q) t) in
        absurd (false≢true (sym off ∙ goes)))
        (λ (later : d + 1 ≤ p). are.quiet_next p n q k later there at_p goes)
        (here_or_later d p from);
  }
  by_target (Some at) t = record {
    quiet_first = λ q n there.
        ⊎_elim (λ h p k at_p from below. let n_is : d ≡ n = h.1 in absurd (omega arith))
        (λ h. quiet_more q n (ap (λ o. jumps_to o q) t
        ∙ not_equal q at (q == at) refl h.0) (are.quiet_first q n h.1))
        (set_found j.firsts at q d n there);
    quiet_next = λ p n q k from there at_p goes.
        ⊎_elim (λ h.
        let same : i ≡ k = same_there p k h.0 at_p in
        let goes_i : jumps_to (landing_of i) q ≡ true =
        subst (λ x. jumps_to (landing_of x) q ≡ true) (sym same) goes in
        let q_is : q ≡ at = eqb-true q at (sym (ap (λ o. jumps_to o q) t) ∙ goes_i) in
        subst (λ r. NoneJumps code q (r + 1) n) (sym h.0)
        (subst (λ m. NoneJumps code q (d + 1) m) (ap (first_jump j) q_is ∙ h.1)
        (first_is code (d + 1) j q are)))
        (λ h. ⊎_elim (λ (here : p ≡ d). absurd (h.0 here))
        (λ (later : d + 1 ≤ p). are.quiet_next p n q k later h.1 at_p goes)
        (here_or_later d p from))
        (set_found j.nexts d p (first_jump j at) n there);
  }

  pub jumps_more : AreJumpsFrom code d (noted (landing_of i) d j)
  jumps_more = by_target (landing_of i) refl

-- a function more
pub all_more : (functions : List IrFunction) (js : List Jumps) (j : Jumps) (u : IrFunction)
    → slice_get functions (length js) ≡ Some u → AreJumps u.code j
    → AreAllJumps functions js → AreAllJumps functions (js ++ j ∷ [])
all_more functions js j u is new all f v k there at_f =
    ⊎_elim (λ (old : slice_get js f ≡ Some k). all f v k there old)
    (λ h. let here : slice_get functions (length js) ≡ Some v =
    subst (λ g. slice_get functions g ≡ Some v) h.0 there in
    let same : u ≡ v = cc in
    subst (λ x. AreJumps x.code k) same (subst (λ x. AreJumps u.code x) h.1 new))
    (last_or_before js j f k at_f)

-- one turn of the loop that goes through the code from its end
pub jumps_turn : (code : List Instruction) (index place : ℕ) (i : Instruction) (j new : Jumps)
    → index < length code → place ≡ length code - 1 - index → slice_get code place ≡ Some i
    → new ≡ noted (landing_of i) place j → AreJumpsFrom code (length code - index) j
    → AreJumpsFrom code (length code - (index + 1)) new
jumps_turn code index place i j new less place_is is new_is are =
    let here : place ≡ length code - (index + 1) = omega arith in
    let next : length code - index ≡ place + 1 = omega arith in
    subst (λ d. AreJumpsFrom code d new) here
    (subst (λ x. AreJumpsFrom code place x) (sym new_is)
    (jumps_more code place i j is (subst (λ d. AreJumpsFrom code d j) next are)))
