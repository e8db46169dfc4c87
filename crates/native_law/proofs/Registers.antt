-- Variables and registers: after both are written, and when a function begins.
use Rattle.std.proofs.Common.{◌≡◌, ◌≢◌, ℕ, zero, suc, ◌+◌, ◌-◌, ◌<◌, ◌≤◌, ℤ, pos, List, [], ◌∷◌}
use Rattle.std.proofs.Common.{◌++◌, length, replicate, map, refl, sym, ◌∙◌, ap, subst, arith, Bool}
use Rattle.std.proofs.Common.{true, false, Some, length-append, append_assoc}
use Rattle.std.specs.Prelude.{FitsSigned, slice_get, slice_set, slice_index_or, ◌==◌, nat_lt}
use Rattle.std.specs.Int.{w64}
use Rattle.std.specs.List.{AllByRecursion, list_all}
use Rattle.std.proofs.lemmas.Bool.{eqb-true, eq-eqb, false≢true, ltb-true}
use Rattle.std.proofs.lemmas.List.{get_or-set_same, get_or-set_other, length-set, set_at}
use Rattle.std.proofs.lemmas.List.{length-replicate, length-map, append-nil}
use Rattle.std.proofs.lemmas.Option.{slice_get-get_or}
use Rattle.nvm_base.specs.Operations.{unsigned}
use Rattle.pm_machine.specs.Machine.{registers_filled, registers_placed}
use Rattle.native_law.specs.inside.Standing.{HoldsBits}
use Rattle.native_law.proofs.Tests.{left_of, right_of}

pub got : (rs : List ℕ) (ms : List ℤ) (r : ℕ) → HoldsBits rs ms → r < length rs
    → slice_get rs r ≡ Some (unsigned (slice_index_or ms r (pos 0)))
got rs ms r holds inside = slice_get-get_or rs r 0 inside ∙ ap Some (holds.same r inside)

apart : (k r : ℕ) → (k == r) ≡ false → k ≢ r
apart k r unlike = λ e. false≢true (sym unlike ∙ eq-eqb k r e)

words_put : (ms : List ℤ) (r : ℕ) (v : ℤ) → r < length ms → FitsSigned w64 v
    → ((k : ℕ) → FitsSigned w64 (slice_index_or ms k (pos 0)))
    → (k : ℕ) → FitsSigned w64 (slice_index_or (slice_set ms r v) k (pos 0))
words_put ms r v inside f words k = by (k == r) refl
  where
    by : (t : Bool) → (k == r) ≡ t → FitsSigned w64 (slice_index_or (slice_set ms r v) k (pos 0))
    by true same = let e = eqb-true k r same in
        rw e (rw (get_or-set_same ms r v (pos 0) inside) f)
    by false unlike = rw (get_or-set_other ms r k v (pos 0) (apart k r unlike)) (words k)

put_both : (rs : List ℕ) (ms : List ℤ) (r : ℕ) (v : ℤ) → r < length rs → HoldsBits rs ms → (k : ℕ)
    → k < length (slice_set rs r (unsigned v)) → slice_index_or (slice_set rs r (unsigned v)) k 0
    ≡ unsigned (slice_index_or (slice_set ms r v) k (pos 0))
put_both rs ms r v inside holds k small = by (k == r) refl
  where
    by : (t : Bool) → (k == r) ≡ t → slice_index_or (slice_set rs r (unsigned v)) k 0
        ≡ unsigned (slice_index_or (slice_set ms r v) k (pos 0))
    by true same = let e = eqb-true k r same in
        let room = holds.room in
        rw e (get_or-set_same rs r (unsigned v) 0 inside
        ∙ ap unsigned (sym (get_or-set_same ms r v (pos 0) (omega arith))))
    by false unlike = get_or-set_other rs r k (unsigned v) 0 (apart k r unlike)
        ∙ holds.same k (subst (λ (m : ℕ). k < m) (length-set rs r (unsigned v)) small)
        ∙ ap unsigned (sym (get_or-set_other ms r k v (pos 0) (apart k r unlike)))

-- a register that is written
pub put_holds : (rs : List ℕ) (ms : List ℤ) (r : ℕ) (v : ℤ) → r < length rs → FitsSigned w64 v
    → HoldsBits rs ms → HoldsBits (slice_set rs r (unsigned v)) (slice_set ms r v)
put_holds rs ms r v inside f holds = let fits = holds.room in record {
  room = rw (length-set rs r (unsigned v), length-set ms r v) fits;
  same = put_both rs ms r v inside holds;
  words = words_put ms r v (omega arith) f holds.words;
}

blank_at : {X : Type 0} → (d : X) (n k : ℕ) → slice_index_or (replicate n d) k d ≡ d
blank_at d zero k = refl
blank_at d (suc n) zero = refl
blank_at d (suc n) (suc k) = blank_at d n k

begin_same : (vs : List ℤ) (a b r : ℕ) → slice_index_or (map unsigned vs ++ replicate a 0) r 0
    ≡ unsigned (slice_index_or (vs ++ replicate b (pos 0)) r (pos 0))
begin_same [] a b r = blank_at 0 a r ∙ ap unsigned (sym (blank_at (pos 0) b r))
begin_same (v ∷ vs) a b zero = refl
begin_same (v ∷ vs) a b (suc r) = begin_same vs a b r

begin_words : (vs : List ℤ) (b r : ℕ) → AllByRecursion (λ v. FitsSigned w64 v) vs
    → FitsSigned w64 (slice_index_or (vs ++ replicate b (pos 0)) r (pos 0))
begin_words [] b r f = rw (blank_at (pos 0) b r) (record { sfits = omega arith })
begin_words (v ∷ vs) b zero f = f.0
begin_words (v ∷ vs) b (suc r) f = begin_words vs b r f.1

-- words written into blank registers
filled_from : (ws vs : List ℤ) (m : ℕ) → length vs ≤ m
    → registers_filled (ws ++ replicate m (pos 0)) (length ws) vs
    ≡ (ws ++ vs) ++ replicate (m - length vs) (pos 0)
filled_from ws [] m low =
    let all : m ≡ m - 0 = omega arith in
    ap (λ (xs : List ℤ). xs ++ replicate m (pos 0)) (sym (append-nil ws))
    ∙ ap (λ (k : ℕ). (ws ++ []) ++ replicate k (pos 0)) all
filled_from ws (v ∷ vs) zero low = absurd (omega (arith, low))
filled_from ws (v ∷ vs) (suc m) low =
    let put = set_at ws (pos 0) (replicate m (pos 0)) v (length ws) refl in
    let onto : ws ++ v ∷ replicate m (pos 0) ≡ (ws ++ v ∷ []) ++ replicate m (pos 0) =
    sym (append_assoc ws (v ∷ []) (replicate m (pos 0))) in
    let long : length ws + 1 ≡ length (ws ++ v ∷ []) = sym (length-append ws (v ∷ [])) in
    let left : m - length vs ≡ suc m - suc (length vs) = omega arith in
    ap (λ (to : List ℤ). registers_filled to (length ws + 1) vs) (put ∙ onto)
    ∙ ap (λ (i : ℕ). registers_filled ((ws ++ v ∷ []) ++ replicate m (pos 0)) i vs) long
    ∙ filled_from (ws ++ v ∷ []) vs m (omega (arith, low))
    ∙ ap (λ (xs : List ℤ). xs ++ replicate (m - length vs) (pos 0))
    (append_assoc ws (v ∷ []) vs)
    ∙ ap (λ (k : ℕ). (ws ++ v ∷ vs) ++ replicate k (pos 0)) left

pub filled_is : (vs : List ℤ) (n : ℕ) → length vs ≤ n
    → registers_filled (replicate n (pos 0)) 0 vs ≡ vs ++ replicate (n - length vs) (pos 0)
filled_is vs n low = filled_from [] vs n low

pub placed_filled : (from to : List ℤ) (i : ℕ) (args : List ℕ) → registers_placed from to i args
    ≡ registers_filled to i (map (λ a. slice_index_or from a (pos 0)) args)
placed_filled from to i [] = refl
placed_filled from to i (a ∷ args) =
    placed_filled from (slice_set to i (slice_index_or from a (pos 0))) (i + 1) args

-- a function's variables and registers when it begins with these arguments: n registers in all, and
-- a variables that are 0
pub begin_holds : (vs : List ℤ) (a n : ℕ) → length vs + a ≤ n
    → AllByRecursion (λ v. FitsSigned w64 v) vs
    → HoldsBits (map unsigned vs ++ replicate a 0) (registers_filled (replicate n (pos 0)) 0 vs)
begin_holds vs a n low f =
    let left : ℕ = n - length vs in
    let none : List ℕ = replicate a 0 in
    let long : length (map unsigned vs ++ none) ≡ length vs + a =
    length-append (map unsigned vs) none
    ∙ ap (λ (k : ℕ). k + length none) (length-map vs unsigned)
    ∙ ap (λ (k : ℕ). length vs + k) (length-replicate a 0) in
    let all : length (vs ++ replicate left (pos 0)) ≡ length vs + left =
    length-append vs (replicate left (pos 0))
    ∙ ap (λ (k : ℕ). length vs + k) (length-replicate left (pos 0)) in
    let few : length vs ≤ n = omega (arith, low) in
    let room : length vs + a ≤ length vs + left = omega (arith, low) in
    subst (λ (ms : List ℤ). HoldsBits (map unsigned vs ++ none) ms) (sym (filled_is vs n few))
    (record {
      room = rw (long, all) room;
      same = λ r inside. begin_same vs a left r;
      words = λ r. begin_words vs left r f;
    })

-- the arguments of a call
pub values_same : (rs : List ℕ) (ms : List ℤ) (args : List ℕ) → HoldsBits rs ms
    → list_all (λ a. nat_lt a (length rs)) args ≡ true
    → map (λ a. slice_index_or rs a 0) args
    ≡ map unsigned (map (λ a. slice_index_or ms a (pos 0)) args)
values_same rs ms [] holds e = refl
values_same rs ms (a ∷ args) holds e =
    let low = ltb-true a (length rs) (left_of (nat_lt a (length rs))
    (list_all (λ b. nat_lt b (length rs)) args) e) in
    let rest = right_of (nat_lt a (length rs)) (list_all (λ b. nat_lt b (length rs)) args) e in
    ap (λ (v : ℕ). v ∷ map (λ b. slice_index_or rs b 0) args) (holds.same a low)
    ∙ ap (λ (vs : List ℕ). unsigned (slice_index_or ms a (pos 0)) ∷ vs)
    (values_same rs ms args holds rest)

pub values_fit : (ms : List ℤ) (args : List ℕ)
    → ((r : ℕ) → FitsSigned w64 (slice_index_or ms r (pos 0)))
    → AllByRecursion (λ v. FitsSigned w64 v) (map (λ a. slice_index_or ms a (pos 0)) args)
values_fit ms [] f = tt
values_fit ms (a ∷ args) f = (f a, values_fit ms args f)
