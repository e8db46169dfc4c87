-- A spot that is sought in its bucket alone is found where it is in the table.
use Rattle.std.proofs.Common.{◌≡◌, ◌+◌, ◌*◌, ◌%◌, ◌++◌, ◌-◌, ◌<◌, ◌≤◌, ◌⊎◌, ℕ, zero, suc}
use Rattle.std.proofs.Common.{true, false, List, [], ◌∷◌, Option, Some, None, length, refl, sym}
use Rattle.std.proofs.Common.{◌∙◌, ap, subst}
use Rattle.std.proofs.Common.{arith, inl, inr, ⊎_elim}
use Rattle.std.specs.Prelude.{slice_get, slice_set}
use Rattle.std.specs.List.{list_any}
use Rattle.std.proofs.lemmas.Bool.{and_parts, eqb-true, or_left, or_right}
use Rattle.std.proofs.lemmas.Bool.{false_from_ne_true, cases_lt}
use Rattle.std.proofs.lemmas.List.{length-append}
use Rattle.std.proofs.lemmas.Option.{slice_get_within}
use Rattle.walk_check.proofs.Tests.{same-true}
use Rattle.walk_maker.specs.declared.table.Entry.{Entry}
use Rattle.walk_maker.specs.inside.Table.{same_spot, has}
use Rattle.walk_maker.specs.inside.Buckets.{fact_register, bucket_of, IsAbove, IsAboveBefore}
use Rattle.walk_maker.specs.inside.Buckets.{IsChained, AreAbove, IsPast, IsNotedAt}
use Rattle.walk_maker.specs.inside.Buckets.{or_other, number_or_other}
use Rattle.walk_maker.proofs.Grown.{last_or_before}

pub bucket_is : (count : ℕ) (e : Entry)
    → (e.place + 61 * e.function + 1009 * fact_register e.fact) % (count - 1 + 1)
    ≡ bucket_of count e
unfolding bucket_of
bucket_is count e = refl

-- entries of the same spot have the same bucket
pub same_bucket : (count : ℕ) (x e : Entry) → same_spot x e ≡ true
    → bucket_of count x ≡ bucket_of count e
unfolding bucket_of
same_bucket count x e is =
    let parts = and_parts _ _ is in
    let rest = and_parts _ _ parts.1 in
    let last = and_parts _ _ rest.1 in
    let function : x.function ≡ e.function = eqb-true x.function e.function rest.0 in
    let place : x.place ≡ e.place = eqb-true x.place e.place last.0 in
    let fact : x.fact ≡ e.fact = same-true x.fact e.fact last.1 in
    rw (function, place, fact) refl

-- nothing is past the end
pub past_end : (t : List Entry) (e : Entry) → IsPast t e (length t)
past_end t e m x there past =
    let within : m < length t = slice_get_within t m x there in
    absurd (omega arith)

-- from a number above a bucket's entries on there is none of its spots
past_above : (t : List Entry) (count : ℕ) (e : Entry) (n : ℕ)
    → IsAbove t count (bucket_of count e) n → IsPast t e n
past_above t count e n above m x there past =
    false_from_ne_true (same_spot x e) (λ is.
    let less : m < n = above m x there (same_bucket count x e is) in absurd (omega arith))

pub past_last : (count : ℕ) (t : List Entry) (lasts befores : List ℕ) (e : Entry)
    → IsChained count t lasts befores
    → IsPast t e (number_or_other lasts (bucket_of count e) (length t))
past_last count t lasts befores e is = by_option (slice_get lasts (bucket_of count e)) refl
  where
    by_option : (o : Option ℕ) → slice_get lasts (bucket_of count e) ≡ o
        → IsPast t e (or_other o (length t))
    by_option None h = past_end t e
    by_option (Some n) h = past_above t count e n (is.above_all (bucket_of count e) n h)

here_or_past : (m at : ℕ) → at - 1 ≤ m → (m ≡ at - 1) ⊎ (at ≤ m)
here_or_past m at from =
    ⊎_elim (λ (low : m < at). inl (omega arith)) (λ (high : at ≤ m). inr high) (cases_lt m at)

-- the search goes on before an entry that isn't there, or is of another spot
pub past_none : (t : List Entry) (e : Entry) (at : ℕ) → slice_get t (at - 1) ≡ None
    → IsPast t e at → IsPast t e (at - 1)
past_none t e at is past m x there from =
    ⊎_elim (λ (same : m ≡ at - 1).
    let here : slice_get t (at - 1) ≡ Some x = subst (λ q. slice_get t q ≡ Some x) same there in
    absurd cc)
    (λ (more : at ≤ m). past m x there more) (here_or_past m at from)

pub past_one : (t : List Entry) (e y : Entry) (at : ℕ) → slice_get t (at - 1) ≡ Some y
    → same_spot y e ≡ false → IsPast t e at → IsPast t e (at - 1)
past_one t e y at is other past m x there from =
    ⊎_elim (λ (same : m ≡ at - 1).
    let here : slice_get t (at - 1) ≡ Some x = subst (λ q. slice_get t q ≡ Some x) same there in
    let one : y ≡ x = cc in subst (λ z. same_spot z e ≡ false) one other)
    (λ (more : at ≤ m). past m x there more) (here_or_past m at from)

-- .. and it goes on before the entries of its bucket
past_before : (t : List Entry) (count : ℕ) (e y : Entry) (at n : ℕ) → slice_get t (at - 1) ≡ Some y
    → same_spot y e ≡ false → bucket_of count y ≡ bucket_of count e
    → IsAboveBefore t count (at - 1) n
    → IsPast t e at → IsPast t e n
past_before t count e y at n is other bucket above past m x there from =
    ⊎_elim (λ (low : m < at - 1). false_from_ne_true (same_spot x e) (λ h.
    let one : bucket_of count x ≡ bucket_of count y = same_bucket count x e h ∙ sym bucket in
    let less : m < n = above m x y is there low one in absurd (omega arith)))
    (λ (high : at - 1 ≤ m). past_one t e y at is other past m x there high) (cases_lt m (at - 1))

pub past_bucket : (t : List Entry) (count : ℕ) (befores : List ℕ) (e y : Entry) (at : ℕ)
    → AreAbove t count befores → slice_get t (at - 1) ≡ Some y → same_spot y e ≡ false
    → bucket_of count y ≡ bucket_of count e → IsPast t e at
    → IsPast t e (number_or_other befores (at - 1) (at - 1))
past_bucket t count befores e y at all is other bucket past =
    by_option (slice_get befores (at - 1)) refl
  where
    by_option : (o : Option ℕ) → slice_get befores (at - 1) ≡ o
        → IsPast t e (or_other o (at - 1))
    by_option None h = past_one t e y at is other past
    by_option (Some n) h = past_before t count e y at n is other bucket (all (at - 1) n h) past

-- no entry at all is of the spot
pub none_left : (t : List Entry) (e : Entry) → IsPast t e 0 → has t e ≡ false
none_left [] e past = refl
none_left (y ∷ t) e past =
    let first : same_spot y e ≡ false = past 0 y refl (omega arith) in
    let rest : list_any (λ (x : Entry). same_spot x e) t ≡ false =
    none_left t e (λ m x there from. past (suc m) x there (omega arith)) in
    rw (first, rest) refl

pub one_there : (t : List Entry) (e y : Entry) (k : ℕ) → slice_get t k ≡ Some y
    → same_spot y e ≡ true → has t e ≡ true
one_there [] e y k is same = absurd cc
one_there (z ∷ t) e y zero is same =
    let one : y ≡ z = cc in
    or_left (same_spot z e) (list_any (λ (x : Entry). same_spot x e) t)
    (subst (λ w. same_spot w e ≡ true) one same)
one_there (z ∷ t) e y (suc k) is same =
    or_right (same_spot z e) (list_any (λ (x : Entry). same_spot x e) t) (one_there t e y k is same)

-- what stands in a list with one item changed
pub set_found : {X : Type 0} (xs : List X) (i j : ℕ) (v x : X)
    → slice_get (slice_set xs i v) j ≡ Some x
    → ((j ≡ i) × (v ≡ x)) ⊎ ((j ≡ i → ⊥) × (slice_get xs j ≡ Some x))
set_found [] zero j v x is = absurd cc
set_found [] (suc i) j v x is = absurd cc
set_found (y ∷ xs) zero zero v x is = let e : v ≡ x = cc in inl (refl, e)
set_found (y ∷ xs) zero (suc j) v x is = inr ((λ e. absurd cc), is)
set_found (y ∷ xs) (suc i) zero v x is = inr ((λ e. absurd cc), is)
set_found (y ∷ xs) (suc i) (suc j) v x is =
    ⊎_elim (λ p. let same : j ≡ i = p.0 in inl (ap suc same, p.1))
    (λ p. inr ((λ (e : suc j ≡ suc i). p.0 cc), p.1)) (set_found xs i j v x is)

module _ (t : List Entry) (count : ℕ) (e : Entry) (h : ℕ)
    (above : IsAbove t count (bucket_of count e) h) where
  above_end : (lasts : List ℕ) (b n : ℕ) → ((c k : ℕ) → slice_get lasts c ≡ Some k
      → IsAbove t count c k)
      → slice_get (slice_set lasts (bucket_of count e) (length t + 1)) b ≡ Some n
      → IsAbove (t ++ e ∷ []) count b n
  above_end lasts b n all is m x there bucket =
      ⊎_elim (λ p. let n_is : length t + 1 ≡ n = p.1 in
      ⊎_elim (λ (old : slice_get t m ≡ Some x).
      let within : m < length t = slice_get_within t m x old in omega arith)
      (λ q. let m_is : m ≡ length t = q.0 in omega arith) (last_or_before t e m x there))
      (λ p. ⊎_elim (λ (old : slice_get t m ≡ Some x). all b n p.1 m x old bucket)
      (λ q. let same : b ≡ bucket_of count e = sym bucket ∙ ap (bucket_of count) (sym q.1) in
      absurd (p.0 same)) (last_or_before t e m x there))
      (set_found lasts (bucket_of count e) b (length t + 1) n is)

  -- of the entries before one of the old ones nothing changes
  before_old : (k n : ℕ) → k < length t → IsAboveBefore t count k n
      → IsAboveBefore (t ++ e ∷ []) count k n
  before_old k n less all m x y is there low bucket =
      let y_old : slice_get t k ≡ Some y = old k y less is in
      let m_less : m < length t = omega arith in
      all m x y y_old (old m x m_less there) low bucket
    where
      old : (j : ℕ) (z : Entry) → j < length t → slice_get (t ++ e ∷ []) j ≡ Some z
          → slice_get t j ≡ Some z
      old j z less is = ⊎_elim (λ (h : slice_get t j ≡ Some z). h)
          (λ q. let j_is : j ≡ length t = q.0 in absurd (omega arith)) (last_or_before t e j z is)

  before_new : (k : ℕ) → k ≡ length t → IsAboveBefore (t ++ e ∷ []) count k h
  before_new k k_is m x y is there low bucket =
      ⊎_elim (λ (h : slice_get t k ≡ Some y).
      let within : k < length t = slice_get_within t k y h in absurd (omega arith))
      (λ q. ⊎_elim (λ (old : slice_get t m ≡ Some x).
      above m x old (bucket ∙ ap (bucket_of count) (sym q.1)))
      (λ r. let m_is : m ≡ length t = r.0 in absurd (omega arith)) (last_or_before t e m x there))
      (last_or_before t e k y is)

  kept_same : (lasts befores : List ℕ) → IsChained count t lasts befores
      → IsChained count (t ++ e ∷ []) (slice_set lasts (bucket_of count e) (length t + 1)) befores
  kept_same lasts befores is = record {
    above_all = λ b n. above_end lasts b n is.above_all;
    not_longer =
        let few : length befores ≤ length t = is.not_longer in
        let more : length (t ++ e ∷ []) ≡ length t + 1 = length-append t (e ∷ []) in omega arith;
    above_before = λ k n there.
        let within : k < length befores = slice_get_within befores k n there in
        let few : length befores ≤ length t = is.not_longer in
        before_old k n (omega arith) (is.above_before k n there);
  }

  kept_more : (lasts befores : List ℕ) → IsChained count t lasts befores → length befores ≡ length t
      → IsChained count (t ++ e ∷ []) (slice_set lasts (bucket_of count e) (length t + 1))
      (befores ++ h ∷ [])
  kept_more lasts befores is whole = record {
    above_all = λ b n. above_end lasts b n is.above_all;
    not_longer =
        let one : length (befores ++ h ∷ []) ≡ length befores + 1 =
        length-append befores (h ∷ []) in
        let more : length (t ++ e ∷ []) ≡ length t + 1 = length-append t (e ∷ []) in omega arith;
    above_before = λ k n there.
        ⊎_elim (λ (old : slice_get befores k ≡ Some n).
        let within : k < length befores = slice_get_within befores k n old in
        before_old k n (omega arith) (is.above_before k n old))
        (λ q. let k_is : k ≡ length t = q.0 ∙ whole in
        subst (λ v. IsAboveBefore (t ++ e ∷ []) count k v) q.1 (before_new k k_is))
        (last_or_before befores h k n there);
  }

  kept_either : (lasts befores new : List ℕ) → IsChained count t lasts befores
      → IsNotedAt befores (length t) h new
      → IsChained count (t ++ e ∷ []) (slice_set lasts (bucket_of count e) (length t + 1)) new
  kept_either lasts befores new is kept =
      ⊎_elim (λ (same : new ≡ befores).
      subst (λ bs. IsChained count (t ++ e ∷ [])
      (slice_set lasts (bucket_of count e) (length t + 1)) bs)
      (sym same) (kept_same lasts befores is))
      (λ p. subst (λ bs. IsChained count (t ++ e ∷ [])
      (slice_set lasts (bucket_of count e) (length t + 1)) bs) (sym p.1)
      (kept_more lasts befores is p.0)) kept

above_last : (count : ℕ) (t : List Entry) (lasts befores : List ℕ) (e : Entry)
    → IsChained count t lasts befores
    → IsAbove t count (bucket_of count e) (number_or_other lasts (bucket_of count e) (length t))
above_last count t lasts befores e is = by_option (slice_get lasts (bucket_of count e)) refl
  where
    by_option : (o : Option ℕ) → slice_get lasts (bucket_of count e) ≡ o
        → IsAbove t count (bucket_of count e) (or_other o (length t))
    by_option None h = λ m x there bucket. slice_get_within t m x there
    by_option (Some n) h = is.above_all (bucket_of count e) n h

-- with an entry at the end
pub pushed : (count : ℕ) (t all : List Entry) (lasts ends befores new : List ℕ) (e : Entry) (h : ℕ)
    → IsChained count t lasts befores → all ≡ t ++ e ∷ []
    → h ≡ number_or_other lasts (bucket_of count e) (length t) → IsNotedAt befores (length t) h new
    → ends ≡ slice_set lasts (bucket_of count e) (length t + 1) → IsChained count all ends new
pushed count t all lasts ends befores new e h is all_is h_is kept ends_is =
    let above : IsAbove t count (bucket_of count e) h =
    subst (λ n. IsAbove t count (bucket_of count e) n) (sym h_is)
    (above_last count t lasts befores e is) in
    subst (λ xs. IsChained count xs ends new) (sym all_is)
    (subst (λ ls. IsChained count (t ++ e ∷ []) ls new) (sym ends_is)
    (kept_either t count e h above lasts befores new is kept))

-- a table without entries
pub nothing_there : (count : ℕ) (lasts : List ℕ) → IsChained count [] lasts []
nothing_there count lasts = record {
  above_all = λ b n is m x there. absurd cc;
  not_longer = omega arith;
  above_before = λ k n there. absurd cc;
}

pub length_set : {X : Type 0} (xs : List X) (i : ℕ) (x : X)
    → length (slice_set xs i x) ≡ length xs
length_set [] zero x = refl
length_set [] (suc i) x = refl
length_set (y ∷ xs) zero x = refl
length_set (y ∷ xs) (suc i) x = ap suc (length_set xs i x)
