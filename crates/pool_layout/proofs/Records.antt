-- The count of a log, and a well made log by its count.
use Rattle.std.proofs.Common.{◌≡◌, ◌≢◌, ◌⊎◌, inl, inr, ⊎_elim, ℕ, zero, suc, ◌<◌, ◌≤◌, min}
use Rattle.std.proofs.Common.{Bool, true, false, ℤ, pos, refl, sym, ap, ◌∙◌, subst, arith}
use Rattle.std.proofs.Common.{int_eq, ◌==◌, ◌&&◌, if◌then◌else◌}
use Rattle.std.proofs.lemmas.Bool.{cases_eq, cases_lt, and_from, and_parts}
use Rattle.std.proofs.lemmas.Bool.Decides.{Decides-int_eq, Decides-eqb}
use Rattle.cache_model.specs.Cache.{Words}
use Rattle.pool_layout.specs.declared.places.Layout.{Layout}
use Rattle.pool_layout.specs.declared.places.Place.TheVariants.{RecordStamp}
use Rattle.pool_layout.specs.Places.{at}
use Rattle.pool_layout.specs.Image.{IsUpTo}
use Rattle.pool_layout.specs.Log.{WellMade, leading, count}

pub pos_inj : (m n : ℕ) → pos m ≡ pos n → m ≡ n
pos_inj m n e = cc

-- whether the count goes on past stamp n, where it is m up to there
module _ (stamps : ℕ → ℤ) (a n m : ℕ) where
  abbrev goes_on : Bool
  goes_on = (m == n) && int_eq (stamps n) (pos (suc a))

  count_at : goes_on ≡ true → m ≡ n
  count_at on = (Decides-eqb m n).0
      (and_parts ((m == n)) (int_eq (stamps n) (pos (suc a))) on).0

  stamp_at : goes_on ≡ true → stamps n ≡ pos (suc a)
  stamp_at on = (Decides-int_eq (stamps n) (pos (suc a))).0
      (and_parts ((m == n)) (int_eq (stamps n) (pos (suc a))) on).1

  on_past : m ≡ n → stamps n ≡ pos (suc a) → goes_on ≡ true
  on_past same here = and_from ((m == n)) (int_eq (stamps n) (pos (suc a)))
      ((Decides-eqb m n).1 same) ((Decides-int_eq (stamps n) (pos (suc a))).1 here)

leading_step : (b : Bool) (n m k : ℕ) → (b ≡ true → n < k) → (n < k → b ≡ true) → m ≡ min n k
    → (if b then suc n else m) ≡ min (suc n) k
leading_step true n m k hi lo e = let lt : n < k = hi refl in omega arith
leading_step false n m k hi lo e =
    ⊎_elim (λ (lt : n < k). absurd (cc (lo lt))) (λ (le : k ≤ n). omega arith) (cases_lt n k)

-- the stamps below m are valid, and the others aren't
pub leading_is : (stamps : ℕ → ℤ) (a m top : ℕ) → ((j : ℕ) → j < m → stamps j ≡ pos (suc a))
    → ((j : ℕ) → m ≤ j → j < top → stamps j ≡ pos (suc a) → ⊥) → (n : ℕ) → n ≤ top
    → leading stamps a n ≡ min n m
leading_is stamps a m top good bad zero le = omega arith
leading_is stamps a m top good bad (suc n) le =
    let so_far = leading stamps a n in
    let before = leading_is stamps a m top good bad n (omega arith) in
    leading_step (goes_on stamps a n so_far) n so_far m
    (λ on. ⊎_elim (λ (lt : n < m). lt)
    (λ (ge : m ≤ n). absurd (bad n ge (omega arith) (stamp_at stamps a n so_far on)))
    (cases_lt n m))
    (λ lt. on_past stamps a n so_far (omega arith) (good n lt))
    before

-- if the first n records are valid and the others aren't, the count is n
pub count_is : (l : Layout) (a n : ℕ) (image : Words) → n ≤ l.sizes.records
    → ((j : ℕ) → j < n → image (at l (RecordStamp j)) ≡ pos (suc a))
    → ((j : ℕ) → n ≤ j → j < l.sizes.records → image (at l (RecordStamp j)) ≡ pos (suc a) → ⊥)
    → count l a image ≡ n
unfolding count
count_is l a n image le good bad =
    let e : leading (λ j. image (at l (RecordStamp j))) a l.sizes.records ≡ min l.sizes.records n =
    leading_is (λ j. image (at l (RecordStamp j))) a n l.sizes.records good bad l.sizes.records
    (omega arith) in
    omega arith

pub leading_le : (stamps : ℕ → ℤ) (a n : ℕ) → leading stamps a n ≤ n
leading_le stamps a zero = omega arith
leading_le stamps a (suc n) =
    one (goes_on stamps a n (leading stamps a n)) (leading stamps a n) (leading_le stamps a n)
  where
    one : (b : Bool) (m : ℕ) → m ≤ n → (if b then suc n else m) ≤ suc n
    one true m le = omega arith
    one false m le = omega arith

-- the count doesn't go past a stamp that isn't valid
leading_stop : (stamps : ℕ → ℤ) (a j n : ℕ) → (stamps j ≡ pos (suc a) → ⊥) → leading stamps a n ≤ j
leading_stop stamps a j zero bad = omega arith
leading_stop stamps a j (suc n) bad =
    let m = leading stamps a n in
    one (goes_on stamps a n m) m
    (λ on. ⊎_elim
    (λ (same : n ≡ j). absurd (bad (subst (λ (i : ℕ). stamps i ≡ pos (suc a)) same
    (stamp_at stamps a n m on))))
    (λ (ne : n ≢ j). let e = count_at stamps a n m on in
    let le = leading_stop stamps a j n bad in omega arith)
    (cases_eq n j))
    (leading_stop stamps a j n bad)
  where
    one : (b : Bool) (m : ℕ) → (b ≡ true → suc n ≤ j) → m ≤ j → (if b then suc n else m) ≤ j
    one true m on le = on refl
    one false m on le = le

leading_all : (stamps : ℕ → ℤ) (a n : ℕ) → ((j : ℕ) → j < n → stamps j ≡ pos (suc a))
    → leading stamps a n ≡ n
leading_all stamps a n all = let e : leading stamps a n ≡ min n n =
    leading_is stamps a n n all (λ j ge lt e'. absurd (omega arith)) n (omega arith) in omega arith

leading_more : (stamps : ℕ → ℤ) (a n : ℕ) → leading stamps a n ≤ leading stamps a (suc n)
leading_more stamps a n = one (goes_on stamps a n (leading stamps a n)) (leading_le stamps a n)
  where
    one : (b : Bool) → leading stamps a n ≤ n
        → leading stamps a n ≤ (if b then suc n else leading stamps a n)
    one true le = omega arith
    one false le = omega arith

leading_mono : (stamps : ℕ → ℤ) (a m n : ℕ) → m ≤ n → leading stamps a m ≤ leading stamps a n
leading_mono stamps a m zero le = let e : m ≡ 0 = omega arith in
    subst (λ (k : ℕ). leading stamps a k ≤ 0) (sym e) (omega arith)
leading_mono stamps a m (suc n) le = ⊎_elim
    (λ (e : m ≡ suc n). subst (λ (k : ℕ). leading stamps a k ≤ leading stamps a (suc n)) (sym e)
    (omega arith))
    (λ (ne : m ≢ suc n). let before = leading_mono stamps a m n (omega arith) in
    let more = leading_more stamps a n in omega arith)
    (cases_eq m (suc n))

-- the first j stamps are valid and stamp j isn't, so the count is j
pub leading_stays : (stamps : ℕ → ℤ) (a j n : ℕ) → leading stamps a j ≡ j
    → (stamps j ≡ pos (suc a) → ⊥) → j ≤ n → leading stamps a n ≡ j
leading_stays stamps a j n all bad le =
    let up = leading_mono stamps a j n le in
    let stop = leading_stop stamps a j n bad in
    omega arith

-- if stamp j is valid, so are those before it, and the count is above j
above : (l : Layout) (a : ℕ) (image : Words) → WellMade l a image → (j : ℕ) → j < l.sizes.records
    → image (at l (RecordStamp j)) ≡ pos (suc a)
    → j < leading (λ k. image (at l (RecordStamp k))) a l.sizes.records
above l a image made j inside here =
    let stamps = λ (k : ℕ). image (at l (RecordStamp k)) in
    let all : (k : ℕ) → k < suc j → image (at l (RecordStamp k)) ≡ pos (suc a) = λ k lt. ⊎_elim
    (λ (e : k ≡ j). subst (λ (i : ℕ). image (at l (RecordStamp i)) ≡ pos (suc a)) (sym e) here)
    (λ (ne : k ≢ j). made.first k j (omega arith) inside here)
    (cases_eq k j) in
    let full : leading stamps a (suc j) ≡ suc j = leading_all stamps a (suc j) all in
    let grows : leading stamps a (suc j) ≤ leading stamps a l.sizes.records =
    leading_mono stamps a (suc j) l.sizes.records (omega arith) in
    omega arith

-- if stamp j isn't valid, the count is at most j
below : (l : Layout) (a : ℕ) (image : Words) (j : ℕ)
    → (image (at l (RecordStamp j)) ≡ pos (suc a) → ⊥)
    → leading (λ k. image (at l (RecordStamp k))) a l.sizes.records ≤ j
below l a image j absent =
    leading_stop (λ k. image (at l (RecordStamp k))) a j l.sizes.records absent

pub decided : {P : Type 0} (b : Bool) → (b ≡ true → P) → (P → b ≡ true) → P ⊎ (P → ⊥)
decided true is back = inl (is refl)
decided false is back = inr (λ p. absurd (cc (back p)))

-- a well made log, by its count
pub record LogIs (l : Layout) (a n : ℕ) (image : Words) : Type 0 where
  pub room : n ≤ l.sizes.records
  pub valid_stamp : (j : ℕ) → j < n → image (at l (RecordStamp j)) ≡ pos (suc a)
  pub other_stamp : (j : ℕ) → j < l.sizes.records → n ≤ j → IsUpTo a (image (at l (RecordStamp j)))

pub log_is : (l : Layout) (a n : ℕ) (image : Words) → WellMade l a image → count l a image ≡ n
    → LogIs l a n image
unfolding count
log_is l a n image made counted =
    let le : leading (λ k. image (at l (RecordStamp k))) a l.sizes.records ≤ l.sizes.records =
    leading_le (λ k. image (at l (RecordStamp k))) a l.sizes.records in
    record {
      room = omega arith;
      valid_stamp = λ j lt. ⊎_elim
          (λ here. here)
          (λ absent. let bound = below l a image j absent in
          absurd (omega arith))
          (decided (int_eq (image (at l (RecordStamp j))) (pos (suc a)))
          ((Decides-int_eq (image (at l (RecordStamp j))) (pos (suc a))).0)
          ((Decides-int_eq (image (at l (RecordStamp j))) (pos (suc a))).1));
      other_stamp = λ j inside ge. let u = made.stamps j inside in ⊎_elim
          (λ (top : u.0 ≡ suc a). let bound = above l a image made j inside (u.2 ∙ ap pos top) in
          absurd (omega arith))
          (λ (ne : u.0 ≢ suc a). (u.0, omega (arith, u.1), u.2))
          (cases_eq u.0 (suc a));
    }
