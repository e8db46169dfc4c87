-- Two words that have a field's bit in common.
use Rattle.std.proofs.Common.{◌≡◌, ◌<◌, ◌≤◌, ◌+◌, ◌-◌, ◌*◌, ◌^◌, ℕ, zero, suc, Bool, true, false}
use Rattle.std.proofs.Common.{refl, sym, ◌∙◌, ap, arith, inl, inr, ⊎_elim}
use Rattle.std.specs.Prelude.{◌==◌, not, bit_and}
use Rattle.std.specs.Int.{bit_at}
use Rattle.std.proofs.lemmas.Nat.Bits.{and_pow, bit_at-zero, same_from_bits_below}
use Rattle.std.proofs.lemmas.Nat.{pow_pos, and_le_r}
use Rattle.std.specs.Int.Bits.{and_zero_r}
use Rattle.std.proofs.lemmas.Bool.{false≢true, and_parts, and_from, cases_lt, eqb-true, lt-ltb}
use Rattle.std.proofs.lemmas.Bool.{le-ltb}
use mathlib.Core.Logic.{◌⊎◌}
use Rattle.clobber_pass.specs.Row.{has_bit}
use Rattle.clobber_pass.specs.inside.Row.{mask}
use Rattle.clobber_pass.specs.inside.Marking.{meets}
use Rattle.clobber_pass.proofs.bits.Bits.{bit_cases, has_bit_zero, has_bit_and}

-- a word that meets a power of 2 has its bit
power_out : (w k : ℕ) → not (bit_and w (2 ^ k) == 0) ≡ true → has_bit k w ≡ true
unfolding has_bit
power_out w k h = ⊎_elim (λ (is : bit_at w k ≡ 0). absurd (false≢true (sym (nothing is) ∙ h)))
    (λ (is : bit_at w k ≡ 1). rw is refl) (bit_cases w k)
  where
    nothing : bit_at w k ≡ 0 → not (bit_and w (2 ^ k) == 0) ≡ false
    nothing is =
        let zero_word : bit_and w (2 ^ k) ≡ 0 = and_pow w k ∙ ap (λ b. b * 2 ^ k) is
        ∙ omega arith in
        rw zero_word refl

power_in : (w k : ℕ) → has_bit k w ≡ true → not (bit_and w (2 ^ k) == 0) ≡ true
unfolding has_bit
power_in w k h = by_cases (bit_and w (2 ^ k) == 0) refl
  where
    one : bit_at w k ≡ 1
    one = eqb-true (bit_at w k) 1 h

    by_cases : (b : Bool) → (bit_and w (2 ^ k) == 0) ≡ b → not (bit_and w (2 ^ k) == 0) ≡ true
    by_cases false is = rw is refl
    by_cases true is =
        let none : bit_and w (2 ^ k) ≡ 0 = eqb-true (bit_and w (2 ^ k)) 0 is in
        let full : bit_and w (2 ^ k) ≡ 1 * 2 ^ k = and_pow w k ∙ ap (λ b. b * 2 ^ k) one in
        let some : 0 < 2 ^ k = pow_pos k in
        absurd (omega arith)

zero_out : (w : ℕ) → not (bit_and w 0 == 0) ≡ false
zero_out w = rw (and_zero_r w) refl

mask_is : (f x y : ℕ) → x < 16 → f + x ≡ y → mask f y ≡ 2 ^ x
unfolding mask
mask_is f x y few is =
    let from : f ≤ y = omega arith in
    let at : y - f ≡ x = omega arith in
    rw (le-ltb y f from, at, lt-ltb x 16 few) refl

pub meets_in : (a b f x y : ℕ) → x < 16 → f + x ≡ y → has_bit x a ≡ true → has_bit x b ≡ true
    → meets a b (mask f y) ≡ true
unfolding meets
meets_in a b f x y few is h j =
    ap (λ m. not (bit_and (bit_and a b) m == 0)) (mask_is f x y few is)
    ∙ power_in (bit_and a b) x (has_bit_and x a b ∙ and_from (has_bit x a) (has_bit x b) h j)

-- one bit of a mask
pub record Met (a b f y : ℕ) : Type 0 where
  pub x : ℕ
  pub few : x < 16
  pub is : f + x ≡ y
  pub one : has_bit x a ≡ true
  pub other : has_bit x b ≡ true

outside_below : (f y : ℕ) → y < f → mask f y ≡ 0
unfolding mask
outside_below f y less = rw (lt-ltb y f less) refl

outside_above : (f y : ℕ) → f ≤ y → 16 ≤ y - f → mask f y ≡ 0
unfolding mask
outside_above f y from past = rw (le-ltb y f from, le-ltb (y - f) 16 past) refl

pub meets_out : (a b f y : ℕ) → meets a b (mask f y) ≡ true → Met a b f y
unfolding meets
meets_out a b f y h = ⊎_elim below above (cases_lt y f)
  where
    none : mask f y ≡ 0 → Met a b f y
    none is = absurd (false≢true (sym (ap (λ m. not (bit_and (bit_and a b) m == 0)) is
        ∙ zero_out (bit_and a b)) ∙ h))

    below : y < f → Met a b f y
    below less = none (outside_below f y less)

    above : f ≤ y → Met a b f y
    above from = ⊎_elim near (λ (past : 16 ≤ y - f). none (outside_above f y from past))
        (cases_lt (y - f) 16)
      where
        near : y - f < 16 → Met a b f y
        near few =
            let sum : f + (y - f) ≡ y = omega arith in
            let both : has_bit (y - f) (bit_and a b) ≡ true =
            power_out (bit_and a b) (y - f)
            (ap (λ m. not (bit_and (bit_and a b) m == 0)) (sym (mask_is f (y - f) y few sum))
            ∙ h) in
            let parts = and_parts (has_bit (y - f) a) (has_bit (y - f) b)
            (sym (has_bit_and (y - f) a b) ∙ both) in
            record { x = y - f; few = few; is = sum; one = parts.0; other = parts.1 }

-- bit 0 alone
pub first_out : (a : ℕ) → meets a a 1 ≡ true → has_bit 0 a ≡ true
unfolding meets
first_out a h = (and_parts (has_bit 0 a) (has_bit 0 a)
    (sym (has_bit_and 0 a a) ∙ power_out (bit_and a a) 0 h)).0

pub first_in : (a : ℕ) → has_bit 0 a ≡ true → meets a a 1 ≡ true
unfolding meets
first_in a h = power_in (bit_and a a) 0
    (has_bit_and 0 a a ∙ and_from (has_bit 0 a) (has_bit 0 a) h h)

-- a bit that is in all three
pub meets_bit : (a b m x : ℕ) → has_bit x a ≡ true → has_bit x b ≡ true → has_bit x m ≡ true
    → meets a b m ≡ true
unfolding meets
meets_bit a b m x one other third = by_cases (bit_and (bit_and a b) m == 0) refl
  where
    all : has_bit x (bit_and (bit_and a b) m) ≡ true
    all = has_bit_and x (bit_and a b) m
        ∙ and_from (has_bit x (bit_and a b)) (has_bit x m)
        (has_bit_and x a b ∙ and_from (has_bit x a) (has_bit x b) one other) third

    by_cases : (c : Bool) → (bit_and (bit_and a b) m == 0) ≡ c
        → not (bit_and (bit_and a b) m == 0) ≡ true
    by_cases false is = rw is refl
    by_cases true is =
        let none : bit_and (bit_and a b) m ≡ 0 = eqb-true (bit_and (bit_and a b) m) 0 is in
        absurd (false≢true (sym (ap (has_bit x) none ∙ has_bit_zero x) ∙ all))

-- a number has a bit below k, or none
some_bit : (w k : ℕ) → ((x : ℕ) × (x < k) × (bit_at w x ≡ 1))
    ⊎ ((x : ℕ) → x < k → bit_at w x ≡ 0)
some_bit w zero = inr (λ x less. absurd (omega (arith, less)))
some_bit w (suc k) = next (some_bit w k) (bit_cases w k)
  where
    next : (((x : ℕ) × (x < k) × (bit_at w x ≡ 1)) ⊎ ((x : ℕ) → x < k → bit_at w x ≡ 0))
        → ((bit_at w k ≡ 0) ⊎ (bit_at w k ≡ 1))
        → ((x : ℕ) × (x < suc k) × (bit_at w x ≡ 1)) ⊎ ((x : ℕ) → x < suc k → bit_at w x ≡ 0)
    next (inl (x, less, is)) this = inl (x, omega (arith, less), is)
    next (inr none) (inr is) = inl (k, omega arith, is)
    next (inr none) (inl is) = inr (λ x less. ⊎_elim (none x)
        (λ (past : k ≤ x). let same : k ≡ x = omega (arith, less, past) in
        ap (bit_at w) (sym same) ∙ is) (cases_lt x k))

-- a bit that two words and a mask have in common
pub record Common (a b m : ℕ) : Type 0 where
  pub x : ℕ
  pub few : x < 16
  pub one : has_bit x a ≡ true
  pub other : has_bit x b ≡ true
  pub third : has_bit x m ≡ true

pub meets_some : (a b m : ℕ) → m < 2 ^ 16 → meets a b m ≡ true → Common a b m
unfolding meets has_bit
meets_some a b m few h = ⊎_elim found nothing (some_bit (bit_and (bit_and a b) m) 16)
  where
    found : ((x : ℕ) × (x < 16) × (bit_at (bit_and (bit_and a b) m) x ≡ 1)) → Common a b m
    found (x, less, is) =
        let set : has_bit x (bit_and (bit_and a b) m) ≡ true = rw is refl in
        let outer = and_parts (has_bit x (bit_and a b)) (has_bit x m)
        (sym (has_bit_and x (bit_and a b) m) ∙ set) in
        let inner = and_parts (has_bit x a) (has_bit x b) (sym (has_bit_and x a b) ∙ outer.0) in
        record { x = x; few = less; one = inner.0; other = inner.1; third = outer.1 }

    nothing : ((x : ℕ) → x < 16 → bit_at (bit_and (bit_and a b) m) x ≡ 0) → Common a b m
    nothing none =
        let below : bit_and (bit_and a b) m < 2 ^ 16 =
        omega (arith, and_le_r (bit_and a b) m, few) in
        let some : 0 < 2 ^ 16 = omega arith in
        let zero_word : bit_and (bit_and a b) m ≡ 0 =
        same_from_bits_below 16 (bit_and (bit_and a b) m) 0 below some
        (λ x less. none x less ∙ sym (bit_at-zero x)) in
        let no : not (bit_and (bit_and a b) m == 0) ≡ false = rw zero_word refl in
        absurd (false≢true (sym no ∙ h))
