-- Words of different slots: slot q of w words begins w (q - 1) words after slot 1.
use Rattle.std.proofs.Common.{◌≡◌, ⊎_elim, ℕ, zero, suc, ◌+◌, ◌-◌, ◌*◌, ◌<◌, ◌≤◌, arith, sym}
use Rattle.std.proofs.Math.Nat.{mul-le-mul_left, mul-add}
use Rattle.std.proofs.lemmas.Bool.{cases_lt}

-- the next slot begins w words later
pub slot_after : (w q : ℕ) → 1 ≤ q → w * (q - 1) + w ≡ w * q
slot_after w zero low = elim low [ ]
slot_after w (suc q) low =
    let a : suc q - 1 ≡ q = omega arith in
    let b : w * (q + 1) ≡ w * q + w * 1 = mul-add w q 1 in
    let c : q + 1 ≡ suc q = omega arith in rw a (rw (sym c) (omega arith))

-- a slot is before each later one
pub slots_follow : (w p q : ℕ) → 1 ≤ p → p < q → w * (p - 1) + w ≤ w * (q - 1)
slots_follow w p q low less =
    let a : w * (p - 1) + w ≡ w * p = slot_after w p low in
    let b : w * p ≤ w * (q - 1) = mul-le-mul_left w (omega arith) in omega arith

-- and within all n of them
pub slot_within : (w n q : ℕ) → 1 ≤ q → q ≤ n → w * (q - 1) + w ≤ w * n
slot_within w n q low high =
    let a : w * (q - 1) + w ≡ w * q = slot_after w q low in
    let b : w * q ≤ w * n = mul-le-mul_left w high in omega arith

-- words of slots that are one word are of one slot, and at one place in it
pub slots_apart : (w p q j k : ℕ) → 1 ≤ p → 1 ≤ q → j < w → k < w
    → w * (p - 1) + j ≡ w * (q - 1) + k → (p ≡ q) × (j ≡ k)
slots_apart w p q j k a b c d e = ⊎_elim (λ (less : p < q).
    let f : w * (p - 1) + w ≤ w * (q - 1) = slots_follow w p q a less in absurd (omega arith))
    (λ (more : q ≤ p). ⊎_elim (λ (less : q < p).
    let f : w * (q - 1) + w ≤ w * (p - 1) = slots_follow w q p b less in absurd (omega arith))
    (λ (same : p ≤ q). let h : p ≡ q = omega arith in (h, grind arith)) (cases_lt q p))
    (cases_lt p q)
