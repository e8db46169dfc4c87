-- The bound on steps fits in 128 bits.
use Rattle.std.proofs.Common.{ℕ, ◌*◌, ◌<◌, ◌≤◌, ◌^◌, arith}
use Rattle.std.proofs.Math.Nat.{mul-le-mul}

pub product_two : (a b : ℕ) → a ≤ 2 ^ 28 → b ≤ 2 ^ 71 → a * b < 2 ^ 128
product_two a b ha hb = let h : a * b ≤ 2 ^ 28 * 2 ^ 71 = mul-le-mul ha hb in omega arith

pub product_three : (a b c : ℕ) → a ≤ 2 ^ 28 → b ≤ 2 ^ 71 → c ≤ 2 ^ 19 → a * b * c < 2 ^ 128
product_three a b c ha hb hc =
    let h : a * b ≤ 2 ^ 28 * 2 ^ 71 = mul-le-mul ha hb in
    let k : a * b * c ≤ 2 ^ 28 * 2 ^ 71 * 2 ^ 19 = mul-le-mul h hc in
    omega arith

pub ruleset products = (product_two, product_three)
