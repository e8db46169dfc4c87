-- A word is a whole number from -2^63 to 2^63 - 1. `wrap x` is the one word that differs from x by
-- a multiple of 2^64; every other fact about `wrap` follows from this law.
use Rattle.std.specs.Prelude.{◌≡◌, ◌+ℤ◌, ◌*ℤ◌, ◌≤ℤ◌, ◌^◌, ◌-◌, ℕ, ℤ, pos, negsuc}
use Rattle.std.specs.Int.{w64, int_wrap}

abbrev pub wrap : ℤ → ℤ
wrap x = int_wrap w64 x

-- from -2^63 to 2^63 - 1; `negsuc n` is -(n + 1)
abbrev pub IsWord : ℤ → Type 0
IsWord x = (negsuc (2 ^ 63 - 1) ≤ℤ x) × (x ≤ℤ pos (2 ^ 63 - 1))

-- x and y differ by a multiple of m
abbrev pub IsCongruent : (m : ℕ) → ℤ → ℤ → Type 0
IsCongruent m x y = (k : ℤ) × (x ≡ y +ℤ k *ℤ pos m)

-- the law: `wrap x` is the one word that differs from x by a multiple of 2^64
pub record Wraps (x : ℤ) : Type 0 where
  pub in_range : IsWord (wrap x)
  pub congruent : IsCongruent (2 ^ 64) x (wrap x)
  pub only : (y : ℤ) → IsWord y → IsCongruent (2 ^ 64) x y → y ≡ wrap x
