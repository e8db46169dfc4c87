-- Lemmas on words: each machine operation gives its formula, wrapped.
use Rattle.std.proofs.Common.{◌≡◌, ℕ, zero, suc, ◌/◌, ◌%◌, ◌^◌, ◌<◌, ◌≤◌, ℤ, pos, negsuc, ◌-ℤ◌}
use Rattle.std.proofs.Common.{◌*ℤ◌, neg_ℤ, refl, sym, ◌∙◌, ap, arith}
use Rattle.std.specs.Prelude.{FitsSigned, int_div, int_rem, unsigned_abs}
use Rattle.std.specs.Int.{w64, cast_signed, cast_unsigned, int_wrap, int_div_euclid, int_shl}
use Rattle.std.specs.Int.{int_shr}
use Rattle.std.specs.Int.Signed.{mag_rem}
use Rattle.std.proofs.Math.Nat.{div-le_self, mod-le}
use Rattle.std.proofs.Math.Pow.{pow-lt}
use Rattle.std.proofs.lemmas.Int.{ints, wraps, int_wrap_fits, quot-rem, to_z-of_z}
use Rattle.std.proofs.lemmas.Int.{int_wrap-mul_right, wrapping_mul-bits}

-- casting a number within 2^63 in size to bits and back wraps it
cast_wrap : (z : ℤ) → unsigned_abs z ≤ 2 ^ 63 → cast_signed w64 (cast_unsigned w64 z)
    ≡ int_wrap w64 z
unfolding int_wrap
cast_wrap (pos n) near = let small : n % 2 ^ 64 ≡ n = omega arith in rw small refl
cast_wrap (negsuc n) near = let small : n % 2 ^ 64 ≡ n = omega arith in
    rw small (ap (cast_signed w64) (omega arith))

abs_neg : (n : ℕ) → unsigned_abs (neg_ℤ (pos n)) ≡ n
abs_neg zero = refl
abs_neg (suc n) = refl

-- a quotient is no larger in size than its dividend
abs_div : (a b : ℤ) → unsigned_abs (int_div a b) ≤ unsigned_abs a
abs_div (pos a) (pos b) = div-le_self a b
abs_div (pos a) (negsuc b) = omega (arith, abs_neg (a / suc b), div-le_self a (suc b))
abs_div (negsuc a) (pos b) = omega (arith, abs_neg (suc a / b), div-le_self (suc a) b)
abs_div (negsuc a) (negsuc b) = div-le_self (suc a) (suc b)

abs_fits : (a : ℤ) → FitsSigned w64 a → unsigned_abs a ≤ 2 ^ 63
abs_fits (pos a) f = let h = f.sfits in omega arith
abs_fits (negsuc a) f = let h = f.sfits in omega arith

bits_fit : (a : ℤ) → FitsSigned w64 a → cast_unsigned w64 a < 2 ^ 64
bits_fit (pos a) f = let h = f.sfits in omega arith
bits_fit (negsuc a) f = omega arith

-- the quotient of two words, which may be 2^63, wrapped
pub div_is : (a b : ℤ) → FitsSigned w64 a → FitsSigned w64 b
    → cast_signed w64 (cast_unsigned w64 (int_div a b)) ≡ int_wrap w64 (int_div a b)
div_is a b f g = let shrinks = abs_div a b in cast_wrap (int_div a b) (omega (arith, abs_fits a f))

pub rem_is : (a b : ℤ) → FitsSigned w64 a → FitsSigned w64 b
    → int_rem a b ≡ int_wrap w64 (a -ℤ int_div a b *ℤ b)
rem_is a b f g =
    let e : a -ℤ int_div a b *ℤ b ≡ int_rem a b = omega (arith, ints, quot-rem a b) in
    rw e (sym (int_wrap_fits w64 (int_rem a b)
    (record { sfits = omega (arith, mag_rem a b, f.sfits) })))

-- casting the bits n to a word wraps n
cast_small : (n : ℕ) → n < 2 ^ 64 → cast_signed w64 n ≡ int_wrap w64 (pos n)
unfolding int_wrap
cast_small n h = let small : n % 2 ^ 64 ≡ n = omega arith in rw small refl

pub shl_is : (a : ℤ) (k : ℕ) → FitsSigned w64 a → k < 64
    → int_shl w64 a k ≡ int_wrap w64 (a *ℤ pos (2 ^ k))
shl_is a k f small =
    let power : 2 ^ k < 2 ^ 64 = pow-lt small in
    wrapping_mul-bits w64 (cast_unsigned w64 a) (2 ^ k) (bits_fit a f) power
    ∙ ap (λ x. int_wrap w64 (x *ℤ cast_signed w64 (2 ^ k))) (to_z-of_z w64 a f)
    ∙ ap (λ x. int_wrap w64 (a *ℤ x)) (cast_small (2 ^ k) power)
    ∙ int_wrap-mul_right w64 a (pos (2 ^ k))

pub shr_is : (a : ℤ) (k : ℕ) → FitsSigned w64 a
    → int_shr a k ≡ int_wrap w64 (int_div_euclid a (pos (2 ^ k)))
shr_is (pos a) k f = sym (int_wrap_fits w64 (pos (a / 2 ^ k))
    (record { sfits = omega (arith, div-le_self a (2 ^ k), f.sfits) }))
shr_is (negsuc a) k f = sym (int_wrap_fits w64 (negsuc (a / 2 ^ k))
    (record { sfits = omega (arith, div-le_self a (2 ^ k), f.sfits) }))

pub udiv_is : (a : ℤ) (n : ℕ) → FitsSigned w64 a
    → cast_signed w64 (cast_unsigned w64 a / n) ≡ int_wrap w64 (pos (cast_unsigned w64 a / n))
udiv_is a n f = cast_small (cast_unsigned w64 a / n)
    (omega (arith, bits_fit a f, div-le_self (cast_unsigned w64 a) n))

pub urem_is : (a : ℤ) (n : ℕ) → FitsSigned w64 a
    → cast_signed w64 (cast_unsigned w64 a % n) ≡ int_wrap w64 (pos (cast_unsigned w64 a % n))
urem_is a n f = cast_small (cast_unsigned w64 a % n)
    (omega (arith, bits_fit a f, mod-le (cast_unsigned w64 a) n))

pub ruleset words = (to_z-of_z, div_is, rem_is, shl_is, shr_is, udiv_is, urem_is)
