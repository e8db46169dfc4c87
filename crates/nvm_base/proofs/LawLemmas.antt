-- The laws of words.
use Rattle.std.proofs.Common.{◌≡◌, ℕ, suc, ◌-◌, ◌/◌, ◌%◌, ◌^◌, ◌<◌, ◌≤◌, ℤ, pos, negsuc, ◌+ℤ◌, ◌-ℤ◌}
use Rattle.std.proofs.Common.{◌*ℤ◌, refl, sym, ◌∙◌, ap, arith, Bool, true, false, ltb, ◌==◌}
use Rattle.std.specs.Prelude.{FitsSigned, bit_and, bit_or, bit_xor}
use Rattle.std.specs.Int.{w64, cast_signed, int_wrap, int_div_euclid, bit_at}
use Rattle.std.proofs.Math.IntN.{*ℤ-zero, +ℤ_idr}
use Rattle.std.proofs.Math.Nat.{mod-lt}
use Rattle.std.proofs.lemmas.Nat.{div-add-mod', and_le_l, or_lt, xor_lt, pow_pos}
use Rattle.std.proofs.lemmas.Bool.{ltb-false, eq-eqb, eqb-true}
use Rattle.std.proofs.lemmas.Nat.Bits.{bit_at_and, bit_at_or, bit_at_xor}
use Rattle.std.proofs.lemmas.Int.{ints, int_wrap_fits, int_wrap-add_right, int_wrap-mul_right}
use Rattle.std.proofs.lemmas.Int.{SFits-int_wrap, of_z-to_z, to_z-of_z}
use Rattle.nvm_base.specs.Wrap.{wrap, IsWord, IsCongruent, Wraps}
use Rattle.nvm_base.specs.WordLaws.{UnsignedIsModulo, PlacesIsModulo, RoundsDown, ShiftRoundsDown}
use Rattle.nvm_base.specs.WordLaws.{EqCompares, AndIsBitwise, OrIsBitwise, XorIsBitwise, bit}
use Rattle.nvm_base.specs.Operations.{unsigned, shift_places, truth}

pub fits_word : (x : ℤ) → FitsSigned w64 x → IsWord x
fits_word x f = (omega (arith, ints), omega (arith, ints))

pub word_fits : (x : ℤ) → IsWord x → FitsSigned w64 x
word_fits x h = let low = h.0 in let high = h.1 in omega (arith, ints)

cast_low : (n : ℕ) → ltb n (2 ^ 63) ≡ true → cast_signed w64 n ≡ pos n
cast_low n low = rw low refl

cast_high : (n : ℕ) → ltb n (2 ^ 63) ≡ false → cast_signed w64 n ≡ negsuc (2 ^ 64 - suc n)
cast_high n high = rw high refl

-- the word with the bits n is congruent to each number that differs from n by a multiple of 2^64
bits_congruent : (x : ℤ) (n : ℕ) (k : ℤ) → n < 2 ^ 64 → x ≡ pos n +ℤ k *ℤ pos (2 ^ 64)
    → IsCongruent (2 ^ 64) x (cast_signed w64 n)
bits_congruent x n k small e = by (ltb n (2 ^ 63)) refl
  where
    by : (t : Bool) → ltb n (2 ^ 63) ≡ t → IsCongruent (2 ^ 64) x (cast_signed w64 n)
    by true low = (k, e ∙ ap (λ z. z +ℤ k *ℤ pos (2 ^ 64)) (sym (cast_low n low)))
    by false high =
        let above : 2 ^ 63 ≤ n = ltb-false n (2 ^ 63) high in
        let from : pos n +ℤ k *ℤ pos (2 ^ 64) ≡ negsuc (2 ^ 64 - suc n) +ℤ (k +ℤ pos 1) *ℤ pos
        (2 ^ 64) = omega (arith, ints) in (
          k +ℤ pos 1,
          e ∙ from ∙ ap (λ z. z +ℤ (k +ℤ pos 1) *ℤ pos (2 ^ 64))
              (sym (cast_high n high)),
        )

wrap_congruent : (x : ℤ) → IsCongruent (2 ^ 64) x (wrap x)
unfolding int_wrap
wrap_congruent (pos a) = bits_congruent (pos a) (a % 2 ^ 64) (pos (a / 2 ^ 64)) (omega arith)
    (omega (arith, ints, div-add-mod' a (2 ^ 64)))
wrap_congruent (negsuc a) = bits_congruent (negsuc a) (2 ^ 64 - 1 - a % 2 ^ 64)
    (negsuc (a / 2 ^ 64)) (omega arith) (omega (arith, ints, div-add-mod' a (2 ^ 64)))

wrap_modulus : int_wrap w64 (pos (2 ^ 64)) ≡ pos 0
unfolding int_wrap
wrap_modulus = refl

-- adding a multiple of 2^64 to a number doesn't change the word that it wraps to
wrap_add_multiple : (y k : ℤ) → wrap (y +ℤ k *ℤ pos (2 ^ 64)) ≡ wrap y
wrap_add_multiple y k =
    sym (int_wrap-add_right w64 y (k *ℤ pos (2 ^ 64)))
    ∙ ap (λ z. int_wrap w64 (y +ℤ z)) (sym (int_wrap-mul_right w64 k (pos (2 ^ 64)))
    ∙ ap (λ z. int_wrap w64 (k *ℤ z)) wrap_modulus ∙ ap (int_wrap w64) (*ℤ-zero k)
    ∙ int_wrap_fits w64 (pos 0) (record { sfits = omega arith }))
    ∙ ap (int_wrap w64) (+ℤ_idr y)

pub wraps : (x : ℤ) → Wraps x
wraps x = record {
  in_range = fits_word (wrap x) (SFits-int_wrap w64 x);
  congruent = wrap_congruent x;
  only = λ y word same. sym (int_wrap_fits w64 y (word_fits y word))
      ∙ sym (wrap_add_multiple y same.0) ∙ ap wrap (sym same.1);
}

pub unsigned_law : UnsignedIsModulo
unsigned_law (pos a) word = (omega (arith, ints, word.1), (pos 0, omega (arith, ints)))
unsigned_law (negsuc a) word = (omega arith, (negsuc 0, omega (arith, ints, word.0)))

pub places_law : PlacesIsModulo
places_law (pos b) word = (
  mod-lt b (omega arith),
  (pos (b / 64), omega (arith, ints, div-add-mod' b 64)),
)
places_law (negsuc b) word =
    let u = 2 ^ 64 - suc b in (
      mod-lt u (omega arith),
      (
        pos (u / 64) -ℤ pos (2 ^ 58),
        omega (arith, ints, word.0, div-add-mod' u 64),
      ),
    )

rounds_down : (a : ℤ) (m : ℕ) → 0 < m → RoundsDown a m (int_div_euclid a (pos m))
rounds_down (pos a) m some = (
  omega (arith, ints, div-add-mod' a m),
  omega (arith, ints, div-add-mod' a m, mod-lt a some),
)
rounds_down (negsuc a) m some =
    (omega (arith, ints, div-add-mod' a m, mod-lt a some), omega (arith, ints, div-add-mod' a m))

pub shift_law : ShiftRoundsDown
shift_law a b = rounds_down a (2 ^ shift_places b) (pow_pos (shift_places b))

-- two words with the same unsigned number are equal
same_word : (a b : ℤ) → IsWord a → IsWord b → unsigned a ≡ unsigned b → a ≡ b
same_word a b wa wb same =
    sym (to_z-of_z w64 a (word_fits a wa)) ∙ ap (cast_signed w64) same
    ∙ to_z-of_z w64 b (word_fits b wb)

pub eq_law : EqCompares
eq_law a b wa wb = (
  by (unsigned a == unsigned b) refl,
  λ same.
      ap truth (eq-eqb (unsigned a) (unsigned b) (ap unsigned same)),
)
  where
    by : (t : Bool) → (unsigned a == unsigned b) ≡ t → truth t ≡ pos 1 → a ≡ b
    by true same one = same_word a b wa wb (eqb-true (unsigned a) (unsigned b) same)
    by false other one = cc

-- bit k of the word made from the bits n is bit k of n
bit_cast : (n k : ℕ) → n < 2 ^ 64 → bit (cast_signed w64 n) k ≡ bit_at n k
bit_cast n k small = ap (λ u. bit_at u k) (of_z-to_z w64 n small)

unsigned_small : (a : ℤ) → IsWord a → unsigned a < 2 ^ 64
unsigned_small a word = (unsigned_law a word).0

pub and_law : AndIsBitwise
and_law a b wa wb k =
    let small = unsigned_small a wa in
    let u = unsigned a in
    let v = unsigned b in
    bit_cast (bit_and u v) k (omega (arith, small, and_le_l u v)) ∙ bit_at_and u v k

pub or_law : OrIsBitwise
or_law a b wa wb k =
    let u = unsigned a in
    let v = unsigned b in
    bit_cast (bit_or u v) k (or_lt 64 u v (unsigned_small a wa) (unsigned_small b wb))
    ∙ bit_at_or u v k

pub xor_law : XorIsBitwise
xor_law a b wa wb k =
    let u = unsigned a in
    let v = unsigned b in
    bit_cast (bit_xor u v) k (xor_lt 64 u v (unsigned_small a wa) (unsigned_small b wb))
    ∙ bit_at_xor u v k
