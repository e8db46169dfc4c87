-- The quotient and the rest of two whole numbers.
use Rattle.std.proofs.Common.{◌≡◌, zero, suc, ◌<◌, ℤ, pos, negsuc, ◌+ℤ◌, ◌-ℤ◌, ◌*ℤ◌, ◌≤ℤ◌, int_div}
use Rattle.std.proofs.Common.{int_rem, unsigned_abs, refl, ap, arith}
use Rattle.std.proofs.lemmas.Int.{ints, quot-rem, rem_below}
use Rattle.nvm_base.specs.Wrap.{wrap}
use Rattle.nvm_base.specs.Division.{DivisionLaw}

some_size : (b : ℤ) → (b ≡ pos 0 → ⊥) → 0 < unsigned_abs b
some_size (pos zero) other = absurd (other refl)
some_size (pos (suc n)) other = omega arith
some_size (negsuc n) other = omega arith

rest_above : (a b : ℤ) → pos 0 ≤ℤ a → pos 0 ≤ℤ int_rem a b
rest_above (pos m) b h = omega (arith, ints)
rest_above (negsuc m) b h = absurd (omega (arith, ints, h))

rest_below : (a b : ℤ) → a ≤ℤ pos 0 → int_rem a b ≤ℤ pos 0
rest_below (pos zero) b h = omega (arith, ints)
rest_below (pos (suc m)) b h = absurd (omega (arith, ints, h))
rest_below (negsuc m) b h = omega (arith, ints)

left_over : (a x r : ℤ) → x +ℤ r ≡ a → a -ℤ x ≡ r
left_over a x r e = omega (arith, ints, e)

pub divided : DivisionLaw
divided a b other = record {
  quotient = int_div a b;
  rest = int_rem a b;
  whole = quot-rem a b;
  smaller = rem_below a b (some_size b other);
  above = rest_above a b;
  below = rest_below a b;
  quotient_word = refl;
  rest_word = ap wrap (left_over a (int_div a b *ℤ b) (int_rem a b) (quot-rem a b));
}
