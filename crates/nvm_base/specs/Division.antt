-- Division truncates toward zero: what the quotient leaves is smaller than the divisor, and it has
-- the dividend's sign or is 0. The words are those two numbers, wrapped to 64 bits.
use Rattle.std.specs.Prelude.{◌≡◌, ◌<◌, ◌≤ℤ◌, ◌+ℤ◌, ◌*ℤ◌, ℤ, pos, unsigned_abs}
use Rattle.nvm_base.specs.Operations.{div, rem}
use Rattle.nvm_base.specs.Wrap.{wrap}

pub record IsDivided (a b : ℤ) : Type 0 where
  pub quotient : ℤ
  pub rest : ℤ
  pub whole : quotient *ℤ b +ℤ rest ≡ a
  pub smaller : unsigned_abs rest < unsigned_abs b
  pub above : pos 0 ≤ℤ a → pos 0 ≤ℤ rest
  pub below : a ≤ℤ pos 0 → rest ≤ℤ pos 0
  pub quotient_word : div a b ≡ wrap quotient
  pub rest_word : rem a b ≡ wrap rest

abbrev pub DivisionLaw : Type 0
DivisionLaw = (a b : ℤ) → (b ≡ pos 0 → ⊥) → IsDivided a b
