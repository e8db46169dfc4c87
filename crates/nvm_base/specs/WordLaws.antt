-- Laws that tie the words of `Operations` to their meaning: the unsigned number of a word is the
-- word modulo 2^64, the count of a shift is taken modulo 64, a shift to the right rounds down, `eq`
-- compares, and the bitwise operations work on each of the 64 bits by itself.
use Rattle.std.specs.Prelude.{◌≡◌, ◌↔◌, ◌+◌, ◌%◌, ◌^◌, ◌<◌, ◌+ℤ◌, ◌*ℤ◌, ◌≤ℤ◌, ◌<ℤ◌, ℕ, ℤ, pos, min}
use Rattle.std.specs.Prelude.{max}
use Rattle.std.specs.Int.{bit_at, int_div_euclid}
use Rattle.nvm_base.specs.Operations.{unsigned, shift_places, eq, and_of, or_of, xor_of}
use Rattle.nvm_base.specs.Wrap.{IsWord, IsCongruent}

abbrev pub UnsignedIsModulo : Type 0
UnsignedIsModulo = (a : ℤ) → IsWord a → (unsigned a < 2 ^ 64)
    × IsCongruent (2 ^ 64) a (pos (unsigned a))

abbrev pub PlacesIsModulo : Type 0
PlacesIsModulo = (b : ℤ) → IsWord b → (shift_places b < 64)
    × IsCongruent 64 b (pos (shift_places b))

-- q is a / m rounded down
abbrev pub RoundsDown : (a : ℤ) (m : ℕ) (q : ℤ) → Type 0
RoundsDown a m q = ((q *ℤ pos m) ≤ℤ a) × (a <ℤ (q *ℤ pos m +ℤ pos m))

abbrev pub ShiftRoundsDown : Type 0
ShiftRoundsDown = (a b : ℤ) → RoundsDown a (2 ^ shift_places b)
    (int_div_euclid a (pos (2 ^ shift_places b)))

abbrev pub EqCompares : Type 0
EqCompares = (a b : ℤ) → IsWord a → IsWord b → (eq a b ≡ pos 1) ↔ (a ≡ b)

-- bit k of the word, 0 or 1, counted from the lowest
abbrev pub bit : ℤ → ℕ → ℕ
bit a k = bit_at (unsigned a) k

-- each bit of the result is f of the two operands' bits at the same place
abbrev pub IsBitwise : (ℤ → ℤ → ℤ) → (ℕ → ℕ → ℕ) → Type 0
IsBitwise operation f = (a b : ℤ) → IsWord a → IsWord b → (k : ℕ)
    → bit (operation a b) k ≡ f (bit a k) (bit b k)

abbrev pub AndIsBitwise : Type 0
AndIsBitwise = IsBitwise and_of min

abbrev pub OrIsBitwise : Type 0
OrIsBitwise = IsBitwise or_of max

abbrev pub XorIsBitwise : Type 0
XorIsBitwise = IsBitwise xor_of (λ x y. (x + y) % 2)
