-- The operations on words. Each is a formula over whole numbers, followed by one `wrap`.
-- Comparisons give 1 if they hold, else 0; the bitwise operations work on the 64 bits of two's
-- complement.
--
-- Division truncates toward zero, so -2^63 / -1 wraps to -2^63 and its remainder is 0. The count of
-- a shift is taken modulo 64. A shift to the right divides and rounds down, so it copies the sign
-- bit; one of unsigned numbers puts in zeros.
use Rattle.std.specs.Prelude.{◌+ℤ◌, ◌-ℤ◌, ◌*ℤ◌, ◌^◌, ◌/◌, ◌%◌, ◌==◌, ℕ, ℤ, pos, Bool, not}
use Rattle.std.specs.Prelude.{nat_le, nat_lt, int_div, int_lt, int_le, if◌then◌else◌}
use Rattle.std.specs.Int.{w64, cast_unsigned, int_div_euclid, int_bit_and, int_bit_or, int_bit_xor}
use Rattle.nvm_base.specs.Wrap.{wrap}

-- the word's 64 bits as a number: the word modulo 2^64
abbrev pub unsigned : ℤ → ℕ
unsigned a = cast_unsigned w64 a

-- the number of places that a shift by b moves: b modulo 64
abbrev pub shift_places : ℤ → ℕ
shift_places b = unsigned b % 64

-- the word of a comparison: 1 if it holds, else 0
abbrev pub truth : Bool → ℤ
truth holds = if holds then pos 1 else pos 0

abbrev pub add : ℤ → ℤ → ℤ
add a b = wrap (a +ℤ b)

abbrev pub sub : ℤ → ℤ → ℤ
sub a b = wrap (a -ℤ b)

abbrev pub mul : ℤ → ℤ → ℤ
mul a b = wrap (a *ℤ b)

-- `int_div` is the quotient truncated toward zero
abbrev pub div : ℤ → ℤ → ℤ
div a b = wrap (int_div a b)

-- the remainder a - b q, where q is the quotient truncated toward zero
abbrev pub rem : ℤ → ℤ → ℤ
rem a b = wrap (a -ℤ int_div a b *ℤ b)

abbrev pub shl : ℤ → ℤ → ℤ
shl a b = wrap (a *ℤ pos (2 ^ shift_places b))

-- `int_div_euclid` by a number above 0 rounds down
abbrev pub shr : ℤ → ℤ → ℤ
shr a b = wrap (int_div_euclid a (pos (2 ^ shift_places b)))

abbrev pub and_of : ℤ → ℤ → ℤ
and_of a b = int_bit_and w64 a b

abbrev pub or_of : ℤ → ℤ → ℤ
or_of a b = int_bit_or w64 a b

abbrev pub xor_of : ℤ → ℤ → ℤ
xor_of a b = int_bit_xor w64 a b

abbrev pub less : ℤ → ℤ → ℤ
less a b = truth (int_lt a b)

abbrev pub le : ℤ → ℤ → ℤ
le a b = truth (int_le a b)

abbrev pub eq : ℤ → ℤ → ℤ
eq a b = truth (unsigned a == unsigned b)

abbrev pub ne : ℤ → ℤ → ℤ
ne a b = truth (not (unsigned a == unsigned b))

-- `less` of the two words as unsigned numbers
abbrev pub ult : ℤ → ℤ → ℤ
ult a b = truth (nat_lt (unsigned a) (unsigned b))

-- `le`, quotient, remainder and shift to the right of the two words as unsigned numbers
abbrev pub ule : ℤ → ℤ → ℤ
ule a b = truth (nat_le (unsigned a) (unsigned b))

abbrev pub udiv : ℤ → ℤ → ℤ
udiv a b = wrap (pos (unsigned a / unsigned b))

abbrev pub urem : ℤ → ℤ → ℤ
urem a b = wrap (pos (unsigned a % unsigned b))

abbrev pub ushr : ℤ → ℤ → ℤ
ushr a b = wrap (pos (unsigned a / 2 ^ shift_places b))
