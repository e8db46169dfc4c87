-- The numbers: `0`; or a digit from 1 to 9 followed by digits, at most 9223372036854775807; or `0x`
-- or `0X` followed by at least one hexadecimal digit, at most 18446744073709551615 in value.
-- Nothing else that begins with a digit is a number. A number is given as the word with its bits:
-- from 2^63 on that is less by 2^64.
use Rattle.std.specs.Prelude.{ℕ, ℤ, List, length, drop, Option, Some, None, nat_eq, nat_lt}
use Rattle.std.specs.Prelude.{nat_le, ◌==◌, ◌&&◌, ◌||◌, ◌^◌, ◌-◌, if◌then◌else◌, codes, slice_index}
use Rattle.std.specs.Char.{is_digit}
use Rattle.std.specs.Int.{w64, cast_signed}
use Rattle.std.specs.List.{list_all, starts_with}
use Rattle.std.specs.Str.Parse.{digits_value_after}

-- the word of the digits in a base, after digits of the value `before`, if the value of all is at
-- most `most`
abbrev pub digits_after : (base most before : ℕ) → List ℕ → Option ℤ
digits_after base most before digits =
    if list_all (λ d. is_digit d base) digits && nat_le (digits_value_after base before digits) most
    then Some (cast_signed w64 (digits_value_after base before digits))
    else None

-- at least one digit in a base, and no other byte
abbrev pub numeral : (base most : ℕ) → List ℕ → Option ℤ
numeral base most digits =
    if nat_lt 0 (length digits) then digits_after base most 0 digits else None

-- the word of a run of letters, digits and `_`, if it is a number
unfoldable pub number_of : List ℕ → Option ℤ
number_of run =
    if starts_with nat_eq run (codes "0x") || starts_with nat_eq run (codes "0X")
    then numeral 16 (2 ^ 64 - 1) (drop 2 run)
    else (if slice_index run 0 == 48 && nat_lt 1 (length run) then None
    else numeral 10 (2 ^ 63 - 1) run)
