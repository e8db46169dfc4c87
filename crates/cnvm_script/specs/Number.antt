-- A numeral is at least one digit, up to a greatest number of digits that depends on its place;
-- leading zeros count as digits.
--     An argument is an optional `-` and 1 to 20 digits, from -2^63 to 2^64 - 1; from 2^63 on it is
--     the word with the number's bits.
--     The number of `stop` and `fault` has 1 to 10 digits and is at most 4294967295.
--     A pick is `LINE:VERSION`, two numbers of 1 to 10 digits.
use Rattle.std.specs.Prelude.{ℕ, ◌^◌, ◌-◌, List, [], ◌∷◌, ◌&&◌, Option, None, Some, nat_lt, nat_le}
use Rattle.std.specs.Prelude.{if◌then◌else◌, ℤ, pos, neg_ℤ, length, codes, drop, option_and_then}
use Rattle.std.specs.Prelude.{option_map}
use Rattle.std.specs.Int.{w64, cast_signed}
use Rattle.std.specs.List.{list_all}
use Rattle.std.specs.Char.{is_ascii_digit}
use Rattle.std.specs.Str.Parse.{digits_value, starts_with_minus}
use Rattle.cache_model.specs.declared.choice.Pick.{Pick}
use Rattle.cnvm_script.specs.Pieces.{pieces}

-- the value of a numeral of at most `most` digits
abbrev pub bounded_numeral : (most : ℕ) → List ℕ → Option ℕ
bounded_numeral most word =
    if nat_lt 0 (length word) && (nat_le (length word) most && list_all is_ascii_digit word)
    then Some (digits_value 10 word)
    else None

abbrev pub at_most : ℕ → ℕ → Option ℕ
at_most limit n = if nat_le n limit then Some n else None

-- the value of a numeral of at most 20 digits that is at most 2^64 - 1
abbrev pub long_numeral : List ℕ → Option ℕ
long_numeral word = option_and_then (at_most (2 ^ 64 - 1)) (bounded_numeral 20 word)

abbrev pub as_negative : ℕ → Option ℤ
as_negative n = if nat_le n (2 ^ 63) then Some (neg_ℤ (pos n)) else None

abbrev pub argument : List ℕ → Option ℤ
argument word =
    if starts_with_minus word then option_and_then as_negative (long_numeral (drop 1 word))
    else option_map (cast_signed w64) (long_numeral word)

abbrev pub event_number : List ℕ → Option ℕ
event_number word = option_and_then (at_most 4294967295) (bounded_numeral 10 word)

abbrev pub pick_read : Option ℕ → Option ℕ → Option Pick
pick_read (Some line) (Some version) = Some (record { line = line; version = version })
pick_read (Some line) None = None
pick_read None version = None

abbrev pub pick_of : List (List ℕ) → Option Pick
pick_of (line ∷ version ∷ []) = pick_read (bounded_numeral 10 line) (bounded_numeral 10 version)
pick_of (line ∷ version ∷ other ∷ others) = None
pick_of (line ∷ []) = None
pick_of [] = None

abbrev pub pick : List ℕ → Option Pick
pick word = pick_of (pieces (codes ":") word)
