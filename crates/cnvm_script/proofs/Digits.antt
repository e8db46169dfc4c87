-- A number of at most 19 digits is below 2 ^ 64, and one that is not is no long numeral.
use Rattle.std.proofs.Common.{◌≡◌, ℕ, ◌+◌, ◌*◌, ◌^◌, ◌<◌, ◌≤◌, List, [], ◌∷◌, length, drop, get_or}
use Rattle.std.proofs.Common.{Bool, true, false, ◌&&◌, Some, None, arith, lit<, refl, sym}
use Rattle.std.proofs.Common.{◌∙◌, ap, add-one, drop-cons}
use Rattle.std.proofs.Math.Nat.{pow-le-pow_right}
use Rattle.std.proofs.lemmas.Bool.{lt-ltb, le-leb}
use Rattle.std.proofs.lemmas.List.{drop_all}
use Rattle.std.specs.Prelude.{◌-◌, nat_le, nat_lt, if◌then◌else◌, option_and_then}
use Rattle.std.specs.List.{list_all}
use Rattle.std.specs.Char.{is_ascii_digit, digit_value}
use Rattle.std.specs.Str.Parse.{digits_value_after}
use Rattle.cnvm_script.specs.Number.{at_most, long_numeral}

pub digits-fit : (v i d : ℕ) → v < 10 ^ i → i < 19 → d < 10 → v * 10 + d < 2 ^ 64
digits-fit v i d small few digit =
    let below : i ≤ 18 = omega arith in
    let most : 10 ^ i ≤ 10 ^ 18 = pow-le-pow_right (lit< tt) below in
    omega arith

value_grows : (before : ℕ) (digits : List ℕ) → before ≤ digits_value_after 10 before digits
value_grows before [] = omega arith
value_grows before (d ∷ ds) =
    let more = value_grows (before * 10 + digit_value d) ds in omega (arith, more)

none_over : (b : Bool) (n : ℕ) → nat_le n (2 ^ 64 - 1) ≡ false
    → option_and_then (at_most (2 ^ 64 - 1)) (if b then Some n else None) ≡ None
none_over true n over = rw over refl
none_over false n over = refl

given_digit : (b : Bool) (d e : ℕ) → Some d ≡ (if b then Some e else None) → d ≡ e
given_digit true d e h = cc
given_digit false d e h = absurd (cc)

-- the digits from a place on, after a value that is too large with the first of them
pub too_long : (before at digit : ℕ) (word : List ℕ) → at < length word
    → Some digit ≡ (if is_ascii_digit (get_or word at 0) then Some (digit_value (get_or word at 0))
    else None)
    → 2 ^ 64 ≤ before * 10 + digit
    → digits_value_after 10 before (drop at word) ≡ digits_value_after 10 0 word
    → None ≡ long_numeral word
too_long before at digit word within is large leads =
    let d : ℕ = get_or word at 0 in
    let same : digit ≡ digit_value d = given_digit (is_ascii_digit d) digit (digit_value d) is in
    let cons : drop at word ≡ d ∷ drop (at + 1) word =
    rw (add-one, drop-cons word at 0) refl in
    let more = value_grows (before * 10 + digit_value d) (drop (at + 1) word) in
    let all : digits_value_after 10 (before * 10 + digit_value d) (drop (at + 1) word)
    ≡ digits_value_after 10 0 word = ap (digits_value_after 10 before) (sym cons) ∙ leads in
    let over : nat_le (digits_value_after 10 0 word) (2 ^ 64 - 1) ≡ false =
    grind (arith, more, all, same, large) in
    sym (none_over (nat_lt 0 (length word) && (nat_le (length word) 20
    && list_all is_ascii_digit word)) (digits_value_after 10 0 word) over)

given_some : (b : Bool) (n : ℕ) → b ≡ true → n < 2 ^ 64
    → Some n ≡ option_and_then (at_most (2 ^ 64 - 1)) (if b then Some n else None)
given_some true n is fits = let below : nat_le n (2 ^ 64 - 1) ≡ true =
    le-leb n (2 ^ 64 - 1) (omega arith) in
    rw below refl
given_some false n is fits = absurd (cc)

-- the value when no digit is left
pub long_value : (value at : ℕ) (word : List ℕ) → 0 < length word → length word ≤ 20
    → length word ≤ at → value < 2 ^ 64
    → list_all is_ascii_digit (drop at word) ≡ list_all is_ascii_digit word
    → digits_value_after 10 value (drop at word) ≡ digits_value_after 10 0 word
    → Some value ≡ long_numeral word
long_value value at word some few end fits digits leads =
    let none : drop at word ≡ [] = drop_all at word end in
    let all : true ≡ list_all is_ascii_digit word = rw none at digits in
    let is : value ≡ digits_value_after 10 0 word = rw none at leads in
    let filled : nat_lt 0 (length word) ≡ true = lt-ltb 0 (length word) some in
    let short : nat_le (length word) 20 ≡ true = le-leb (length word) 20 few in
    let good : nat_lt 0 (length word) && (nat_le (length word) 20
    && list_all is_ascii_digit word) ≡ true = rw filled (rw short (sym all)) in
    rw is (given_some _ _ good (omega (arith, is)))

pub ruleset long_numerals = (too_long, long_value)
