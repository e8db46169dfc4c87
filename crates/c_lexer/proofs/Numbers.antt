-- Digits after a value that is too large make no number.
use Rattle.std.proofs.Common.{◌≡◌, ℕ, ℤ, ◌+◌, ◌*◌, ◌<◌, ◌≤◌, List, [], ◌∷◌, length, drop}
use Rattle.std.proofs.Common.{get_or, Bool, true, false, ◌&&◌, Option, arith, refl, add-one}
use Rattle.std.proofs.Common.{drop-cons}
use Rattle.std.proofs.Math.Nat.{mul-le-mul_left}
use Rattle.std.specs.Prelude.{None, nat_le, if◌then◌else◌}
use Rattle.std.specs.Char.{digit_value}
use Rattle.std.specs.Str.Parse.{digits_value_after}
use Rattle.c_lexer.specs.Numbers.{digits_after}

pub value_grows : (base before : ℕ) (digits : List ℕ) → 1 ≤ base
    → before ≤ digits_value_after base before digits
value_grows base before [] some = omega arith
value_grows base before (d ∷ ds) some =
    let more = value_grows base (before * base + digit_value d) ds some in
    omega (arith, more, mul-le-mul_left before some)

none_of_both : (b : Bool) (value : Option ℤ) → (if b && false then value else None) ≡ None
none_of_both true value = refl
none_of_both false value = refl

pub too_large : (base most before d : ℕ) (ds : List ℕ) → 1 ≤ base
    → most < before * base + digit_value d →
    digits_after base most before (d ∷ ds) ≡ None
too_large base most before d ds some large =
    let more = value_grows base (before * base + digit_value d) ds some in
    let over : nat_le (digits_value_after base (before * base + digit_value d) ds) most
    ≡ false = grind (arith, more) in
    rw over (none_of_both _ _)

-- the same for the digits from a place on
pub too_large_there : (base most before at : ℕ) (digits : List ℕ) → 1 ≤ base → at < length digits →
    most < before * base + digit_value (get_or digits at 0)
    → digits_after base most before (drop at digits) ≡ None
too_large_there base most before at digits some within large =
    let cons : drop at digits ≡ get_or digits at 0 ∷ drop (at + 1) digits =
    rw (add-one, drop-cons digits at 0) refl in
    rw cons (too_large base most before (get_or digits at 0) (drop (at + 1) digits) some large)
