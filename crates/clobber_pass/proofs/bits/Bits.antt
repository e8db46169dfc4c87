-- Rows and the bits of their words.
use Rattle.std.proofs.Common.{◌≡◌, ◌<◌, ◌≤◌, ◌+◌, ◌-◌, ◌^◌, ℕ, zero, suc, Bool, true, false, List}
use Rattle.std.proofs.Common.{[], ◌∷◌, Option, Some, None, length, slice_get, refl, sym, ◌∙◌, ap}
use Rattle.std.proofs.Common.{arith, inl, inr, ⊎_elim}
use Rattle.std.specs.Prelude.{◌==◌, ◌&&◌, ◌||◌, not, slice_set, bit_and, bit_or, nat_lt}
use Rattle.std.specs.Prelude.{if◌then◌else◌}
use Rattle.std.specs.Int.{bit_at}
use Rattle.std.proofs.lemmas.Nat.Bits.{bit_at-zero, bit_at-lt, bit_at_and, bit_at_or, bit_at_xor}
use Rattle.std.proofs.lemmas.Nat.Bits.{bit_at-pow_same, bit_at-pow_other, bit_at_ones}
use Rattle.std.proofs.lemmas.Nat.{or_lt, pow_below}
use Rattle.std.proofs.lemmas.Bool.{false≢true, cases_lt, eqb-true, eq-eqb, lt-ltb, le-ltb}
use mathlib.Core.Logic.{◌⊎◌}
use Rattle.clobber_pass.specs.declared.topic.StructField.{StructField}
use Rattle.clobber_pass.specs.Row.{has_bit}
use Rattle.clobber_pass.specs.inside.Row.{mask, without, place_bit, names_field, bit_of}
use Rattle.clobber_pass.specs.inside.Row.{fields_from}
use Rattle.clobber_pass.specs.inside.Row.{fields_mask}

-- writing outside a row does nothing
pub set_past : {X : Type 0} (row : List X) (s : ℕ) (w : X) → length row ≤ s
    → slice_set row s w ≡ row
set_past [] s w past = refl
set_past (v ∷ row) zero w past = absurd (omega arith)
set_past (v ∷ row) (suc s) w past = ap (λ rest. v ∷ rest) (set_past row s w (omega arith))

pub bit_cases : (w x : ℕ) → (bit_at w x ≡ 0) ⊎ (bit_at w x ≡ 1)
bit_cases w x = small (bit_at w x) (bit_at-lt w x)
  where
    small : (b : ℕ) → b < 2 → (b ≡ 0) ⊎ (b ≡ 1)
    small zero less = inl refl
    small (suc zero) less = inr refl
    small (suc (suc b)) less = absurd (omega arith)

pub has_bit_zero : (x : ℕ) → has_bit x 0 ≡ false
unfolding has_bit
has_bit_zero x = rw (bit_at-zero x) refl

pub has_bit_or : (x a b : ℕ) → has_bit x (bit_or a b) ≡ (has_bit x a || has_bit x b)
unfolding has_bit
has_bit_or x a b =
    ⊎_elim
    (λ (p : bit_at a x ≡ 0). ⊎_elim (λ (q : bit_at b x ≡ 0). rw (bit_at_or a b x, p, q) refl)
    (λ (q : bit_at b x ≡ 1). rw (bit_at_or a b x, p, q) refl) (bit_cases b x))
    (λ (p : bit_at a x ≡ 1). ⊎_elim (λ (q : bit_at b x ≡ 0). rw (bit_at_or a b x, p, q) refl)
    (λ (q : bit_at b x ≡ 1). rw (bit_at_or a b x, p, q) refl) (bit_cases b x))
    (bit_cases a x)

pub has_bit_and : (x a b : ℕ) → has_bit x (bit_and a b) ≡ (has_bit x a && has_bit x b)
unfolding has_bit
has_bit_and x a b =
    ⊎_elim
    (λ (p : bit_at a x ≡ 0). ⊎_elim (λ (q : bit_at b x ≡ 0). rw (bit_at_and a b x, p, q) refl)
    (λ (q : bit_at b x ≡ 1). rw (bit_at_and a b x, p, q) refl) (bit_cases b x))
    (λ (p : bit_at a x ≡ 1). ⊎_elim (λ (q : bit_at b x ≡ 0). rw (bit_at_and a b x, p, q) refl)
    (λ (q : bit_at b x ≡ 1). rw (bit_at_and a b x, p, q) refl) (bit_cases b x))
    (bit_cases a x)

pub has_bit_without : (x a b : ℕ) → has_bit x (without a b) ≡ (has_bit x a && not (has_bit x b))
unfolding has_bit without
has_bit_without x a b =
    ⊎_elim
    (λ (p : bit_at a x ≡ 0). ⊎_elim (λ (q : bit_at b x ≡ 0).
    rw (bit_at_xor a (bit_and a b) x, bit_at_and a b x, p, q) refl) (λ (q : bit_at b x ≡ 1).
    rw (bit_at_xor a (bit_and a b) x, bit_at_and a b x, p, q) refl) (bit_cases b x))
    (λ (p : bit_at a x ≡ 1). ⊎_elim (λ (q : bit_at b x ≡ 0).
    rw (bit_at_xor a (bit_and a b) x, bit_at_and a b x, p, q) refl) (λ (q : bit_at b x ≡ 1).
    rw (bit_at_xor a (bit_and a b) x, bit_at_and a b x, p, q) refl) (bit_cases b x))
    (bit_cases a x)

pub has_bit_ones : (x : ℕ) → x < 16 → has_bit x (2 ^ 16 - 1) ≡ true
unfolding has_bit
has_bit_ones x less = rw (bit_at_ones 16 x less) refl

-- the bits of a power of 2
has_bit_pow : (x k : ℕ) → has_bit x (2 ^ k) ≡ (x == k)
unfolding has_bit
has_bit_pow x k = by_cases (x == k) refl
  where
    by_cases : (b : Bool) → (x == k) ≡ b → (bit_at (2 ^ k) x == 1) ≡ (x == k)
    by_cases true is =
        let same : x ≡ k = eqb-true x k is in
        rw (is, same, bit_at-pow_same k) refl
    by_cases false is =
        rw (is, bit_at-pow_other k x (λ (same : x ≡ k). false≢true (sym is ∙ eq-eqb x k same))) refl

apart : (a b : ℕ) → (a ≡ b → ⊥) → (a == b) ≡ false
apart a b unlike = by_cases (a == b) refl
  where
    by_cases : (t : Bool) → (a == b) ≡ t → (a == b) ≡ false
    by_cases true is = absurd (unlike (eqb-true a b is))
    by_cases false is = is

shifted : (x first y : ℕ) → first ≤ y → (x == y - first) ≡ (first + x == y)
shifted x first y more = by_cases (x == y - first) refl
  where
    by_cases : (t : Bool) → (x == y - first) ≡ t → (x == y - first) ≡ (first + x == y)
    by_cases true is =
        let same : x ≡ y - first = eqb-true x (y - first) is in
        let there : first + x ≡ y = omega arith in
        is ∙ sym (eq-eqb (first + x) y there)
    by_cases false is =
        let unlike : (first + x ≡ y → ⊥) = λ (e : first + x ≡ y).
        false≢true (sym is ∙ eq-eqb x (y - first) (omega arith)) in
        is ∙ sym (apart (first + x) y unlike)

pub has_bit_mask : (x first y : ℕ) → x < 16 → has_bit x (mask first y) ≡ (first + x == y)
unfolding mask
has_bit_mask x first y few = ⊎_elim below above (cases_lt y first)
  where
    below : y < first → has_bit x (if nat_lt y first then 0
        else (if nat_lt (y - first) 16 then 2 ^ (y - first) else 0)) ≡ (first + x == y)
    below less =
        let unlike : (first + x ≡ y → ⊥) = λ (e : first + x ≡ y). omega arith in
        rw (lt-ltb y first less, has_bit_zero x) (sym (apart (first + x) y unlike))

    above : first ≤ y → has_bit x (if nat_lt y first then 0
        else (if nat_lt (y - first) 16 then 2 ^ (y - first) else 0)) ≡ (first + x == y)
    above more = ⊎_elim near far (cases_lt (y - first) 16)
      where
        near : y - first < 16 → has_bit x (if nat_lt y first then 0
            else (if nat_lt (y - first) 16 then 2 ^ (y - first) else 0)) ≡ (first + x == y)
        near less = rw (le-ltb y first more, lt-ltb (y - first) 16 less) (has_bit_pow x (y - first)
            ∙ shifted x first y more)

        far : 16 ≤ y - first → has_bit x (if nat_lt y first then 0
            else (if nat_lt (y - first) 16 then 2 ^ (y - first) else 0)) ≡ (first + x == y)
        far past =
            let unlike : (first + x ≡ y → ⊥) = λ (e : first + x ≡ y). omega arith in
            rw (le-ltb y first more, le-ltb (y - first) 16 past, has_bit_zero x)
            (sym (apart (first + x) y unlike))

-- the bit of a place
has_bit_place : (x k : ℕ) → x < 16 → has_bit x (place_bit k) ≡ (x == k)
unfolding place_bit
has_bit_place x k few = ⊎_elim near far (cases_lt k 16)
  where
    near : k < 16 → has_bit x (if nat_lt k 16 then 2 ^ k else 0) ≡ (x == k)
    near less = rw (lt-ltb k 16 less) (has_bit_pow x k)

    far : 16 ≤ k → has_bit x (if nat_lt k 16 then 2 ^ k else 0) ≡ (x == k)
    far past =
        let unlike : (x ≡ k → ⊥) = λ (e : x ≡ k). omega arith in
        rw (le-ltb k 16 past, has_bit_zero x) (sym (apart x k unlike))

has_bit_of : (x k : ℕ) (c : StructField) (t y : ℕ) → x < 16
    → has_bit x (bit_of c k t y) ≡ ((x == k) && names_field c t y)
has_bit_of x k c t y few = by_cases (names_field c t y)
  where
    and_true : (a : Bool) → a ≡ (a && true)
    and_true true = refl
    and_true false = refl

    and_false : (a : Bool) → false ≡ (a && false)
    and_false true = refl
    and_false false = refl

    by_cases : (b : Bool) → has_bit x (if b then place_bit k else 0) ≡ ((x == k) && b)
    by_cases true = has_bit_place x k few ∙ and_true (x == k)
    by_cases false = has_bit_zero x ∙ and_false (x == k)

-- a field is at the place x among those from the place k on
field_in : List StructField → ℕ → ℕ → ℕ → ℕ → Bool
field_in [] k x t y = false
field_in (c ∷ cs) k x t y = ((x == k) && names_field c t y) || field_in cs (k + 1) x t y

or_assoc : (a b c : Bool) → ((a || b) || c) ≡ (a || (b || c))
or_assoc true b c = refl
or_assoc false b c = refl

or_none : (a : Bool) → a ≡ (a || false)
or_none true = refl
or_none false = refl

has_bit_from : (x : ℕ) (cs : List StructField) (k t y bits : ℕ) → x < 16
    → has_bit x (fields_from cs k t y bits) ≡ (has_bit x bits || field_in cs k x t y)
unfolding field_in
has_bit_from x [] k t y bits few = or_none (has_bit x bits)
has_bit_from x (c ∷ cs) k t y bits few =
    has_bit_from x cs (k + 1) t y (bit_or bits (bit_of c k t y)) few
    ∙ ap (λ b. b || field_in cs (k + 1) x t y) (has_bit_or x bits (bit_of c k t y)
    ∙ ap (λ b. has_bit x bits || b) (has_bit_of x k c t y few))
    ∙ or_assoc (has_bit x bits) ((x == k) && names_field c t y) (field_in cs (k + 1) x t y)

field_below : (cs : List StructField) (k x t y : ℕ) → x < k → field_in cs k x t y ≡ false
unfolding field_in
field_below [] k x t y less = refl
field_below (c ∷ cs) k x t y less =
    let unlike : (x ≡ k → ⊥) = λ (e : x ≡ k). omega arith in
    ap (λ b. (b && names_field c t y) || field_in cs (k + 1) x t y) (apart x k unlike)
    ∙ field_below cs (k + 1) x t y (omega arith)

-- the field of a place, if there is one, is this field
abbrev pub names : Option StructField → ℕ → ℕ → Bool
names None t y = false
names (Some c) t y = names_field c t y

field_at : (cs : List StructField) (k j t y : ℕ)
    → field_in cs k (k + j) t y ≡ names (slice_get cs j) t y
unfolding field_in
field_at [] k j t y = refl
field_at (c ∷ cs) k zero t y =
    let same : k + 0 ≡ k = omega arith in
    ap (λ b. (b && names_field c t y) || field_in cs (k + 1) (k + 0) t y) (eq-eqb (k + 0) k same)
    ∙ ap (λ b. names_field c t y || b) (field_below cs (k + 1) (k + 0) t y (omega arith))
    ∙ sym (or_none (names_field c t y))
field_at (c ∷ cs) k (suc j) t y =
    let unlike : (k + suc j ≡ k → ⊥) = λ (e : k + suc j ≡ k). omega arith in
    let moved : k + suc j ≡ (k + 1) + j = omega arith in
    ap (λ b. (b && names_field c t y) || field_in cs (k + 1) (k + suc j) t y)
    (apart (k + suc j) k unlike)
    ∙ ap (λ x. field_in cs (k + 1) x t y) moved ∙ field_at cs (k + 1) j t y

pub has_bit_fields : (x : ℕ) (all : List StructField) (t y : ℕ) → x < 16
    → has_bit x (fields_mask all t y) ≡ names (slice_get all x) t y
has_bit_fields x all t y few =
    let first : 0 + x ≡ x = omega arith in
    has_bit_from x all 0 t y 0 few
    ∙ ap (λ b. b || field_in all 0 x t y) (has_bit_zero x)
    ∙ ap (λ z. field_in all 0 z t y) (sym first) ∙ field_at all 0 x t y

place_bit_few : (k : ℕ) → place_bit k < 2 ^ 16
unfolding place_bit
place_bit_few k = ⊎_elim near far (cases_lt k 16)
  where
    some : 0 < 2 ^ 16
    some = omega arith

    near : k < 16 → (if nat_lt k 16 then 2 ^ k else 0) < 2 ^ 16
    near less = rw (lt-ltb k 16 less) (pow_below k 16 less)

    far : 16 ≤ k → (if nat_lt k 16 then 2 ^ k else 0) < 2 ^ 16
    far past = rw (le-ltb k 16 past) some

from_few : (cs : List StructField) (k t y bits : ℕ) → bits < 2 ^ 16
    → fields_from cs k t y bits < 2 ^ 16
from_few [] k t y bits few = few
from_few (c ∷ cs) k t y bits few =
    from_few cs (k + 1) t y (bit_or bits (bit_of c k t y))
    (or_lt 16 bits (bit_of c k t y) few (of_few (names_field c t y)))
  where
    some : 0 < 2 ^ 16
    some = omega arith

    of_few : (b : Bool) → (if b then place_bit k else 0) < 2 ^ 16
    of_few true = place_bit_few k
    of_few false = some

pub fields_few : (all : List StructField) (t y : ℕ) → fields_mask all t y < 2 ^ 16
fields_few all t y = let some : 0 < 2 ^ 16 = omega arith in from_few all 0 t y 0 some
