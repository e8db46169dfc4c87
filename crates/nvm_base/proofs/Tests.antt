-- What tests of numbers and options say.
use Rattle.std.proofs.Common.{◌≡◌, ℕ, ◌≤◌, true, refl, arith, rules}
use Rattle.std.specs.Prelude.{nat_le, nat_eq, is_some, Option, None, Some}
use Rattle.std.proofs.lemmas.Bool.Decides.{nat_tests}
use Rattle.std.proofs.lemmas.Bool.{false≢true}

pub le_from : (a b : ℕ) → nat_le a b ≡ true → a ≤ b
le_from a b e = search (rules)

pub le_true : (a b : ℕ) → a ≤ b → nat_le a b ≡ true
le_true a b le = search (rules)

pub same_from : (a b : ℕ) → nat_eq a b ≡ true → a ≡ b
same_from a b e = grind (arith, nat_tests)

pub same_true : (a : ℕ) → nat_eq a a ≡ true
same_true a = grind (arith, nat_tests)

pub some_of : {A : Type 0} (o : Option A) → is_some o ≡ true → (x : A) × (o ≡ Some x)
some_of None e = absurd (false≢true e)
some_of (Some x) e = (x, refl)
