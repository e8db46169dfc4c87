-- The number of a transaction, counted down over the functions.
use Rattle.std.proofs.Common.{◌≡◌, ℕ, zero, suc, [], refl, None}
use Rattle.c_meaning.specs.Transaction.{transaction_in}

pub transaction_in-none : (n : ℕ) → transaction_in n [] ≡ None
transaction_in-none zero = refl
transaction_in-none (suc n) = refl

pub ruleset numbers = (transaction_in-none)
