-- Lists of broken rules that are empty, and tests that hold.
use Rattle.std.proofs.Common.{◌≡◌, ℕ, Bool, true, List, [], ◌++◌, refl}
use Rattle.c_types.specs.declared.broken.Broken.{Broken}
use Rattle.c_types.specs.declared.broken.Rule.{Rule}
use Rattle.c_types.specs.Broken.{unless}

pub none_both : (xs ys : List Broken) → xs ≡ [] → ys ≡ [] → xs ++ ys ≡ []
none_both xs ys a b = rw (a, b) refl

pub kept : (b : Bool) (place : ℕ) (rule : Rule) → b ≡ true → unless b place rule ≡ []
kept b place rule e = rw e refl
