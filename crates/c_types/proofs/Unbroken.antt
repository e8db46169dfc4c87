-- Lists of broken rules that are empty.
use Rattle.std.proofs.Common.{◌≡◌, ℕ, Bool, true, false, List, [], ◌∷◌, ◌++◌, refl}
use Rattle.c_types.specs.declared.broken.Rule.{Rule}
use Rattle.c_types.specs.Broken.{broken_at, unless}

-- a list that is empty has no parts
pub none_left : {A : Type 0} (xs ys : List A) → xs ++ ys ≡ [] → xs ≡ []
none_left [] ys e = refl
none_left (x ∷ xs) ys e = cc

pub none_right : {A : Type 0} (xs ys : List A) → xs ++ ys ≡ [] → ys ≡ []
none_right [] ys e = e
none_right (x ∷ xs) ys e = cc

pub some_none : (place : ℕ) (rule : Rule) → broken_at place rule ≡ [] → ⊥
some_none place rule e = cc

-- where no rule is broken, what it asks for holds
pub holds : (b : Bool) (place : ℕ) (rule : Rule) → unless b place rule ≡ [] → b ≡ true
holds true place rule e = refl
holds false place rule e = cc
