-- The law of `least_broken`: if it reports nothing, no rule is broken; else the reported rule is
-- among the broken ones, and none of them comes before it.
use Rattle.std.specs.Prelude.{List, [], ◌∷◌, ◌≡◌, ◌⊎◌, false, Option, None, Some}
use Rattle.c_types.specs.declared.broken.Broken.{Broken}
use Rattle.c_types.specs.Broken.{is_before, least_broken}

abbrev pub IsAmong : Broken → List Broken → Type 0
IsAmong a [] = ⊥
IsAmong a (b ∷ bs) = (a ≡ b) ⊎ IsAmong a bs

abbrev pub NoneBefore : Broken → List Broken → Type 0
NoneBefore a [] = Unit {0}
NoneBefore a (b ∷ bs) = (is_before b a ≡ false) × NoneBefore a bs

abbrev pub IsTold : Option Broken → List Broken → Type 0
IsTold None bs = bs ≡ []
IsTold (Some a) bs = IsAmong a bs × NoneBefore a bs

abbrev pub LeastIsTold : Type 0
LeastIsTold = (bs : List Broken) → IsTold (least_broken bs) bs
