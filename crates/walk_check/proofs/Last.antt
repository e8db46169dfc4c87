-- The last step of a piece, by its number.
use Rattle.std.proofs.Common.{◌≡◌, ◌-◌, List, [], ◌∷◌, Some, length, refl, arith}
use Rattle.std.specs.Prelude.{slice_get, unwrap_or}
use Rattle.walk_check.specs.declared.certificate.Step.{Step}
use Rattle.walk_check.specs.Keeps.{blank_step, last_step}

last_of : (a : Step) (rest : List Step)
    → slice_get (a ∷ rest) (length rest) ≡ Some (last_step a rest)
last_of a [] = refl
last_of a (b ∷ rest) = last_of b rest

pub last_step_get : (steps : List Step)
    → last_step blank_step steps ≡ unwrap_or (slice_get steps (length steps - 1)) blank_step
last_step_get [] = refl
last_step_get (a ∷ rest) =
    let place : length (a ∷ rest) - 1 ≡ length rest = omega arith in
    rw (place, last_of a rest) refl
