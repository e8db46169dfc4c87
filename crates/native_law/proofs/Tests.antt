-- Tests that passed, and those that a checked image has passed.
use Rattle.std.proofs.Common.{◌≡◌, refl, Bool, true, false}
use Rattle.std.specs.Prelude.{◌&&◌, ◌||◌}
use Rattle.std.proofs.lemmas.Bool.{false≢true}

pub left_of : (x y : Bool) → (x && y) ≡ true → x ≡ true
left_of true y e = refl
left_of false y e = absurd (false≢true e)

pub right_of : (x y : Bool) → (x && y) ≡ true → y ≡ true
right_of true y e = e
right_of false y e = absurd (false≢true e)

pub first_of : (x : Bool) → (x || false) ≡ true → x ≡ true
first_of true e = refl
first_of false e = e
