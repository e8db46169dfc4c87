-- How many steps a chain takes.
use Rattle.std.proofs.Common.{◌≡◌, ℕ, ◌+◌, ◌*◌, [], ◌∷◌, length, ap, arith}
use Rattle.cnvm_session.proofs.Bounding.{command_most}
use Rattle.cnvm_session.specs.Steps.{most_of_program}
use Rattle.session_law.specs.Ran.{Moment}
use Rattle.session_law.specs.Law.{BoundLaw}

pub chain_bounded : BoundLaw
chain_bounded program super [] [] x y same =
    let steps : y.steps ≡ x.steps = ap (λ (z : Moment). z.steps) same in omega (arith, steps)
chain_bounded program super [] (a ∷ answers) x y ran = absurd ran
chain_bounded program super (c ∷ commands) [] x y ran = absurd ran
chain_bounded program super (c ∷ commands) (a ∷ answers) x y ran =
    let z : Moment = ran.0 in
    let m : ℕ = most_of_program program in
    let one = (command_most program c x.mode z.mode x.device z.device a x.steps z.steps
    ran.1.did).1 in
    let rest = chain_bounded program super commands answers z y ran.2 in
    let more : length (c ∷ commands) * m ≡ m + length commands * m = omega arith in
    omega (arith, one, rest, more)
