-- Steps, one after another.
use Rattle.std.proofs.Common.{◌≡◌, ℕ, zero, suc, ◌+◌, refl, ap, ◌∙◌, arith}
use Rattle.pm_alloc.specs.Runs.{Next, Goes, Traps, Off, then, local_run}

then_then : {W A : Type 0} (r : Next W A) (f g h : A → Next W A) → ((a : A) → f a ≡ then (g a) h)
    → then r f ≡ then (then r g) h
then_then (Goes a) f g h e = e a
then_then (Traps k w) f g h e = refl
then_then Off f g h e = refl

-- some of the steps can be taken first
pub run_add : {W A : Type 0} (step : A → Next W A) (i j : ℕ) (a : A)
    → local_run step (i + j) a ≡ then (local_run step i a) (local_run step j)
run_add step zero j a = let e : 0 + j ≡ j = omega arith in ap (λ (n : ℕ). local_run step n a) e
run_add step (suc i) j a =
    let e : suc i + j ≡ suc (i + j) = omega arith in
    ap (λ (n : ℕ). local_run step n a) e ∙ then_then (step a) (local_run step (i + j))
    (local_run step i) (local_run step j) (run_add step i j)

pub run_on : {W A : Type 0} (step : A → Next W A) (i j : ℕ) (a b : A) (r : Next W A)
    → local_run step i a ≡ Goes b → local_run step j b ≡ r → local_run step (i + j) a ≡ r
run_on step i j a b r e f = run_add step i j a ∙ ap (λ x. then x (local_run step j)) e ∙ f
