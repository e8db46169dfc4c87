-- Registers after a write, and those of a list.
use Rattle.std.proofs.Common.{◌≡◌, ◌≢◌, ℕ, zero, suc, ℤ, pos, List, [], ◌∷◌, refl, ap}
use Rattle.std.specs.Prelude.{slice_index_or}
use Rattle.code_meaning.specs.Code.{register_at, put_register}

pub at_put_same : (vs : List ℤ) (n : ℕ) (v : ℤ) → register_at (put_register vs n v) n ≡ v
at_put_same [] zero v = refl
at_put_same [] (suc n) v = at_put_same [] n v
at_put_same (u ∷ us) zero v = refl
at_put_same (u ∷ us) (suc n) v = at_put_same us n v

pub at_put_other : (vs : List ℤ) (n m : ℕ) (v : ℤ) → m ≢ n → register_at (put_register vs n v) m
    ≡ register_at vs m
at_put_other [] zero zero v other = absurd (other refl)
at_put_other [] zero (suc m) v other = refl
at_put_other [] (suc n) zero v other = refl
at_put_other [] (suc n) (suc m) v other = at_put_other [] n m v (λ e. other (ap suc e))
at_put_other (u ∷ us) zero zero v other = absurd (other refl)
at_put_other (u ∷ us) zero (suc m) v other = refl
at_put_other (u ∷ us) (suc n) zero v other = refl
at_put_other (u ∷ us) (suc n) (suc m) v other = at_put_other us n m v (λ e. other (ap suc e))

pub register_at-is : (vs : List ℤ) (n : ℕ) → register_at vs n ≡ slice_index_or vs n (pos 0)
register_at-is [] n = refl
register_at-is (u ∷ us) zero = refl
register_at-is (u ∷ us) (suc n) = register_at-is us n
