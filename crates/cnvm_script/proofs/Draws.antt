-- One more of the draws that are left.
use Rattle.std.proofs.Common.{◌++◌, [], List, append_assoc, ◌≡◌, ℕ, ◌+◌, ◌-◌, ◌%◌, ◌<◌, suc, ◌∷◌, ℤ}
use Rattle.std.proofs.Common.{pos, refl, arith}
use Rattle.cnvm_script.specs.Storm.{next_draw, drawn, arguments, after_draws}

pub arguments_next : (x n k : ℕ) → k < n → arguments x (n - k) ≡ pos (drawn x % 16)
    ∷ arguments (next_draw x) (n - (k + 1))
arguments_next x n k more = let e : n - k ≡ suc (n - (k + 1)) = omega arith in rw e refl

pub after_next : (x n k : ℕ) → k < n
    → after_draws x (n - k) ≡ after_draws (next_draw x) (n - (k + 1))
after_next x n k more = let e : n - k ≡ suc (n - (k + 1)) = omega arith in rw e refl

-- one more of the arguments that are left
pub one_more : (x n k : ℕ) (done more total : List ℤ) (x' : ℕ) → k < n → x' ≡ next_draw x
    → more ≡ done ++ pos (drawn x % 16) ∷ [] → done ++ arguments x (n - k) ≡ total
    → more ++ arguments x' (n - (k + 1)) ≡ total
one_more x n k done more total x' left at is was =
    rw (
      is,
      at,
      append_assoc done (pos (drawn x % 16) ∷ []) (arguments (next_draw x) (n - (k + 1))),
      ← arguments_next x n k left,
    ) was
