-- Whether a number is one of a list.
use Rattle.std.specs.Prelude.{ℕ, List, [], ◌∷◌, Bool, false, ◌||◌, ◌==◌}

abbrev pub is_listed : ℕ → List ℕ → Bool
is_listed l [] = false
is_listed l (k ∷ ks) = (l == k) || is_listed l ks
