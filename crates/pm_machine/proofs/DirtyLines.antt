-- The dirty lines: those that were stored to, without the first ones, which are flushed.
use Rattle.std.proofs.Common.{◌≡◌, ℕ, zero, suc, ◌+◌, List, [], ◌∷◌, drop, refl, sym, ◌∙◌}
use Rattle.std.specs.Prelude.{slice_get, remove, nat_eq, Some, true, false}
use Rattle.std.specs.Option.{option_map_or}
use Rattle.std.specs.List.{list_any}
use Rattle.indexmap.specs.IndexSet.{insert_key}
use Rattle.std.proofs.lemmas.List.{drop-drop}
use Rattle.std.proofs.lemmas.Bool.{eq-eqb, eqb-true, or_left, or_right}

first_out : (keys : List ℕ) → remove keys 0 ≡ drop 1 keys
first_out [] = refl
first_out (l ∷ keys) = refl

pub next_out : (keys : List ℕ) (n : ℕ) → drop 1 (drop n keys) ≡ drop (n + 1) keys
next_out keys n = drop-drop 1 n keys

pub one_out : (keys : List ℕ) (n : ℕ) → remove (drop n keys) 0 ≡ drop (n + 1) keys
one_out keys n = first_out (drop n keys) ∙ next_out keys n

pub first_in : (keys : List ℕ) (n : ℕ) → slice_get (drop n keys) 0 ≡ slice_get keys n
first_in keys zero = refl
first_in [] (suc n) = refl
first_in (l ∷ keys) (suc n) = first_in keys n

is_there : (keys : List ℕ) (n l : ℕ) → option_map_or (nat_eq l) (slice_get keys n) false ≡ true
    → list_any (nat_eq l) keys ≡ true
is_there [] n l is = is
is_there (k ∷ keys) zero l is = or_left (nat_eq l k) (list_any (nat_eq l) keys) is
is_there (k ∷ keys) (suc n) l is =
    or_right (nat_eq l k) (list_any (nat_eq l) keys) (is_there keys n l is)

-- a line that is there stays where it is
pub put_again : (keys : List ℕ) (n k l : ℕ) → Some k ≡ slice_get keys n → nat_eq k l ≡ true
    → insert_key nat_eq keys l ≡ keys
put_again keys n k l is same =
    rw (is_there keys n l (rw (← is) (eq-eqb l k (sym (eqb-true k l same))))) refl
