-- Why no two functions of the C file have one name.
use Rattle.std.specs.Prelude.{ℕ, List, [], ◌∷◌, ◌≡◌, codes}
use Rattle.std.specs.List.{AllByRecursion}
use Rattle.cnvm_emit.specs.Name.{c_name}

-- the functions on pools, after the prefix and a `_`
abbrev pub pool_functions : List (List ℕ)
pool_functions =
    codes "pool_create" ∷ codes "pool_open" ∷ codes "pool_close" ∷ codes "pool_done"
    ∷ codes "pool_last" ∷ codes "pool_events" ∷ []

abbrev pub AreApart : Type 0
AreApart = (a b : List ℕ) → c_name a ≡ c_name b → a ≡ b

abbrev pub AreFree : Type 0
AreFree = (name : List ℕ) → AllByRecursion (λ own. c_name name ≡ own → ⊥) pool_functions
