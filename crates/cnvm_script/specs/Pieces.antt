-- A text is cut into pieces at each byte that is one of the stops. The stops belong to no piece,
-- and there is one piece more than there are stops in the text; a piece may be empty.
use Rattle.std.specs.Prelude.{ℕ, Bool, List, [], ◌∷◌, ◌++◌, nat_eq, if◌then◌else◌}
use Rattle.std.specs.List.{list_any}

abbrev pub is_one_of : List ℕ → ℕ → Bool
is_one_of stops b = list_any (λ stop. nat_eq stop b) stops

-- the pieces, with more bytes at the front of the first one
abbrev pub fronted : List ℕ → List (List ℕ) → List (List ℕ)
fronted front [] = front ∷ []
fronted front (piece ∷ pieces) = (front ++ piece) ∷ pieces

abbrev pub pieces : List ℕ → List ℕ → List (List ℕ)
pieces stops [] = [] ∷ []
pieces stops (b ∷ bs) = if is_one_of stops b then [] ∷ pieces stops bs
    else fronted (b ∷ []) (pieces stops bs)
