-- The words and the objects of a heap, one after another.
use Rattle.std.proofs.Common.{◌≡◌, ℕ, suc, ℤ, List, [], ◌∷◌, ◌++◌, Option, subst}
use Rattle.std.proofs.lemmas.List.{append_assoc}
use Rattle.pool_layout.specs.declared.limits.Sizes.{Sizes}
use Rattle.pool_layout.specs.Sizes.{slot_word}
use Rattle.pool_map.specs.declared.object.Object.{Object}
use Rattle.pool_map.specs.declared.shapes.StructShape.{StructShape}
use Rattle.pm_machine.specs.HeapPool.{words_from, object_in, objects_from}

pub words_more : (h : ℕ → ℤ) (w next n m : ℕ) → next ≡ suc w → n ≡ suc m
    → (old new total : List ℤ) (x : ℤ) → x ≡ h w → new ≡ old ++ x ∷ []
    → old ++ words_from h w n ≡ total → new ++ words_from h next m ≡ total
words_more h w next n m next_is n_is old new total x x_is new_is was =
    let step : old ++ words_from h w (suc m) ≡ total =
    subst (λ (i : ℕ). old ++ words_from h w i ≡ total) n_is was in
    rw (next_is, new_is, x_is, append_assoc) step

pub objects_more : (s : Sizes) (structs : List StructShape) (h : ℕ → ℤ) (slot next n m : ℕ)
    → next ≡ suc slot → n ≡ suc m
    → (old new total : List (Option Object)) (x : Option Object)
    → x ≡ object_in s structs h (slot_word s slot) → new ≡ old ++ x ∷ []
    → old ++ objects_from s structs h slot n ≡ total
    → new ++ objects_from s structs h next m ≡ total
objects_more s structs h slot next n m next_is n_is old new total x x_is new_is was =
    let step : old ++ objects_from s structs h slot (suc m) ≡ total =
    subst (λ (i : ℕ). old ++ objects_from s structs h slot i ≡ total) n_is was in
    rw (next_is, new_is, x_is, append_assoc) step
