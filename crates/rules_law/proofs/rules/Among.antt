-- What is among the broken rules of lists put together, of a rule that is reported unless something
-- holds, and of a list that was made one after another.
use Rattle.std.proofs.Common.{◌≡◌, ℕ, zero, suc, ◌+◌, inl, inr, Bool, true, false, List, []}
use Rattle.std.proofs.Common.{◌∷◌, ◌++◌, refl, sym, subst, arith}
use Rattle.std.specs.Prelude.{slice_get, Some}
use Rattle.std.proofs.lemmas.Option.{none-some, same_Some}
use Rattle.c_types.specs.declared.broken.Broken.{Broken}
use Rattle.c_types.specs.declared.broken.Rule.{Rule}
use Rattle.c_types.specs.Broken.{broken_at, unless}
use Rattle.c_types.specs.LeastLaw.{IsAmong}
use Rattle.rules_law.proofs.typed.Programs.{plus_zero, zero_plus}

abbrev pub Told : Rule → ℕ → Broken
Told rule place = record { place = place; rule = rule }

pub among_left : (xs ys : List Broken) (b : Broken) → IsAmong b xs → IsAmong b (xs ++ ys)
among_left [] ys b h = absurd h
among_left (x ∷ xs) ys b (inl h) = inl h
among_left (x ∷ xs) ys b (inr h) = inr (among_left xs ys b h)

pub among_right : (xs ys : List Broken) (b : Broken) → IsAmong b ys → IsAmong b (xs ++ ys)
among_right [] ys b h = h
among_right (x ∷ xs) ys b h = inr (among_right xs ys b h)

pub either : {C : Type 0} (xs ys : List Broken) (b : Broken) → IsAmong b (xs ++ ys)
    → (IsAmong b xs → C) → (IsAmong b ys → C) → C
either [] ys b h f g = g h
either (x ∷ xs) ys b (inl h) f g = f (inl h)
either (x ∷ xs) ys b (inr h) f g = either xs ys b h (λ k. f (inr k)) g

-- a rule at a place
pub one_of : (P : Rule → ℕ → Type 0) (b : Broken) (place : ℕ) (rule : Rule)
    → IsAmong b (broken_at place rule) → P rule place → P b.rule b.place
one_of P b place rule (inl e) h = subst (λ (b : Broken). P b.rule b.place) (sym e) h
one_of P b place rule (inr e) h = absurd e

pub unless_of : (P : Rule → ℕ → Type 0) (b : Broken) (holds : Bool) (place : ℕ) (rule : Rule)
    → IsAmong b (unless holds place rule) → (holds ≡ false → P rule place) → P b.rule b.place
unless_of P b true place rule e h = absurd e
unless_of P b false place rule e h = one_of P b place rule e (h refl)

pub unless_told : (holds : Bool) (place : ℕ) (rule : Rule) → holds ≡ false
    → IsAmong (Told rule place) (unless holds place rule)
unless_told holds place rule e = rw e (inl refl)

-- the lists that are made of each element and its place, from place i on
abbrev pub each : {A : Type 0} → (ℕ → A → List Broken) → ℕ → List A → List Broken
each f i [] = []
each f i (x ∷ xs) = f i x ++ each f (i + 1) xs

plus_next : (i j : ℕ) → (i + 1) + j ≡ i + suc j
plus_next i j = omega arith

each_from : {A C : Type 0} (f : ℕ → A → List Broken) (i : ℕ) (xs : List A) (b : Broken)
    → IsAmong b (each f i xs)
    → ((j : ℕ) (x : A) → slice_get xs j ≡ Some x → IsAmong b (f (i + j) x) → C) → C
each_from f i [] b h g = absurd h
each_from f i (x ∷ xs) b h g = either (f i x) (each f (i + 1) xs) b h
    (λ k. g 0 x refl (subst (λ n. IsAmong b (f n x)) (sym (plus_zero i)) k))
    (λ k. each_from f (i + 1) xs b k (λ j y is m. g (suc j) y is
    (subst (λ n. IsAmong b (f n y)) (plus_next i j) m)))

from_each : {A : Type 0} (f : ℕ → A → List Broken) (i : ℕ) (xs : List A) (b : Broken) (j : ℕ)
    (x : A) → slice_get xs j ≡ Some x → IsAmong b (f (i + j) x) → IsAmong b (each f i xs)
from_each f i [] b j x is h = absurd (none-some x is)
from_each f i (y ∷ xs) b zero x is h = among_left (f i y) (each f (i + 1) xs) b
    (subst (λ z. IsAmong b (f i z)) (sym (same_Some y x is))
    (subst (λ n. IsAmong b (f n x)) (plus_zero i) h))
from_each f i (y ∷ xs) b (suc j) x is h = among_right (f i y) (each f (i + 1) xs) b
    (from_each f (i + 1) xs b j x is (subst (λ n. IsAmong b (f n x)) (sym (plus_next i j)) h))

pub each_of : {A C : Type 0} (f : ℕ → A → List Broken) (xs : List A) (b : Broken)
    → IsAmong b (each f 0 xs)
    → ((j : ℕ) (x : A) → slice_get xs j ≡ Some x → IsAmong b (f j x) → C) → C
each_of f xs b h g = each_from f 0 xs b h
    (λ j x is k. g j x is (subst (λ n. IsAmong b (f n x)) (zero_plus j) k))

pub of_each : {A : Type 0} (f : ℕ → A → List Broken) (xs : List A) (b : Broken) (j : ℕ) (x : A)
    → slice_get xs j ≡ Some x → IsAmong b (f j x) → IsAmong b (each f 0 xs)
of_each f xs b j x is h = from_each f 0 xs b j x is
    (subst (λ n. IsAmong b (f n x)) (sym (zero_plus j)) h)
