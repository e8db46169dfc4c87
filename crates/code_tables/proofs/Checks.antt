-- From tests of lists to facts about each element.
use Rattle.std.proofs.Common.{◌≡◌, ℕ, suc, ◌+◌, ◌-◌, ◌<◌, List, [], ◌∷◌, length, get_or, drop}
use Rattle.std.proofs.Common.{arith}
use Rattle.std.specs.Prelude.{None, Some, slice_get}
use Rattle.std.specs.List.{AllByRecursion}
use Rattle.std.proofs.lemmas.List.{drop_more}
use Rattle.std.proofs.lemmas.Option.{same_Some}
use Rattle.ir.specs.declared.instruction.Instruction.{Instruction}
use Rattle.ir.specs.WellFormed.{EndsWell, StopsRun}

-- what holds of the element here and of those after it
pub all_from : {A : Type 0} (P : A → Type 0) (xs : List A) (i : ℕ) (x : A) → i < length xs
    → x ≡ get_or xs i x → P x → AllByRecursion P (drop (i + 1) xs) → AllByRecursion P (drop i xs)
all_from P xs i x lt is here rest = rw (drop_more xs i x lt, ← is) (here, rest)

pub all_after : {A : Type 0} (P : A → Type 0) (xs : List A) (i : ℕ) (x : A) → i < length xs
    → AllByRecursion P (drop i xs) → AllByRecursion P (drop (i + 1) xs)
all_after P xs i x lt all = (rw (drop_more xs i x lt) at all).1

pub ends_well : (xs : List Instruction) (x : Instruction) → slice_get xs (length xs - 1) ≡ Some x
    → StopsRun x → EndsWell xs
ends_well [] x is end = absurd (some_none is)
  where
    some_none : {x : Instruction} → None ≡ Some x → ⊥
    some_none e = cc
ends_well (y ∷ []) x is end = rw (same_Some y x is) end
ends_well (y ∷ z ∷ zs) x is end = ends_well (z ∷ zs) x (one_less is) end
  where
    one_less : slice_get (y ∷ z ∷ zs) (length (y ∷ z ∷ zs) - 1) ≡ Some x
        → slice_get (z ∷ zs) (length (z ∷ zs) - 1) ≡ Some x
    one_less e = let n : length (y ∷ z ∷ zs) - 1 ≡ suc (length (z ∷ zs) - 1) = omega arith in
        rw n at e

-- and the converse
pub last_ends : (xs : List Instruction) (x : Instruction) → slice_get xs (length xs - 1) ≡ Some x
    → EndsWell xs → StopsRun x
last_ends [] x is end = absurd end
last_ends (y ∷ []) x is end = rw (← same_Some y x is) end
last_ends (y ∷ z ∷ zs) x is end = last_ends (z ∷ zs) x (one_less is) end
  where
    one_less : slice_get (y ∷ z ∷ zs) (length (y ∷ z ∷ zs) - 1) ≡ Some x
        → slice_get (z ∷ zs) (length (z ∷ zs) - 1) ≡ Some x
    one_less e = let n : length (y ∷ z ∷ zs) - 1 ≡ suc (length (z ∷ zs) - 1) = omega arith in
        rw n at e

pub none_ends : (xs : List Instruction) → slice_get xs (length xs - 1) ≡ None → EndsWell xs → ⊥
none_ends [] is end = end
none_ends (y ∷ []) is end = some_none is
  where
    some_none : Some y ≡ None → ⊥
    some_none e = cc
none_ends (y ∷ z ∷ zs) is end = none_ends (z ∷ zs) (one_less is) end
  where
    one_less : slice_get (y ∷ z ∷ zs) (length (y ∷ z ∷ zs) - 1) ≡ None
        → slice_get (z ∷ zs) (length (z ∷ zs) - 1) ≡ None
    one_less e = let n : length (y ∷ z ∷ zs) - 1 ≡ suc (length (z ∷ zs) - 1) = omega arith in
        rw n at e

pub ruleset ends = (ends_well, last_ends, none_ends)
