-- Slots whose objects all fit.
use Rattle.std.proofs.Common.{ℕ, zero, suc, List, [], ◌∷◌, Option, None, IfSome, set}
use Rattle.std.specs.Prelude.{slice_index_or}
use Rattle.std.specs.List.{AllByRecursion}
use Rattle.pool_map.specs.declared.object.Object.{Object}

pub slot_put : (P : Object → Type 0) (slots : List (Option Object)) (i : ℕ) (o : Option Object)
    → AllByRecursion (λ slot. IfSome slot P) slots → IfSome o P
    → AllByRecursion (λ slot. IfSome slot P) (set slots i o)
slot_put P [] i o all fits = tt
slot_put P (slot ∷ slots) zero o all fits = (fits, all.1)
slot_put P (slot ∷ slots) (suc i) o all fits = (all.0, slot_put P slots i o all.1 fits)

pub slot_all : (P : Object → Type 0) (slots : List (Option Object)) (i : ℕ)
    → AllByRecursion (λ slot. IfSome slot P) slots → IfSome (slice_index_or slots i None) P
slot_all P [] i all = tt
slot_all P (slot ∷ slots) zero all = all.0
slot_all P (slot ∷ slots) (suc i) all = slot_all P slots i all.1
