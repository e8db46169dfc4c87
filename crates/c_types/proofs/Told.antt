-- The least broken rule of two lists, one after the other, and of a list without any.
use Rattle.std.proofs.Common.{◌≡◌, List, [], ◌∷◌, ◌++◌, Bool, true, false, refl}
use Rattle.std.specs.Prelude.{Option, None, Some, if◌then◌else◌}
use Rattle.c_types.specs.declared.broken.Broken.{Broken}
use Rattle.c_types.specs.Broken.{least_from, lesser, is_before}

pub told_append : (kept : Option Broken) (xs ys : List Broken)
    → least_from kept (xs ++ ys) ≡ least_from (least_from kept xs) ys
told_append kept [] ys = refl
told_append kept (x ∷ xs) ys = told_append (lesser kept x) xs ys

told_either : (t : Bool) (x b : Broken) (xs ys : List Broken)
    → (least_from (Some x) xs ≡ None → ys ≡ []) → (least_from (Some b) xs ≡ None → ys ≡ [])
    → least_from (if t then Some x else Some b) xs ≡ None → ys ≡ []
told_either true x b xs ys one other e = one e
told_either false x b xs ys one other e = other e

told_some : (b : Broken) (xs ys : List Broken) → least_from (Some b) xs ≡ None → ys ≡ []
told_some b [] ys e = absurd (cc e)
told_some b (x ∷ xs) ys e = told_either (is_before x b) x b xs ys (λ h. told_some x xs ys h)
    (λ h. told_some b xs ys h) e

-- if nothing is reported, no rule is broken
pub told_none : (xs : List Broken) → least_from None xs ≡ None → xs ≡ []
told_none [] e = refl
told_none (x ∷ xs) e = told_some x xs (x ∷ xs) e

pub ruleset laws = (told_append, told_none)
