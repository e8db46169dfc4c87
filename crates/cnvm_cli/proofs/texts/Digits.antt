-- Texts that are written one after another.
use Rattle.std.proofs.Common.{◌≡◌, ℕ, List, ◌++◌, ap, ◌∙◌, append_assoc}

pub appended_both : (old mid new xs ys : List ℕ) → mid ≡ old ++ xs → new ≡ mid ++ ys
    → new ≡ old ++ (xs ++ ys)
appended_both old mid new xs ys first second =
    second ∙ ap (λ l. l ++ ys) first ∙ append_assoc old xs ys
