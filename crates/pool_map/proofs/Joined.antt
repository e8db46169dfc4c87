-- The text of a list's elements that is made from its first element on.
use Rattle.std.proofs.Common.{rules, ◌≡◌, ◌++◌, length, ℕ, ◌-◌, ◌≤◌, List, [], ◌∷◌, ℤ, pos}
use Rattle.std.proofs.Common.{take, drop, flat_map, slice_index_or, take_all, sym, ap, ◌∙◌}
use Rattle.std.proofs.Common.{append-nil, append_assoc}
use Rattle.std.proofs.lemmas.List.{drop_all}
use Rattle.std.specs.List.{join_by}

-- `rest` are the elements after the first one, of which those from place i on are left
follow : (f g : ℤ → List ℕ) (text middle before : List ℕ) (x : ℤ) (xs rest : List ℤ) (i : ℕ)
    → rest ≡ xs → length rest ≤ i
    → text ++ flat_map g (drop i rest) ≡ middle ++ flat_map g rest
    → middle ≡ before ++ f x → text ≡ before ++ (f x ++ flat_map g xs)
follow f g text middle before x xs rest i same past leads made =
    sym (append-nil text) ∙ ap (λ l. text ++ flat_map g l) (sym (drop_all i rest past)) ∙ leads
    ∙ ap (λ l. middle ++ flat_map g l) same ∙ ap (λ m. m ++ flat_map g xs) made
    ∙ append_assoc before (f x) (flat_map g xs)

pub joined : (f : ℤ → List ℕ) (separator text middle before : List ℕ) (words : List ℤ) (i : ℕ)
    → 1 ≤ length words → length (take (length words - 1) (drop 1 words)) ≤ i
    → text ++ flat_map (λ y. separator ++ f y) (drop i (take (length words - 1) (drop 1 words)))
    ≡ middle ++ flat_map (λ y. separator ++ f y) (take (length words - 1) (drop 1 words))
    → middle ≡ before ++ f (slice_index_or words 0 (pos 0))
    → text ≡ before ++ join_by f separator words
joined f separator text middle before [] i has past leads made = search rules
joined f separator text middle before (x ∷ xs) i has past leads made =
    let all : take (length (x ∷ xs) - 1) xs ≡ xs =
    take_all (length (x ∷ xs) - 1) xs (search rules) in
    follow f (λ y. separator ++ f y) text middle before x xs _ i all past leads made
