-- The words of registers of which only the first are kept, and all others are 0.
use Rattle.std.proofs.Common.{◌≡◌, ◌∙◌, ℕ, ◌+◌, ◌-◌, ◌<◌, ◌≤◌, List, ◌++◌}
use Rattle.std.proofs.Common.{length, get_or, set, replicate, ℤ, pos, refl, sym, ap}
use Rattle.std.proofs.Common.{arith, append_assoc, length-set, length-append}
use Rattle.std.proofs.lemmas.List.{length-replicate, get_or_append_left}
use Rattle.std.proofs.lemmas.List.{get_or-append_right, set-append_left, set_past}
use Rattle.std.proofs.lemmas.List.{replicate-append-replicate}
use Rattle.cache_model.proofs.Lists.{zeros_at}
use Rattle.pm_machine.specs.inside.Kept.{all_words}

pub kept_length : (n : ℕ) (xs : List ℤ) → length xs ≤ n → length (all_words n xs) ≡ n
kept_length n xs le =
    length-append xs (replicate (n - length xs) (pos 0))
    ∙ ap (λ (k : ℕ). length xs + k) (length-replicate (n - length xs) (pos 0)) ∙ omega arith

pub kept_split : (n : ℕ) (xs : List ℤ) → length xs ≤ n
    → all_words n xs ≡ xs ++ replicate (length (all_words n xs) - length xs) (pos 0)
kept_split n xs le =
    ap (λ (k : ℕ). xs ++ replicate (k - length xs) (pos 0)) (sym (kept_length n xs le))

-- zeros_at that are kept are as zeros_at that aren't
pub zeros_kept : (n k : ℕ) (xs ys : List ℤ) → length xs ≤ k → k ≤ n
    → ys ≡ xs ++ replicate (k - length xs) (pos 0)
    → (all_words n ys ≡ all_words n xs) × (length ys ≡ k)
zeros_kept n k xs ys le few is =
    let long : length ys ≡ k = ap (λ (l : List ℤ). length l) is ∙ kept_length k xs le in
    let rest : k - length xs + (n - k) ≡ n - length xs = omega arith in (
      ap (λ (j : ℕ). ys ++ replicate (n - j) (pos 0)) long
          ∙ ap (λ (l : List ℤ). l ++ replicate (n - k) (pos 0)) is
          ∙ append_assoc xs (replicate (k - length xs) (pos 0)) (replicate (n - k) (pos 0))
          ∙ ap (λ (l : List ℤ). xs ++ l) (replicate-append-replicate (k - length xs) (n - k)
          (pos 0))
          ∙ ap (λ (j : ℕ). xs ++ replicate j (pos 0)) rest,
      long,
    )

pub word_kept : (n r : ℕ) (xs : List ℤ) → r < length xs
    → get_or (all_words n xs) r (pos 0) ≡ get_or xs r (pos 0)
word_kept n r xs lt = get_or_append_left xs (replicate (n - length xs) (pos 0)) (pos 0) r lt

pub word_blank : (n r : ℕ) (xs : List ℤ) → length xs ≤ r
    → get_or (all_words n xs) r (pos 0) ≡ pos 0
word_blank n r xs le =
    get_or-append_right xs (replicate (n - length xs) (pos 0)) (length xs) r (pos 0) refl le
    ∙ zeros_at (n - length xs) (r - length xs)

-- a register that is kept is written
pub kept_set : (n r : ℕ) (x : ℤ) (xs : List ℤ) → r < length xs
    → all_words n (set xs r x) ≡ set (all_words n xs) r x
kept_set n r x xs lt =
    ap (λ (k : ℕ). set xs r x ++ replicate (n - k) (pos 0)) (length-set xs r x)
    ∙ sym (set-append_left xs (replicate (n - length xs) (pos 0)) r x lt)

-- a register is written once it is kept
pub more_set : (n r : ℕ) (x : ℤ) (xs ys : List ℤ) → r < length ys
    → all_words n ys ≡ all_words n xs → all_words n (set ys r x) ≡ set (all_words n xs) r x
more_set n r x xs ys lt same =
    kept_set n r x ys lt ∙ ap (λ (l : List ℤ). set l r x) same

-- a register that doesn't exist isn't written
pub kept_past : (n r : ℕ) (x : ℤ) (xs : List ℤ) → length xs ≤ n → n ≤ r
    → set (all_words n xs) r x ≡ all_words n xs
kept_past n r x xs le past =
    set_past (all_words n xs) r x (let long = kept_length n xs le in omega (arith, long, past))
