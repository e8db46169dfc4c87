-- The top of a stack is the last element of its vector.
use Rattle.std.proofs.Common.{◌≡◌, ℕ, zero, suc, ◌-◌, ◌≤◌, ◌⊎◌, inl, inr, List, [], ◌∷◌, ◌++◌}
use Rattle.std.proofs.Common.{length, take, drop, reverse, refl, sym, ap, subst, ◌∙◌, arith}
use Rattle.std.proofs.lemmas.List.{reverse-append, length-reverse, take-append-drop, length-drop}
use Rattle.std.proofs.lemmas.List.{reverse-reverse}
use Rattle.std.proofs.Math.Seq.{drop-append_seam, take-append_seam}
use Rattle.std.proofs.Math.ListN.{drop_of_length-le}

pub reverse-one_more : {A : Type 0} (xs : List A) (x : A) → reverse (xs ++ x ∷ []) ≡ x ∷ reverse xs
reverse-one_more xs x = reverse-append xs (x ∷ [])

pub ruleset tops = (reverse-one_more)

le_or : (m n : ℕ) → (m ≤ n) ⊎ (n ≤ m)
le_or zero n = inl (omega arith)
le_or (suc m) zero = inr (omega arith)
le_or (suc m) (suc n) = elim (le_or m n) [
  | inl h ↦ inl (omega (arith, h))
  | inr h ↦ inr (omega (arith, h))
]

drop-reverse : {A : Type 0} (n : ℕ) (xs ys : List A) → length ys ≡ n
    → drop n (reverse (xs ++ ys)) ≡ reverse xs
drop-reverse n xs ys is =
    rw reverse-append (subst (λ m. drop m (reverse ys ++ reverse xs) ≡ reverse xs)
    (length-reverse ys ∙ is) (drop-append_seam (reverse ys) (reverse xs)))

take-reverse : {A : Type 0} (n : ℕ) (xs ys : List A) → length ys ≡ n
    → take n (reverse (xs ++ ys)) ≡ reverse ys
take-reverse n xs ys is =
    rw reverse-append (subst (λ m. take m (reverse ys ++ reverse xs) ≡ reverse ys)
    (length-reverse ys ∙ is) (take-append_seam (reverse ys) (reverse xs)))

take_all : {A : Type 0} (n : ℕ) (xs : List A) → length xs ≤ n → take n xs ≡ xs
take_all zero [] le = refl
take_all (suc n) [] le = refl
take_all zero (x ∷ xs) le = absurd (omega arith)
take_all (suc n) (x ∷ xs) le = ap (λ l. x ∷ l) (take_all n xs (omega (arith, le)))

-- the oldest elements, and the newest n
pub reverse-take : {A : Type 0} (n : ℕ) (xs : List A) → reverse (take (length xs - n) xs)
    ≡ drop n (reverse xs)
reverse-take n xs = elim (le_or n (length xs)) [
  | inl le ↦ sym (subst (λ l. drop n (reverse l) ≡ reverse (take (length xs - n) xs))
      (take-append-drop (length xs - n) xs)
      (drop-reverse n (take (length xs - n) xs) (drop (length xs - n) xs)
      (length-drop (length xs - n) xs ∙ omega (arith, le))))
  | inr ge ↦ let none : length xs - n ≡ 0 = omega (arith, ge) in
      let short : length (reverse xs) ≤ n = omega (arith, length-reverse xs, ge) in
      rw none (sym (drop_of_length-le (reverse xs) short))
]

pub drop-newest : {A : Type 0} (n : ℕ) (xs : List A)
    → drop (length xs - n) xs ≡ reverse (take n (reverse xs))
drop-newest n xs = elim (le_or n (length xs)) [
  | inl le ↦ sym (ap reverse (subst (λ l. take n (reverse l) ≡ reverse (drop (length xs - n) xs))
      (take-append-drop (length xs - n) xs)
      (take-reverse n (take (length xs - n) xs) (drop (length xs - n) xs)
      (length-drop (length xs - n) xs ∙ omega (arith, le))))
      ∙ reverse-reverse (drop (length xs - n) xs))
  | inr ge ↦ let none : length xs - n ≡ 0 = omega (arith, ge) in
      let short : length (reverse xs) ≤ n = omega (arith, length-reverse xs, ge) in
      rw none (sym (ap reverse (take_all n (reverse xs) short) ∙ reverse-reverse xs))
]
