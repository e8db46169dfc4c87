-- Rows of a table that is seen through a function.
use Rattle.std.proofs.Common.{◌≡◌, ◌<◌, ◌+◌, ◌-◌, ℕ, zero, suc, List, [], ◌∷◌, length}
use Rattle.std.proofs.Common.{replicate, drop, refl, subst, sym, ◌∙◌, ◌++◌, append_assoc}
use Rattle.std.proofs.Common.{ap, arith}
use Rattle.clobber_pass.specs.inside.Sweep.{slot_after, call_from}
use Rattle.clobber_pass.specs.inside.Closed.{entry_word, entry_from}
use Rattle.clobber_pass.specs.inside.Flow.{enter_word, enter_from}

pub replicate_next : (n k : ℕ) (row : List ℕ) → k < n
    → replicate (n - k) row ≡ row ∷ replicate (n - (k + 1)) row
replicate_next n k row less = let e : n - k ≡ suc (n - (k + 1)) = omega arith in rw e refl

pub one_more : (rows new : List (List ℕ)) (n k : ℕ) → k < n → new ≡ rows ++ [] ∷ []
    → rows ++ replicate (n - k) [] ≡ replicate n [] → new ++ replicate (n - (k + 1)) []
    ≡ replicate n []
one_more rows new n k less is all =
    ap (λ t. t ++ replicate (n - (k + 1)) []) is
    ∙ append_assoc rows ([] ∷ []) (replicate (n - (k + 1)) [])
    ∙ ap (λ t. rows ++ t) (sym (replicate_next n k [] less)) ∙ all

pub pushed : (new old rest all : List ℕ) (w : ℕ) → new ≡ old ++ w ∷ [] → old ++ w ∷ rest ≡ all
    → new ++ rest ≡ all
pushed new old rest all w is is_all =
    ap (λ t. t ++ rest) is ∙ append_assoc old (w ∷ []) rest ∙ is_all

-- the words after a call, from the next slot on
call_suc : (exits : List (List ℕ)) (to : ℕ) (args row words : List ℕ) (k s : ℕ) → k < length words
    → call_from exits to args row s (drop k words) ≡ slot_after exits to args row s
    ∷ call_from exits to args row (s + 1) (drop (suc k) words)
call_suc exits to args row [] k s less = absurd (omega arith)
call_suc exits to args row (w ∷ words) zero s less = refl
call_suc exits to args row (w ∷ words) (suc k) s less =
    call_suc exits to args row words k s (omega arith)

pub call_next : (exits : List (List ℕ)) (to : ℕ) (args row words : List ℕ) (k s : ℕ)
    → k < length words → call_from exits to args row s (drop k words) ≡ slot_after exits to
    args row s
    ∷ call_from exits to args row (s + 1) (drop (k + 1) words)
call_next exits to args row words k s less =
    let e : suc k ≡ k + 1 = omega arith in
    subst (λ j. call_from exits to args row s (drop k words) ≡ slot_after exits to args row s
    ∷ call_from exits to args row (s + 1) (drop j words)) e
    (call_suc exits to args row words k s less)

pub entry_next : (n c s w : ℕ) → s < w → entry_from n c s (w - s) ≡ entry_word n c s
    ∷ entry_from n c (s + 1) (w - (s + 1))
entry_next n c s w less = let e : w - s ≡ suc (w - (s + 1)) = omega arith in rw e refl

pub enter_next : (args row : List ℕ) (s w : ℕ) → s < w
    → enter_from args row s (w - s) ≡ enter_word args row s ∷ enter_from args row (s + 1)
    (w - (s + 1))
enter_next args row s w less = let e : w - s ≡ suc (w - (s + 1)) = omega arith in rw e refl
