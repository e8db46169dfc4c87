-- Joined rows, and tables after one row was written.
use Rattle.std.proofs.Common.{◌≡◌, ◌<◌, ◌≤◌, ◌+◌, ℕ, zero, suc, true, List, [], ◌∷◌, length}
use Rattle.std.proofs.Common.{replicate, refl, sym, ◌∙◌, ap, subst, arith, inl, inr, ⊎_elim}
use Rattle.std.specs.Prelude.{slice_set, bit_or}
use Rattle.std.proofs.lemmas.Bool.{false≢true, cases_lt, or_right, or_cases}
use mathlib.Core.Logic.{◌⊎◌}
use Rattle.clobber_pass.specs.Row.{word, has_bit, tells}
use Rattle.clobber_pass.specs.Sweep.{row_in}
use Rattle.clobber_pass.specs.inside.Sweep.{exits_of, or_from, row_joined}
use Rattle.clobber_pass.proofs.bits.Bits.{has_bit_zero, has_bit_or}

pub word_past : (row : List ℕ) (s : ℕ) → length row ≤ s → word row s ≡ 0
word_past [] s past = refl
word_past (w ∷ row) zero past = absurd (omega arith)
word_past (w ∷ row) (suc s) past = word_past row s (omega arith)

-- what a row records is in one of its slots
pub tells_inside : (row : List ℕ) (x s : ℕ) → tells row x s ≡ true → s < length row
tells_inside row x s h =
    ⊎_elim (λ (less : s < length row). less)
    (λ (past : length row ≤ s). absurd
    (false≢true (sym (ap (has_bit x) (word_past row s past) ∙ has_bit_zero x) ∙ h)))
    (cases_lt s (length row))

pub word_zeros : (n s : ℕ) → word (replicate n 0) s ≡ 0
word_zeros zero s = refl
word_zeros (suc n) zero = refl
word_zeros (suc n) (suc s) = word_zeros n s

pub length_or : (more ws : List ℕ) (k : ℕ) → length (or_from more k ws) ≡ length ws
length_or more [] k = refl
length_or more (w ∷ ws) k = ap suc (length_or more ws (k + 1))

word_or_from : (more ws : List ℕ) (k s : ℕ) → s < length ws
    → word (or_from more k ws) s ≡ bit_or (word ws s) (word more (k + s))
word_or_from more [] k s less = absurd (omega arith)
word_or_from more (w ∷ ws) k zero less = let e : k + 0 ≡ k = omega arith in rw e refl
word_or_from more (w ∷ ws) k (suc s) less =
    let e : k + suc s ≡ (k + 1) + s = omega arith in
    rw e (word_or_from more ws (k + 1) s (omega arith))

pub word_or : (more ws : List ℕ) (s : ℕ) → s < length ws
    → word (or_from more 0 ws) s ≡ bit_or (word ws s) (word more s)
word_or more ws s less = let e : 0 + s ≡ s = omega arith in
    word_or_from more ws 0 s less ∙ rw e refl

pub or_out : (more ws : List ℕ) (x s : ℕ) → tells (or_from more 0 ws) x s ≡ true
    → (tells ws x s ≡ true) ⊎ (tells more x s ≡ true)
or_out more ws x s h =
    let less : s < length ws = subst (λ n. s < n) (length_or more ws 0)
    (tells_inside (or_from more 0 ws) x s h) in
    or_cases (tells ws x s) (tells more x s)
    (sym (ap (has_bit x) (word_or more ws s less) ∙ has_bit_or x (word ws s) (word more s)) ∙ h)

pub or_more : (more ws : List ℕ) (x s : ℕ) → s < length ws → tells more x s ≡ true
    → tells (or_from more 0 ws) x s ≡ true
or_more more ws x s less h =
    ap (has_bit x) (word_or more ws s less) ∙ has_bit_or x (word ws s) (word more s)
    ∙ or_right (tells ws x s) (tells more x s) h

-- what a row records after a word was written
pub set_out : (row : List ℕ) (s w t x : ℕ) → tells (slice_set row s w) x t ≡ true
    → (tells row x t ≡ true) ⊎ ((t ≡ s) × (s < length row) × (has_bit x w ≡ true))
set_out [] s w t x h = inl h
set_out (v ∷ row) zero w zero x h = inr (refl, omega arith, h)
set_out (v ∷ row) zero w (suc t) x h = inl h
set_out (v ∷ row) (suc s) w zero x h = inl h
set_out (v ∷ row) (suc s) w (suc t) x h =
    ⊎_elim inl
    (λ (e : (t ≡ s) × (s < length row) × (has_bit x w ≡ true)).
    inr (ap suc e.0, omega (arith, e.1), e.2))
    (set_out row s w t x h)

-- a row of a table after one was written
pub row_in_set : (rows : List (List ℕ)) (p : ℕ) (row : List ℕ) (q : ℕ)
    → (row_in (slice_set rows p row) q ≡ row_in rows q)
    ⊎ ((q ≡ p) × (row_in (slice_set rows p row) q ≡ row))
row_in_set [] p row q = inl refl
row_in_set (r ∷ rows) zero row zero = inr (refl, refl)
row_in_set (r ∷ rows) zero row (suc q) = inl refl
row_in_set (r ∷ rows) (suc p) row zero = inl refl
row_in_set (r ∷ rows) (suc p) row (suc q) =
    ⊎_elim inl (λ (h : (q ≡ p) × (row_in (slice_set rows p row) q ≡ row)). inr (ap suc h.0, h.1))
    (row_in_set rows p row q)

pub row_in_replicate : (n q : ℕ) → row_in (replicate n []) q ≡ []
row_in_replicate zero q = refl
row_in_replicate (suc n) zero = refl
row_in_replicate (suc n) (suc q) = row_in_replicate n q

-- what was joined is recorded
pub joined_tells : (long : ℕ) (old row : List ℕ) (x s : ℕ) → (old ≡ []) ⊎ (length old ≡ long)
    → length row ≡ long → tells row x s ≡ true → tells (row_joined old row) x s ≡ true
joined_tells long [] row x s shape size h = h
joined_tells long (w ∷ ws) row x s (inl is) size h = absurd cc
joined_tells long (w ∷ ws) row x s (inr is) size h =
    let less : s < length row = tells_inside row x s h in
    let within : s < length (w ∷ ws) = omega arith in
    or_more row (w ∷ ws) x s within h

-- the table of any function other than the one that was written
pub exits_of_other : (tables : List (List (List ℕ))) (f g : ℕ) (rows : List (List ℕ)) → (g ≡ f → ⊥)
    → exits_of (slice_set tables f rows) g ≡ exits_of tables g
exits_of_other [] f g rows unlike = refl
exits_of_other (t ∷ ts) zero zero rows unlike = absurd (unlike refl)
exits_of_other (t ∷ ts) zero (suc g) rows unlike = refl
exits_of_other (t ∷ ts) (suc f) zero rows unlike = refl
exits_of_other (t ∷ ts) (suc f) (suc g) rows unlike =
    exits_of_other ts f g rows (λ is. unlike (ap suc is))
