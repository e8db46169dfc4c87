-- How many lines of a sparse memory have older versions.
use Rattle.std.proofs.Common.{◌≡◌, ◌≢◌, ⊎_elim, ℕ, zero, suc, ◌+◌, ◌<◌, ◌≤◌, cond}
use Rattle.std.proofs.Common.{Bool, true, false, List, [], ◌∷◌, map, length, Option, Some, None, ℤ}
use Rattle.std.proofs.Common.{refl, sym, ap, ◌∙◌, arith}
use Rattle.std.proofs.lemmas.Bool.{cases_eq}
use Rattle.cache_model.specs.Cache.{Cache, Line}
use Rattle.cache_model.specs.Lists.{version_words}
use Rattle.pmem.specs.Kept.{is_more, more_from, more_lines}
use Rattle.pmem.specs.Sparse.{Older, Sparse, kept_at, sparse_line, sparse_cache, sparse_memory}
use Rattle.pmem.specs.Sparse.{IsTidySparse}
use Rattle.pmem.specs.inside.Placed.{AreApart}
use Rattle.pmem.proofs.Sparses.{at_same, at_other}

more_same : (c d : Cache) (a n : ℕ) → ((l : ℕ) → a ≤ l → c l ≡ d l)
    → more_from c a n ≡ more_from d a n
more_same c d a zero same = refl
more_same c d a (suc n) same =
    let head = same a (omega arith) in
    let tail = more_same c d (suc a) n (λ l le. same l (omega arith)) in
    λ i. cond (is_more (head i).older) 1 0 + tail i

is_more_some : (words : List ℤ) (o : Option Older) (y : Older) (l : ℕ) → o ≡ Some y
    → 0 < length y.older → is_more (sparse_line words o l).older ≡ true
is_more_some words o y l e lt = ap (λ (p : Option Older). is_more (sparse_line words p l).older) e
    ∙ more_map y.older lt
  where
    more_map : (us : List (List ℤ)) → 0 < length us → is_more (map (version_words l) us) ≡ true
    more_map [] lt = absurd (let h : ⊥ = omega arith in h)
    more_map (u ∷ us) lt = refl

abbrev lines_of : List ℤ → List (ℕ × Older) → Cache
lines_of words es l = sparse_line words (kept_at es l) l

none_from : (words : List ℤ) (a n : ℕ) → more_from (lines_of words []) a n ≡ 0
none_from words a zero = refl
none_from words a (suc n) = ap (λ (k : ℕ). 0 + k) (none_from words (suc a) n)

-- one line more has older versions
one_more : (n a k : ℕ) (c d : Cache) → a ≤ k → k < a + n → is_more (c k).older ≡ true
    → is_more (d k).older ≡ false → ((l : ℕ) → l ≢ k → c l ≡ d l)
    → more_from c a n ≡ suc (more_from d a n)
one_more zero a k c d ge lt on off same = absurd (let h : ⊥ = omega arith in h)
one_more (suc n) a k c d ge lt on off same = ⊎_elim
    (λ (e : a ≡ k).
    let first : is_more (c a).older ≡ true = ap (λ (l : ℕ). is_more (c l).older) e ∙ on in
    let second : is_more (d a).older ≡ false = ap (λ (l : ℕ). is_more (d l).older) e ∙ off in
    let rest : more_from c (suc a) n ≡ more_from d (suc a) n =
    more_same c d (suc a) n (λ l le. same l (λ f. absurd (let h : ⊥ = omega arith in h))) in
    let none : 1 + more_from d (suc a) n ≡ suc (0 + more_from d (suc a) n) = omega arith in
    ap (λ (b : Bool). cond b 1 0 + more_from c (suc a) n) first
    ∙ ap (λ (m : ℕ). 1 + m) rest ∙ none
    ∙ sym (ap (λ (b : Bool). suc (cond b 1 0 + more_from d (suc a) n)) second))
    (λ (ne : a ≢ k).
    let head : is_more (c a).older ≡ is_more (d a).older =
    ap (λ (l : Line). is_more l.older) (same a ne) in
    let rest : more_from c (suc a) n ≡ suc (more_from d (suc a) n) =
    one_more n (suc a) k c d (omega arith) (omega arith) on off same in
    ap (λ (b : Bool). cond b 1 0 + more_from c (suc a) n) head
    ∙ ap (λ (m : ℕ). cond (is_more (d a).older) 1 0 + m) rest ∙ omega arith)
    (cases_eq a k)

count_apart : (es : List (ℕ × Older)) (n : ℕ) (words : List ℤ) → AreApart es
    → ((l : ℕ) (y : Older) → kept_at es l ≡ Some y → (l < n) × (0 < length y.older))
    → more_from (lines_of words es) 0 n ≡ length es
count_apart [] n words apart held = none_from words 0 n
count_apart (e ∷ es) n words apart held =
    let head : kept_at (e ∷ es) e.0 ≡ Some e.1 =
    ap (λ (b : Bool). cond b (Some e.1) (kept_at es e.0)) (at_same e.0 e.0 refl) in
    let other : (l : ℕ) → l ≢ e.0 → kept_at (e ∷ es) l ≡ kept_at es l =
    λ l ne. ap (λ (b : Bool). cond b (Some e.1) (kept_at es l))
    (at_other l e.0 (λ f. ne (sym f))) in
    let first = held e.0 e.1 head in
    let lt = first.0 in
    let off : is_more (lines_of words es e.0).older ≡ false =
    ap (λ (o : Option Older). is_more (sparse_line words o e.0).older) apart.0 in
    one_more n 0 e.0 (lines_of words (e ∷ es)) (lines_of words es) (omega arith) (omega arith)
    (is_more_some words (kept_at (e ∷ es) e.0) e.1 e.0 head first.1) off
    (λ l ne. ap (λ (o : Option Older). sparse_line words o l) (other l ne))
    ∙ ap suc (count_apart es n words apart.1 (λ l y found. ⊎_elim
    (λ (f : l ≡ e.0). absurd (let no : None ≡ Some y =
    sym apart.0 ∙ ap (λ (k : ℕ). kept_at es k) (sym f) ∙ found in cc))
    (λ (ne : l ≢ e.0). held l y (other l ne ∙ found))
    (cases_eq l e.0)))

pub count_sparse : (s : Sparse) → IsTidySparse s → AreApart s.kept
    → more_lines (sparse_memory s) ≡ length s.kept
unfolding sparse_cache
count_sparse s tidy apart = count_apart s.kept s.count s.words apart
    (λ l y found. (tidy.lines l y found, tidy.more l y found))
