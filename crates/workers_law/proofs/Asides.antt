-- The effect of another compartment's events on this one; marks stay indices of versions in it.
use Rattle.std.proofs.Common.{◌≡◌, inl, inr, ℕ, suc, ◌+◌, ◌<◌, nat_lt, cond, Bool, true, false}
use Rattle.std.proofs.Common.{List, [], ◌∷◌, map, length, refl, ap, ◌∙◌, subst, arith}
use Rattle.std.proofs.lemmas.Bool.{ltb-true}
use Rattle.cache_model.specs.Cache.{Words, Line, Cache, blank_line}
use Rattle.cache_model.specs.Play.{apply}
use Rattle.crash_law.specs.Law.{IsMarkIn, AreMarked}
use Rattle.pool_workers.specs.Compartment.{words_from, line_counted_from, cache_in, IsOutside}
use Rattle.pool_workers.specs.Compartment.{fenced_if, AreAside}
use Rattle.pool_workers.proofs.Windows.{fence_from}
use Rattle.workers_law.specs.Fenced.{AreDisjoint, fenced_cache}

pub inside_part : (f n g m l : ℕ) → AreDisjoint f n g m → l < m → IsOutside f n (g + l)
inside_part f n g m l (inl before) lt = inr (omega arith)
inside_part f n g m l (inr beyond) lt = inl (omega arith)

aside_case : (g l : ℕ) (k : Bool) (c b : Cache) (t : Bool) →
    (t ≡ true → b (g + l) ≡ fenced_if k (c (g + l))) →
    cond t (line_counted_from g (b (g + l))) blank_line
    ≡ fenced_if k (cond t (line_counted_from g (c (g + l))) blank_line)
aside_case g l k c b true same = ap (line_counted_from g) (same refl) ∙ by_test k
  where
    by_test : (j : Bool) →
        line_counted_from g (fenced_if j (c (g + l)))
        ≡ fenced_if j (line_counted_from g (c (g + l)))
    by_test true = fence_from g (c (g + l))
    by_test false = refl
aside_case g l true c b false same = refl
aside_case g l false c b false same = refl

fenced_line : (k : Bool) (c : Cache) (l : ℕ) → fenced_if k (c l) ≡ fenced_cache k c l
unfolding apply
fenced_line true c l = refl
fenced_line false c l = refl

-- the effect of another compartment on this one: a fence or nothing
pub aside_in : (f n g m : ℕ) (k : Bool) (c b : Cache) → AreDisjoint f n g m → AreAside f n k c b →
    cache_in g m b ≡ fenced_cache k (cache_in g m c)
unfolding cache_in
aside_in f n g m k c b apart aside = λ i l.
    (aside_case g l k c b (nat_lt l m)
    (λ is. aside (g + l) (inside_part f n g m l apart (ltb-true l m is)))
    ∙ fenced_line k (λ j. cond (nat_lt j m) (line_counted_from g (c (g + j))) blank_line) l) i

cong_case : (g l : ℕ) (c b : Cache) (t : Bool) → (t ≡ true → b (g + l) ≡ c (g + l)) →
    cond t (line_counted_from g (b (g + l))) blank_line ≡ cond t (line_counted_from g (c (g + l)))
    blank_line
cong_case g l c b true same = ap (line_counted_from g) (same refl)
cong_case g l c b false same = refl

-- only the lines of the compartment matter
pub cache_cong : (g m : ℕ) (b c : Cache) → ((l : ℕ) → l < m → b (g + l) ≡ c (g + l)) →
    cache_in g m b ≡ cache_in g m c
unfolding cache_in
cache_cong g m b c same = λ i l. cong_case g l c b (nat_lt l m) (λ is. same l (ltb-true l m is)) i

long_map : (f : ℕ) (us : List Words) → length us ≡ length (map (words_from f) us)
long_map f [] = refl
long_map f (u ∷ us) = ap suc (long_map f us)

mark_in : (f : ℕ) (l : Line) → IsMarkIn l.mark (length l.older) →
    IsMarkIn (line_counted_from f l).mark (length (line_counted_from f l).older)
mark_in f l is = subst (IsMarkIn l.mark) (long_map f l.older) is

marked_case : (f : ℕ) (t : Bool) (l : Line) → IsMarkIn l.mark (length l.older) →
    IsMarkIn (cond t (line_counted_from f l) blank_line).mark
    (length (cond t (line_counted_from f l) blank_line).older)
marked_case f true l is = mark_in f l is
marked_case f false l is = tt

pub marked_in : (f n : ℕ) (c : Cache) → AreMarked c → AreMarked (cache_in f n c)
unfolding cache_in
marked_in f n c marks l = marked_case f (nat_lt l n) (c (f + l)) (marks (f + l))
