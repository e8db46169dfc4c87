-- An event of the whole device, seen from a compartment: it sees all of its own events, and of
-- another compartment's only the fences.
use Rattle.std.proofs.Common.{◌≡◌, ◌≢◌, inl, inr, ⊎_elim, ℕ, zero, suc, ◌+◌, ◌*◌, ◌/◌, ◌<◌, ◌≤◌}
use Rattle.std.proofs.Common.{◌==◌, nat_lt, cond, Bool, true, false, List, [], ◌∷◌, ◌++◌, drop, map}
use Rattle.std.proofs.Common.{length, Option, Some, None, ℤ, refl, sym, ap, ◌∙◌, arith, eq-eqb}
use Rattle.std.proofs.Common.{ne_eqb}
use Rattle.std.proofs.lemmas.Bool.{cases_eq, ltb-false, lt-ltb, cond-false}
use Rattle.cache_model.specs.Event.{CacheEvent, Store, Flush, Fence}
use Rattle.cache_model.specs.Cache.{Words, put, Line, Cache, blank_line, view}
use Rattle.cache_model.specs.Play.{store_line, mark_of, flush_line, fence_at, fence_line, apply}
use Rattle.pool_workers.specs.Compartment.{words_from, line_counted_from, cache_in, lifted}
use Rattle.pool_workers.specs.Compartment.{IsInside, IsOutside, fenced_if, AreAside}

pub map_push : (f : ℕ) (us : List Words) (v : Words) →
    map (words_from f) (us ++ v ∷ []) ≡ map (words_from f) us ++ words_from f v ∷ []
map_push f [] v = refl
map_push f (u ∷ us) v = ap (λ (ws : List Words). words_from f u ∷ ws) (map_push f us v)

map_drop : (f k : ℕ) (us : List Words) →
    map (words_from f) (drop k us) ≡ drop k (map (words_from f) us)
map_drop f zero us = refl
map_drop f (suc k) [] = refl
map_drop f (suc k) (u ∷ us) = map_drop f k us

same_test : (f p w : ℕ) → (8 * f + p == 8 * f + w) ≡ (p == w)
same_test f p w = ⊎_elim
    (λ (e : p ≡ w). eq-eqb (8 * f + p) (8 * f + w) (ap (λ (k : ℕ). 8 * f + k) e)
    ∙ sym (eq-eqb p w e))
    (λ (ne : p ≢ w). ne_eqb (8 * f + p) (8 * f + w) (λ e. ne (omega arith)) ∙ sym (ne_eqb p w ne))
    (cases_eq p w)

line_test : (f l k : ℕ) → (f + l == f + k) ≡ (l == k)
line_test f l k = ⊎_elim
    (λ (e : l ≡ k). eq-eqb (f + l) (f + k) (ap (λ (i : ℕ). f + i) e) ∙ sym (eq-eqb l k e))
    (λ (ne : l ≢ k). ne_eqb (f + l) (f + k) (λ e. ne (omega arith)) ∙ sym (ne_eqb l k ne))
    (cases_eq l k)

word_line : (f w : ℕ) → (8 * f + w) / 8 ≡ f + w / 8
word_line f w = omega arith

put_from : (f w : ℕ) (x : ℤ) (v : Words) (p : ℕ) →
    put v (8 * f + w) x (8 * f + p) ≡ put (words_from f v) w x p
unfolding put
put_from f w x v p = ap (λ (b : Bool). cond b x (v (8 * f + p))) (same_test f p w)

store_from : (f w : ℕ) (x : ℤ) (l : Line) →
    line_counted_from f (store_line l (8 * f + w) x) ≡ store_line (line_counted_from f l) w x
store_from f w x l =
    λ i. record {
      older = map_push f l.older l.newest i;
      newest = λ p. put_from f w x l.newest p i;
      mark = l.mark;
    }

mark_from : (f : ℕ) (us : List Words) (m : Option ℕ) →
    mark_of us m ≡ mark_of (map (words_from f) us) m
mark_from f [] m = refl
mark_from f (u ∷ us) m = ap (λ (n : ℕ). Some (suc n)) (long us)
  where
    long : (vs : List Words) → length vs ≡ length (map (words_from f) vs)
    long [] = refl
    long (v ∷ vs) = ap suc (long vs)

flush_from : (f : ℕ) (l : Line) → line_counted_from f (flush_line l)
    ≡ flush_line (line_counted_from f l)
flush_from f l =
    λ i. record {
      older = map (words_from f) l.older;
      newest = words_from f l.newest;
      mark = mark_from f l.older l.mark i;
    }

fence_from_at : (f : ℕ) (m : Option ℕ) (l : Line) →
    line_counted_from f (fence_at m l) ≡ fence_at m (line_counted_from f l)
fence_from_at f None l = refl
fence_from_at f (Some k) l =
    λ i. record { older = map_drop f k l.older i; newest = words_from f l.newest; mark = None }

pub fence_from : (f : ℕ) (l : Line) → line_counted_from f (fence_line l)
    ≡ fence_line (line_counted_from f l)
fence_from f l = fence_from_at f l.mark l

-- the compartment's own events

past_store : (n l w : ℕ) → w < 8 * n → nat_lt l n ≡ false → (l == w / 8) ≡ false
past_store n l w lt past =
    ne_eqb l (w / 8)
    (λ e. let more : n ≤ l = ltb-false l n past in absurd (let h : ⊥ = omega arith in h))

store_case : (f n w l : ℕ) (x : ℤ) (c : Cache) (b : Bool) → nat_lt l n ≡ b → w < 8 * n →
    cond b (line_counted_from f
    (cond (f + l == (8 * f + w) / 8) (store_line (c (f + l)) (8 * f + w) x) (c (f + l))))
    blank_line
    ≡ cond (l == w / 8) (store_line (cond b (line_counted_from f (c (f + l))) blank_line) w x)
    (cond b (line_counted_from f (c (f + l))) blank_line)
store_case f n w l x c true is lt =
    ap (λ (k : ℕ). line_counted_from f
    (cond (f + l == k) (store_line (c (f + l)) (8 * f + w) x) (c (f + l)))) (word_line f w)
    ∙ ap (λ (t : Bool). line_counted_from f
    (cond t (store_line (c (f + l)) (8 * f + w) x) (c (f + l))))
    (line_test f l (w / 8))
    ∙ by_test (l == w / 8)
  where
    by_test : (t : Bool) →
        line_counted_from f (cond t (store_line (c (f + l)) (8 * f + w) x) (c (f + l)))
        ≡ cond t (store_line (line_counted_from f (c (f + l))) w x)
        (line_counted_from f (c (f + l)))
    by_test true = store_from f w x (c (f + l))
    by_test false = refl
store_case f n w l x c false is lt =
    sym (ap (λ (t : Bool). cond t (store_line blank_line w x) blank_line)
    (past_store n l w lt is))

past_flush : (n l k : ℕ) → k < n → nat_lt l n ≡ false → (l == k) ≡ false
past_flush n l k lt past =
    ne_eqb l k (λ e. let more : n ≤ l = ltb-false l n past in
    absurd (let h : ⊥ = omega arith in h))

flush_case : (f n k l : ℕ) (c : Cache) (b : Bool) → nat_lt l n ≡ b → k < n →
    cond b (line_counted_from f (cond (f + l == f + k) (flush_line (c (f + l))) (c (f + l))))
    blank_line
    ≡ cond (l == k) (flush_line (cond b (line_counted_from f (c (f + l))) blank_line))
    (cond b (line_counted_from f (c (f + l))) blank_line)
flush_case f n k l c true is lt =
    ap (λ (t : Bool). line_counted_from f (cond t (flush_line (c (f + l))) (c (f + l))))
    (line_test f l k)
    ∙ by_test (l == k)
  where
    by_test : (t : Bool) →
        line_counted_from f (cond t (flush_line (c (f + l))) (c (f + l)))
        ≡ cond t (flush_line (line_counted_from f (c (f + l)))) (line_counted_from f (c (f + l)))
    by_test true = flush_from f (c (f + l))
    by_test false = refl
flush_case f n k l c false is lt =
    sym (ap (λ (t : Bool). cond t (flush_line blank_line) blank_line) (past_flush n l k lt is))

fence_case : (f l : ℕ) (c : Cache) (b : Bool) →
    cond b (line_counted_from f (fence_line (c (f + l)))) blank_line
    ≡ fence_line (cond b (line_counted_from f (c (f + l))) blank_line)
fence_case f l c true = fence_from f (c (f + l))
fence_case f l c false = refl

-- an event of the compartment is the same event of its own cache
pub own_event : (f n : ℕ) (c : Cache) (e : CacheEvent) → IsInside n e →
    cache_in f n (apply c (lifted f e)) ≡ apply (cache_in f n c) e
unfolding cache_in apply
own_event f n c (Store w x) lt = λ i l. store_case f n w l x c (nat_lt l n) refl lt i
own_event f n c (Flush k) lt = λ i l. flush_case f n k l c (nat_lt l n) refl lt i
own_event f n c Fence lt = λ i l. fence_case f l c (nat_lt l n) i

-- events of another compartment

far_store : (f n w l : ℕ) → w < 8 * n → IsOutside f n l → l ≢ (8 * f + w) / 8
far_store f n w l lt (inl below) e = let at : l ≡ f + w / 8 = e ∙ word_line f w in let h : ⊥ =
    omega arith in h
far_store f n w l lt (inr above) e = let at : l ≡ f + w / 8 = e ∙ word_line f w in let h : ⊥ =
    omega arith in h

far_flush : (f n k l : ℕ) → k < n → IsOutside f n l → l ≢ f + k
far_flush f n k l lt (inl below) e = let h : ⊥ = omega arith in h
far_flush f n k l lt (inr above) e = let h : ⊥ = omega arith in h

-- a line outside
pub outside_store : (f n w l : ℕ) (x : ℤ) (c : Cache) → w < 8 * n → IsOutside f n l →
    apply c (Store (8 * f + w) x) l ≡ c l
unfolding apply
outside_store f n w l x c lt out =
    cond-false (l == (8 * f + w) / 8) (store_line (c l) (8 * f + w) x) (c l)
    (ne_eqb l ((8 * f + w) / 8) (far_store f n w l lt out))

pub outside_flush : (f n k l : ℕ) (c : Cache) → k < n → IsOutside f n l →
    apply c (Flush (f + k)) l ≡ c l
unfolding apply
outside_flush f n k l c lt out =
    cond-false (l == f + k) (flush_line (c l)) (c l) (ne_eqb l (f + k) (far_flush f n k l lt out))

-- a second fence of a line does nothing
fence_again_at : (m : Option ℕ) (l : Line) → l.mark ≡ m → fence_line (fence_at m l) ≡ fence_at m l
fence_again_at None l is = ap (λ (o : Option ℕ). fence_at o l) is
fence_again_at (Some k) l is = refl

fence_again : (l : Line) → fence_line (fence_line l) ≡ fence_line l
fence_again l = fence_again_at l.mark l refl

fence_either : (k : Bool) (l : Line) → fence_line (fenced_if k l) ≡ fence_line l
fence_either true l = fence_again l
fence_either false l = refl

pub aside_store : (f n w : ℕ) (x : ℤ) (k : Bool) (c b : Cache) → w < 8 * n → AreAside f n k c b →
    AreAside f n k c (apply b (Store (8 * f + w) x))
aside_store f n w x k c b lt aside l out = outside_store f n w l x b lt out ∙ aside l out

pub aside_flush : (f n j : ℕ) (k : Bool) (c b : Cache) → j < n → AreAside f n k c b →
    AreAside f n k c (apply b (Flush (f + j)))
aside_flush f n j k c b lt aside l out = outside_flush f n j l b lt out ∙ aside l out

pub aside_fence : (f n : ℕ) (k : Bool) (c b : Cache) → AreAside f n k c b →
    AreAside f n true c (apply b Fence)
unfolding apply
aside_fence f n k c b aside l out = ap fence_line (aside l out) ∙ fence_either k (c l)

pub view_in : (f n w : ℕ) (c : Cache) → w < 8 * n → view (cache_in f n c) w ≡ view c (8 * f + w)
unfolding view cache_in
view_in f n w c lt =
    ap (λ (b : Bool). (cond b (line_counted_from f (c (f + w / 8))) blank_line).newest w)
    (lt-ltb (w / 8) n (omega arith))
    ∙ ap (λ (l : ℕ). (c l).newest (8 * f + w)) (sym (word_line f w))
