-- The operations on lists of lines agree with those on the cache that the lists stand for.
use Rattle.std.proofs.Common.{◌≡◌, ◌≢◌, ⊎_elim, ℕ, zero, suc, ◌*◌, ◌/◌, ◌%◌, ◌==◌, ◌<◌, cond, Bool}
use Rattle.std.proofs.Common.{true, false, List, [], ◌∷◌, ◌++◌, map, length, set, get_or, replicate}
use Rattle.std.proofs.Common.{Option, Some, None, ℤ, pos, refl, sym, ap, ◌∙◌, arith, eq-eqb, ne_eqb}
use Rattle.std.proofs.Common.{length-set}
use Rattle.std.proofs.lemmas.Bool.{cases_eq}
use Rattle.std.proofs.lemmas.List.{map-append, length-map, get_or-set_same, get_or-set_other}
use Rattle.std.proofs.lemmas.List.{drop-map, length-replicate}
use Rattle.std.proofs.Math.ListN.{get_or-map}
use Rattle.cache_model.specs.Event.{Store, Flush, Fence}
use Rattle.cache_model.specs.Cache.{put, view, blank, blank_line}
use Rattle.cache_model.specs.Play.{store_line, mark_of, flush_line, fence_at, apply, after}
use Rattle.cache_model.specs.Lists.{ListLine, blank_list, IsWhole, version_words, line_from}
use Rattle.cache_model.specs.Lists.{cache_from, memory_from}
use Rattle.cache_model.specs.inside.Lists.{zero_list, list_store, list_mark, list_flush}
use Rattle.cache_model.specs.inside.Lists.{list_fence_at, list_fence}
use Rattle.cache_model.proofs.Versions.{put_same, put_other}

pub read_on : (l : ℕ) (v : List ℤ) (p : ℕ) → p / 8 ≡ l
    → version_words l v p ≡ get_or v (p % 8) (pos 0)
read_on l v p e = ap (λ (b : Bool). cond b (get_or v (p % 8) (pos 0)) (pos 0)) (eq-eqb (p / 8) l e)

pub read_off : (l : ℕ) (v : List ℤ) (p : ℕ) → p / 8 ≢ l → version_words l v p ≡ pos 0
read_off l v p ne = ap (λ (b : Bool). cond b (get_or v (p % 8) (pos 0)) (pos 0))
    (ne_eqb (p / 8) l ne)

read_set : (l : ℕ) (v : List ℤ) (p : ℕ) (x : ℤ) (q : ℕ) → l ≡ p / 8 → length v ≡ 8
    → version_words l (set v (p % 8) x) q ≡ put (version_words l v) p x q
read_set l v p x q e whole = ⊎_elim
    (λ (same : q ≡ p).
    let on : q / 8 ≡ l = omega arith in
    let off : q % 8 ≡ p % 8 = omega arith in
    read_on l (set v (p % 8) x) q on
    ∙ ap (λ (o : ℕ). get_or (set v (p % 8) x) o (pos 0)) off
    ∙ get_or-set_same v (p % 8) x (pos 0) (omega arith)
    ∙ sym (put_same (version_words l v) p x)
    ∙ ap (λ (r : ℕ). put (version_words l v) p x r) (sym same))
    (λ (ne : q ≢ p). ⊎_elim
    (λ (on : q / 8 ≡ l). read_on l (set v (p % 8) x) q on ∙ get_or-set_other v (p % 8) (q % 8) x
    (pos 0) (omega arith) ∙ sym (read_on l v q on) ∙ sym (put_other (version_words l v) p q x ne))
    (λ (off : q / 8 ≢ l). read_off l (set v (p % 8) x) q off ∙ sym (read_off l v q off)
    ∙ sym (put_other (version_words l v) p q x ne))
    (cases_eq (q / 8) l))
    (cases_eq q p)

line_store : (l : ℕ) (y : ListLine) (p : ℕ) (x : ℤ) → l ≡ p / 8 → length y.newest ≡ 8
    → line_from l (list_store y (p % 8) x) ≡ store_line (line_from l y) p x
line_store l y p x e whole =
    let older : map (version_words l) (y.older ++ y.newest ∷ []) ≡ map (version_words l) y.older
    ++ version_words l y.newest ∷ [] = map-append (version_words l) y.older (y.newest ∷ []) in
    λ i. record {
      older = older i;
      newest = λ q.
          read_set l y.newest p x q e whole i;
      mark = y.mark;
    }

pub mark_map : (l : ℕ) (vs : List (List ℤ)) (m : Option ℕ)
    → list_mark vs m ≡ mark_of (map (version_words l) vs) m
mark_map l [] m = refl
mark_map l (v ∷ vs) m = ap (λ (n : ℕ). Some (suc n)) (sym (length-map vs (version_words l)))

line_flush : (l : ℕ) (y : ListLine) → line_from l (list_flush y) ≡ flush_line (line_from l y)
line_flush l y = λ i. record {
  older = map (version_words l) y.older;
  newest = version_words l y.newest;
  mark = mark_map l y.older y.mark i;
}

line_fence_at : (l : ℕ) (m : Option ℕ) (y : ListLine)
    → line_from l (list_fence_at m y) ≡ fence_at m (line_from l y)
line_fence_at l None y = refl
line_fence_at l (Some k) y = λ i.
    record {
      older = sym (drop-map (version_words l) k y.older) i;
      newest = version_words l y.newest;
      mark = None;
    }

store_at : (ls : List ListLine) (p : ℕ) (x : ℤ) (l : ℕ) → IsWhole ls → p / 8 < length ls
    → cache_from (set ls (p / 8) (list_store (get_or ls (p / 8) blank_list) (p % 8) x)) l
    ≡ apply (cache_from ls) (Store p x) l
unfolding apply cache_from
store_at ls p x l whole within = ⊎_elim
    (λ (e : l ≡ p / 8).
    ap (λ (k : ℕ). line_from l (get_or
    (set ls (p / 8) (list_store (get_or ls (p / 8) blank_list) (p % 8) x)) k blank_list)) e
    ∙ ap (line_from l) (get_or-set_same ls (p / 8)
    (list_store (get_or ls (p / 8) blank_list) (p % 8) x) blank_list within)
    ∙ line_store l (get_or ls (p / 8) blank_list) p x e (whole (p / 8) within)
    ∙ ap (λ (k : ℕ). store_line (line_from l (get_or ls k blank_list)) p x) (sym e)
    ∙ ap (λ (b : Bool). cond b (store_line (cache_from ls l) p x) (cache_from ls l))
    (sym (eq-eqb l (p / 8) e)))
    (λ (ne : l ≢ p / 8).
    ap (line_from l) (get_or-set_other ls (p / 8) l
    (list_store (get_or ls (p / 8) blank_list) (p % 8) x) blank_list ne)
    ∙ ap (λ (b : Bool). cond b (store_line (cache_from ls l) p x) (cache_from ls l))
    (sym (ne_eqb l (p / 8) ne)))
    (cases_eq l (p / 8))

flush_at : (ls : List ListLine) (k l : ℕ) → k < length ls
    → cache_from (set ls k (list_flush (get_or ls k blank_list))) l ≡ apply (cache_from ls)
    (Flush k) l
unfolding apply cache_from
flush_at ls k l within = ⊎_elim
    (λ (e : l ≡ k).
    ap (λ (j : ℕ). line_from l (get_or (set ls k (list_flush (get_or ls k blank_list))) j
    blank_list)) e
    ∙ ap (line_from l) (get_or-set_same ls k (list_flush (get_or ls k blank_list))
    blank_list within)
    ∙ line_flush l (get_or ls k blank_list)
    ∙ ap (λ (j : ℕ). flush_line (line_from l (get_or ls j blank_list))) (sym e)
    ∙ ap (λ (b : Bool). cond b (flush_line (cache_from ls l)) (cache_from ls l))
    (sym (eq-eqb l k e)))
    (λ (ne : l ≢ k).
    ap (line_from l) (get_or-set_other ls k l (list_flush (get_or ls k blank_list)) blank_list ne)
    ∙ ap (λ (b : Bool). cond b (flush_line (cache_from ls l)) (cache_from ls l))
    (sym (ne_eqb l k ne)))
    (cases_eq l k)

fence_each : (ls : List ListLine) (l : ℕ)
    → cache_from (map list_fence ls) l ≡ apply (cache_from ls) Fence l
unfolding apply cache_from
fence_each ls l = ap (line_from l) (get_or-map list_fence ls l blank_list)
    ∙ line_fence_at l (get_or ls l blank_list).mark (get_or ls l blank_list)

-- in range, the default value doesn't matter
pub at_any : (xs : List ListLine) (k : ℕ) (d e : ListLine) → k < length xs
    → get_or xs k d ≡ get_or xs k e
at_any [] k d e lt = absurd (let h : ⊥ = omega arith in h)
at_any (x ∷ xs) zero d e lt = refl
at_any (x ∷ xs) (suc k) d e lt = at_any xs k d e (omega arith)

pub store_memory : (ls m : List ListLine) (p : ℕ) (x : ℤ) (v y : ListLine) → ls ≡ m → IsWhole ls
    → p < 8 * length m → v ≡ get_or ls (p / 8) v → y ≡ list_store v (p % 8) x
    → memory_from (set ls (p / 8) y) ≡ after (memory_from m) (Store p x)
store_memory ls m p x v y same whole within found is =
    let n : length ls ≡ length m = ap length same in
    let lt : p / 8 < length ls = omega arith in
    let old : v ≡ get_or ls (p / 8) blank_list = found ∙ at_any ls (p / 8) v blank_list lt in
    ap (λ (z : ListLine). memory_from (set ls (p / 8) z))
    (is ∙ ap (λ (z : ListLine). list_store z (p % 8) x) old)
    ∙ (λ i. record {
      lines = length-set ls (p / 8)
          (list_store (get_or ls (p / 8) blank_list) (p % 8) x) i;
      cache = λ l. store_at ls p x l whole lt i;
    })
    ∙ ap (λ (z : List ListLine). after (memory_from z) (Store p x)) same

pub flush_memory : (ls m : List ListLine) (k : ℕ) (v y : ListLine) → ls ≡ m → k < length m
    → v ≡ get_or ls k v → y ≡ list_flush v
    → memory_from (set ls k y) ≡ after (memory_from m) (Flush k)
flush_memory ls m k v y same within found is =
    let n : length ls ≡ length m = ap length same in
    let lt : k < length ls = omega arith in
    let old : v ≡ get_or ls k blank_list = found ∙ at_any ls k v blank_list lt in
    ap (λ (z : ListLine). memory_from (set ls k z)) (is ∙ ap list_flush old)
    ∙ (λ i. record {
      lines = length-set ls k (list_flush (get_or ls k blank_list)) i;
      cache = λ l.
          flush_at ls k l lt i;
    })
    ∙ ap (λ (z : List ListLine). after (memory_from z) (Flush k)) same

pub fence_memory : (ls m : List ListLine) → ls ≡ m
    → memory_from (map list_fence ls) ≡ after (memory_from m) Fence
fence_memory ls m same = (λ i. record {
  lines = length-map ls list_fence i;
  cache = λ l.
      fence_each ls l i;
}) ∙ ap (λ (z : List ListLine). after (memory_from z) Fence) same

fence_newest : (m : Option ℕ) (y : ListLine) → length (list_fence_at m y).newest ≡ length y.newest
fence_newest None y = refl
fence_newest (Some k) y = refl

pub fence_whole : (ls : List ListLine) → IsWhole ls → IsWhole (map list_fence ls)
fence_whole ls whole l lt =
    ap (λ (y : ListLine). length y.newest) (get_or-map list_fence ls l blank_list)
    ∙ fence_newest (get_or ls l blank_list).mark (get_or ls l blank_list)
    ∙ whole l (let n = length-map ls list_fence in omega arith)

view_at : (ls : List ListLine) (p : ℕ)
    → view (cache_from ls) p ≡ get_or (get_or ls (p / 8) blank_list).newest (p % 8) (pos 0)
unfolding view cache_from
view_at ls p = read_on (p / 8) (get_or ls (p / 8) blank_list).newest p refl

pub view_list : (ls m : List ListLine) (p : ℕ) (v : ListLine) (x : ℤ) → ls ≡ m → p < 8 * length m
    → v ≡ get_or ls (p / 8) v → x ≡ get_or v.newest (p % 8) (pos 0) → x ≡ view (cache_from m) p
view_list ls m p v x same within found is =
    let n : length ls ≡ length m = ap length same in
    let lt : p / 8 < length ls = omega arith in
    let old : v ≡ get_or ls (p / 8) blank_list = found ∙ at_any ls (p / 8) v blank_list lt in
    is ∙ ap (λ (z : ListLine). get_or z.newest (p % 8) (pos 0)) old ∙ sym (view_at ls p)
    ∙ ap (λ (z : List ListLine). view (cache_from z) p) same

pub zeros_at : (n k : ℕ) → get_or (replicate n (pos 0)) k (pos 0) ≡ pos 0
zeros_at zero k = refl
zeros_at (suc n) zero = refl
zeros_at (suc n) (suc k) = zeros_at n k

pub cond_same : (b : Bool) (x : ℤ) → x ≡ pos 0 → cond b x (pos 0) ≡ pos 0
cond_same true x e = e
cond_same false x e = refl

line_blank : (n k l : ℕ) → line_from l (get_or (replicate n zero_list) k blank_list) ≡ blank_line
line_blank zero k l = λ i. record {
  older = [];
  newest = λ q.
      cond_same (q / 8 == l) (pos 0) refl i;
  mark = None;
}
line_blank (suc n) zero l = λ i.
    record {
      older = [];
      newest = λ q.
          cond_same (q / 8 == l) (get_or (replicate 8 (pos 0)) (q % 8) (pos 0))
          (zeros_at 8 (q % 8)) i;
      mark = None;
    }
line_blank (suc n) (suc k) l = line_blank n k l

pub blank_memory : (ls : List ListLine) (n : ℕ) → ls ≡ replicate n zero_list
    → memory_from ls ≡ record { lines = n; cache = blank }
unfolding cache_from
blank_memory ls n is =
    ap memory_from is
    ∙ (λ i. record { lines = length-replicate n zero_list i; cache = λ l. line_blank n l l i })
