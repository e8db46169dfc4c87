-- The effect of a store, a flush, a fence and a power cut on the cache that a sparse memory stands
-- for.
use Rattle.std.proofs.Common.{◌≡◌, ◌≢◌, ◌⊎◌, inl, inr, ⊎_elim, ℕ, ◌+◌, ◌-◌, ◌*◌, ◌/◌, ◌%◌, ◌<◌}
use Rattle.std.proofs.Common.{◌==◌, nat_lt, cond, Bool, true, false, List, [], ◌∷◌, ◌++◌, map, drop}
use Rattle.std.proofs.Common.{set, get_or, slice_range, Option, Some, None, ℤ, pos, refl, sym, ap}
use Rattle.std.proofs.Common.{◌∙◌, subst, arith, eq-eqb, ne_eqb, length, length-set}
use Rattle.std.specs.Ordering.{nat_cmp}
use Rattle.std.specs.BTreeMap.{is_at}
use Rattle.std.specs.Option.{option_map}
use Rattle.std.specs.Cmp.{unsigned_tied}
use Rattle.std.proofs.lemmas.Bool.{cases_eq, ltb-true, ltb-false, lt-ltb, le-ltb, false≢true}
use Rattle.std.proofs.lemmas.List.{map-append, length-append, get_or-set_same, get_or-set_other}
use Rattle.std.proofs.lemmas.List.{get_or-take, get_or-drop, drop-map}
use Rattle.std.proofs.lemmas.Option.{same_Some, none-some}
use Rattle.cache_model.specs.Event.{Store, Flush, Fence}
use Rattle.cache_model.specs.Cache.{Words, put}
use Rattle.cache_model.specs.Play.{store_line, flush_line, fence_at, fence_line, apply, after}
use Rattle.cache_model.specs.Lists.{version_words}
use Rattle.cache_model.proofs.Versions.{put_same, put_other}
use Rattle.cache_model.proofs.Lists.{read_on, read_off, mark_map}
use Rattle.pmem.specs.Sparse.{Older, Sparse, kept_at, newest_of, sparse_line, sparse_cache}
use Rattle.pmem.specs.Sparse.{sparse_memory, IsTidySparse}
use Rattle.pmem.specs.inside.Sparse.{more_older, flush_older, fence_older_at, fence_older}
use Rattle.pmem.specs.inside.Sparse.{has_older, fence_entry, fence_lines, is_listed, AreListed}

-- a key is found exactly if it is equal
at_key : (l q : ℕ) → is_at (nat_cmp l) q ≡ (l == q)
at_key l q = unsigned_tied l q

pub at_same : (l q : ℕ) → q ≡ l → is_at (nat_cmp l) q ≡ true
at_same l q e = at_key l q ∙ eq-eqb l q (sym e)

pub at_other : (l q : ℕ) → q ≢ l → is_at (nat_cmp l) q ≡ false
at_other l q ne = at_key l q ∙ ne_eqb l q (λ e. ne (sym e))

pub newest_on : (words : List ℤ) (l p : ℕ) → p / 8 ≡ l
    → newest_of words l p ≡ get_or words p (pos 0)
newest_on words l p e = ap (λ (b : Bool). cond b (get_or words p (pos 0)) (pos 0))
    (eq-eqb (p / 8) l e)

pub newest_off : (words : List ℤ) (l p : ℕ) → p / 8 ≢ l → newest_of words l p ≡ pos 0
newest_off words l p ne = ap (λ (b : Bool). cond b (get_or words p (pos 0)) (pos 0))
    (ne_eqb (p / 8) l ne)

-- the words of a line are those of its newest version
range_at : (words : List ℤ) (l o : ℕ) → o < 8
    → get_or (slice_range words (8 * l) (8 * l + 8)) o (pos 0) ≡ get_or words (8 * l + o) (pos 0)
range_at words l o lt =
    get_or-take (8 * l + 8 - 8 * l) (drop (8 * l) words) o (pos 0) (omega arith)
    ∙ get_or-drop (8 * l) words o (pos 0)

read_newest : (words : List ℤ) (l p : ℕ) → version_words l (slice_range words (8 * l) (8 * l + 8)) p
    ≡ newest_of words l p
read_newest words l p = ⊎_elim
    (λ (on : p / 8 ≡ l).
    let place : 8 * l + p % 8 ≡ p = omega arith in
    read_on l (slice_range words (8 * l) (8 * l + 8)) p on
    ∙ range_at words l (p % 8) (omega arith)
    ∙ ap (λ (q : ℕ). get_or words q (pos 0)) place
    ∙ sym (newest_on words l p on))
    (λ (off : p / 8 ≢ l). read_off l (slice_range words (8 * l) (8 * l + 8)) p off
    ∙ sym (newest_off words l p off))
    (cases_eq (p / 8) l)

-- the newest words after a store

newest_set : (words : List ℤ) (p : ℕ) (x : ℤ) (l q : ℕ) → l ≡ p / 8 → p < length words
    → newest_of (set words p x) l q ≡ put (newest_of words l) p x q
newest_set words p x l q e lt = ⊎_elim
    (λ (same : q ≡ p).
    let on : q / 8 ≡ l = omega arith in
    newest_on (set words p x) l q on
    ∙ ap (λ (r : ℕ). get_or (set words p x) r (pos 0)) same
    ∙ get_or-set_same words p x (pos 0) lt
    ∙ sym (put_same (newest_of words l) p x)
    ∙ ap (λ (r : ℕ). put (newest_of words l) p x r) (sym same))
    (λ (ne : q ≢ p). ⊎_elim
    (λ (on : q / 8 ≡ l). newest_on (set words p x) l q on ∙ get_or-set_other words p q x (pos 0) ne
    ∙ sym (newest_on words l q on) ∙ sym (put_other (newest_of words l) p q x ne))
    (λ (off : q / 8 ≢ l). newest_off (set words p x) l q off ∙ sym (newest_off words l q off)
    ∙ sym (put_other (newest_of words l) p q x ne))
    (cases_eq (q / 8) l))
    (cases_eq q p)

newest_kept : (words : List ℤ) (p : ℕ) (x : ℤ) (l q : ℕ) → l ≢ p / 8
    → newest_of (set words p x) l q ≡ newest_of words l q
newest_kept words p x l q ne = ⊎_elim
    (λ (on : q / 8 ≡ l).
    let other : q ≢ p = λ e. ne (sym on ∙ ap (λ (n : ℕ). n / 8) e) in
    newest_on (set words p x) l q on ∙ get_or-set_other words p q x (pos 0) other
    ∙ sym (newest_on words l q on))
    (λ (off : q / 8 ≢ l). newest_off (set words p x) l q off ∙ sym (newest_off words l q off))
    (cases_eq (q / 8) l)

-- a line with equal newest words
line_words : (words other : List ℤ) (o : Option Older) (l : ℕ)
    → ((q : ℕ) → newest_of other l q ≡ newest_of words l q)
    → sparse_line other o l ≡ sparse_line words o l
line_words words other None l same = λ i. record { older = []; newest = λ q. same q i; mark = None }
line_words words other (Some y) l same =
    λ i. record { older = map (version_words l) y.older; newest = λ q. same q i; mark = y.mark }

line_more : (words : List ℤ) (p : ℕ) (x : ℤ) (v : List ℤ) (o : Option Older) (l : ℕ) → l ≡ p / 8
    → p < length words → ((q : ℕ) → version_words l v q ≡ newest_of words l q)
    → sparse_line (set words p x) (Some (more_older o v)) l ≡ store_line (sparse_line words o l) p x
line_more words p x v None l e lt is =
    λ i. record {
      older = (λ q. is q i) ∷ [];
      newest = λ q.
          newest_set words p x l q e lt i;
      mark = None;
    }
line_more words p x v (Some y) l e lt is =
    let one : map (version_words l) (y.older ++ v ∷ []) ≡ map (version_words l) y.older
    ++ newest_of words l ∷ [] =
    map-append (version_words l) y.older (v ∷ [])
    ∙ (λ i. map (version_words l) y.older ++ (λ q. is q i) ∷ []) in
    λ i. record { older = one i; newest = λ q. newest_set words p x l q e lt i; mark = y.mark }

store_at : (s : Sparse) (es : List (ℕ × Older)) (p : ℕ) (x : ℤ) (v : List ℤ) (l : ℕ)
    → p < length s.words → v ≡ slice_range s.words (8 * (p / 8)) (8 * (p / 8) + 8) →
    kept_at es l ≡ cond (is_at (nat_cmp (p / 8)) l) (Some (more_older (kept_at s.kept (p / 8)) v))
    (kept_at s.kept l) →
    sparse_line (set s.words p x) (kept_at es l) l ≡ apply (sparse_cache s) (Store p x) l
unfolding apply sparse_cache
store_at s es p x v l lt range is = ⊎_elim
    (λ (e : l ≡ p / 8).
    ap (λ (o : Option Older). sparse_line (set s.words p x) o l)
    (is ∙ ap (λ (b : Bool). cond b (Some (more_older (kept_at s.kept (p / 8)) v))
    (kept_at s.kept l)) (at_same (p / 8) l e))
    ∙ ap (λ (k : ℕ). sparse_line (set s.words p x) (Some (more_older (kept_at s.kept k) v)) l)
    (sym e)
    ∙ line_more s.words p x v (kept_at s.kept l) l e lt
    (λ q. ap (λ (w : List ℤ). version_words l w q)
    (range ∙ ap (λ (k : ℕ). slice_range s.words (8 * k) (8 * k + 8)) (sym e))
    ∙ read_newest s.words l q)
    ∙ ap (λ (b : Bool). cond b (store_line (sparse_line s.words (kept_at s.kept l) l) p x)
    (sparse_line s.words (kept_at s.kept l) l)) (sym (eq-eqb l (p / 8) e)))
    (λ (ne : l ≢ p / 8).
    ap (λ (o : Option Older). sparse_line (set s.words p x) o l)
    (is ∙ ap (λ (b : Bool). cond b (Some (more_older (kept_at s.kept (p / 8)) v))
    (kept_at s.kept l)) (at_other (p / 8) l ne))
    ∙ line_words s.words (set s.words p x) (kept_at s.kept l) l
    (λ q. newest_kept s.words p x l q ne)
    ∙ ap (λ (b : Bool). cond b (store_line (sparse_line s.words (kept_at s.kept l) l) p x)
    (sparse_line s.words (kept_at s.kept l) l)) (sym (ne_eqb l (p / 8) ne)))
    (cases_eq l (p / 8))

pub store_sparse : (s : Sparse) (es : List (ℕ × Older)) (p : ℕ) (x : ℤ) (v : List ℤ)
    → IsTidySparse s → p < 8 * s.count → v ≡ slice_range s.words (8 * (p / 8)) (8 * (p / 8) + 8) →
    ((l : ℕ) → kept_at es l ≡ cond (is_at (nat_cmp (p / 8)) l)
    (Some (more_older (kept_at s.kept (p / 8)) v)) (kept_at s.kept l)) →
    sparse_memory (record { count = s.count; words = set s.words p x; kept = es })
    ≡ after (sparse_memory s) (Store p x)
unfolding sparse_cache
store_sparse s es p x v tidy lt range is =
    let n = tidy.words in
    let within : p < length s.words = omega arith in
    λ i. record { lines = s.count; cache = λ l. store_at s es p x v l within range (is l) i }

-- memories whose lines have the same older versions are equal
pub same_sparse : (s : Sparse) (es : List (ℕ × Older)) → ((l : ℕ) → kept_at es l ≡ kept_at s.kept l)
    → sparse_memory (record { count = s.count; words = s.words; kept = es }) ≡ sparse_memory s
unfolding sparse_cache
same_sparse s es is = λ i. record { lines = s.count; cache = λ l. sparse_line s.words (is l i) l }

-- a flush of one line

line_flush : (words : List ℤ) (o : Option Older) (l : ℕ)
    → sparse_line words (option_map flush_older o) l ≡ flush_line (sparse_line words o l)
line_flush words None l = refl
line_flush words (Some y) l = λ i.
    record {
      older = map (version_words l) y.older;
      newest = newest_of words l;
      mark = mark_map l y.older y.mark i;
    }

flush_at : (s : Sparse) (es : List (ℕ × Older)) (k l : ℕ)
    → kept_at es l ≡ cond (is_at (nat_cmp k) l) (option_map flush_older (kept_at s.kept k))
    (kept_at s.kept l) →
    sparse_line s.words (kept_at es l) l ≡ apply (sparse_cache s) (Flush k) l
unfolding apply sparse_cache
flush_at s es k l is = ⊎_elim
    (λ (e : l ≡ k).
    ap (λ (o : Option Older). sparse_line s.words o l)
    (is ∙ ap (λ (b : Bool). cond b (option_map flush_older (kept_at s.kept k)) (kept_at s.kept l))
    (at_same k l e))
    ∙ ap (λ (j : ℕ). sparse_line s.words (option_map flush_older (kept_at s.kept j)) l) (sym e)
    ∙ line_flush s.words (kept_at s.kept l) l
    ∙ ap (λ (b : Bool). cond b (flush_line (sparse_line s.words (kept_at s.kept l) l))
    (sparse_line s.words (kept_at s.kept l) l)) (sym (eq-eqb l k e)))
    (λ (ne : l ≢ k).
    ap (λ (o : Option Older). sparse_line s.words o l)
    (is ∙ ap (λ (b : Bool). cond b (option_map flush_older (kept_at s.kept k)) (kept_at s.kept l))
    (at_other k l ne))
    ∙ ap (λ (b : Bool). cond b (flush_line (sparse_line s.words (kept_at s.kept l) l))
    (sparse_line s.words (kept_at s.kept l) l)) (sym (ne_eqb l k ne)))
    (cases_eq l k)

pub flush_sparse : (s : Sparse) (es : List (ℕ × Older)) (k : ℕ)
    → ((l : ℕ) → kept_at es l ≡ cond (is_at (nat_cmp k) l)
    (option_map flush_older (kept_at s.kept k))
    (kept_at s.kept l)) →
    sparse_memory (record { count = s.count; words = s.words; kept = es })
    ≡ after (sparse_memory s) (Flush k)
unfolding sparse_cache
flush_sparse s es k is = λ i. record { lines = s.count; cache = λ l. flush_at s es k l (is l) i }

-- a fence of all lines

-- the lines below k were fenced, and now line k is
pub fenced_line : (f g h : ℕ → Option Older) (k : ℕ)
    → ((q : ℕ) → g q ≡ cond (nat_lt q k) (fence_entry (f q)) (f q))
    → ((q : ℕ) → h q ≡ cond (is_at (nat_cmp k) q) (fence_entry (g k)) (g q))
    → (q : ℕ) → h q ≡ cond (nat_lt q (k + 1)) (fence_entry (f q)) (f q)
fenced_line f g h k was is q = ⊎_elim
    (λ (e : q ≡ k).
    is q ∙ ap (λ (b : Bool). cond b (fence_entry (g k)) (g q)) (at_same k q e)
    ∙ ap (λ (r : ℕ). fence_entry (g r)) (sym e)
    ∙ ap fence_entry (was q ∙ ap (λ (b : Bool). cond b (fence_entry (f q)) (f q))
    (le-ltb q k (omega arith)))
    ∙ sym (ap (λ (b : Bool). cond b (fence_entry (f q)) (f q)) (lt-ltb q (k + 1) (omega arith))))
    (λ (ne : q ≢ k).
    is q ∙ ap (λ (b : Bool). cond b (fence_entry (g k)) (g q)) (at_other k q ne) ∙ was q
    ∙ ap (λ (b : Bool). cond b (fence_entry (f q)) (f q)) (below ne (nat_lt q k) refl))
    (cases_eq q k)
  where
    below : q ≢ k → (b : Bool) → nat_lt q k ≡ b → b ≡ nat_lt q (k + 1)
    below ne true e = let lt = ltb-true q k e in sym (lt-ltb q (k + 1) (omega arith))
    below ne false e = let le = ltb-false q k e in sym (le-ltb q (k + 1) (omega arith))

fence_mark : (m : Option ℕ) (us : List (List ℤ))
    → (fence_older_at m (record { older = us; mark = m })).mark ≡ None
fence_mark None us = refl
fence_mark (Some k) us = refl

line_older : (m : Option ℕ) (us : List (List ℤ)) (l : ℕ) (n : Words)
    → record {
      older = map (version_words l)
          (fence_older_at m (record { older = us; mark = m })).older;
      newest = n;
      mark = None;
    }
    ≡ fence_at m (record { older = map (version_words l) us; newest = n; mark = m })
line_older None us l n = refl
line_older (Some k) us l n = λ i.
    record { older = sym (drop-map (version_words l) k us) i; newest = n; mark = None }

line_had : (words : List ℤ) (l : ℕ) (us : List (List ℤ)) (m : Option ℕ) → m ≡ None
    → sparse_line words (cond (has_older us) (Some (record { older = us; mark = m })) None) l
    ≡ record { older = map (version_words l) us; newest = newest_of words l; mark = None }
line_had words l [] m none = refl
line_had words l (u ∷ us) m none =
    λ i. record {
      older = map (version_words l) (u ∷ us);
      newest = newest_of words l;
      mark = none i;
    }

line_fence : (words : List ℤ) (o : Option Older) (l : ℕ) → sparse_line words (fence_entry o) l
    ≡ fence_line (sparse_line words o l)
line_fence words None l = refl
line_fence words (Some y) l =
    line_had words l (fence_older y).older (fence_older y).mark (fence_mark y.mark y.older)
    ∙ line_older y.mark y.older l (newest_of words l)

has_length : (us : List (List ℤ)) → has_older us ≡ true → 0 < length us
has_length [] e = absurd (cc)
has_length (u ∷ us) e = omega arith

-- a fence of the first lines is one of all, where the others have no older versions
pub fenced_first : (es fs : List (ℕ × Older)) (n : ℕ)
    → ((q : ℕ) (y : Older) → kept_at es q ≡ Some y → q < n)
    → ((q : ℕ) → kept_at fs q ≡ cond (nat_lt q n) (fence_entry (kept_at es q)) (kept_at es q))
    → (q : ℕ) → kept_at fs q ≡ fence_entry (kept_at es q)
fenced_first es fs n few is q = is q ∙ by (kept_at es q) (few q) (nat_lt q n) (λ lt. lt-ltb q n lt)
  where
    by : (o : Option Older) → ((y : Older) → o ≡ Some y → q < n) → (b : Bool)
        → (q < n → b ≡ true) → cond b (fence_entry o) o ≡ fence_entry o
    by o few true holds = refl
    by None few false holds = refl
    by (Some y) few false holds = absurd (let no : false ≡ true = holds (few y refl) in cc)

-- a fence of a line without a mark leaves it
unmarked_stays : (y : Older) → y.mark ≡ None → 0 < length y.older
    → fence_entry (Some y) ≡ Some y
unmarked_stays y none some = by y.mark y.older none some
  where
    by : (m : Option ℕ) (us : List (List ℤ)) → m ≡ None → 0 < length us
        → cond (has_older (fence_older_at m (record { older = us; mark = m })).older)
        (Some (fence_older_at m (record { older = us; mark = m }))) None
        ≡ Some (record { older = us; mark = m })
    by None [] e few = absurd (omega arith)
    by None (u ∷ us) e few = refl
    by (Some k) us e few = absurd (cc)

-- a line has a mark only if it has one of the listed
abbrev IsCovered : List ℕ → ℕ → Option Older → Type 0
IsCovered ls q o = (y : Older) → o ≡ Some y
    → ((y.mark ≡ None) × (0 < length y.older)) ⊎ (is_listed ls q ≡ true)

entry_stays : (o : Option Older) → IsCovered [] 0 o → fence_entry o ≡ o
entry_stays None covered = refl
entry_stays (Some y) covered = ⊎_elim
    (λ (h : (y.mark ≡ None) × (0 < length y.older)). unmarked_stays y h.0 h.1)
    (λ (f : false ≡ true). absurd (cc)) (covered y refl)

entry_mark : (o : Option Older) (y : Older) → fence_entry o ≡ Some y
    → (y.mark ≡ None) × (0 < length y.older)
entry_mark None y e = absurd (cc)
entry_mark (Some z) y e = by (has_older (fence_older z).older) refl e
  where
    by : (b : Bool) → has_older (fence_older z).older ≡ b
        → cond b (Some (fence_older z)) None ≡ Some y → (y.mark ≡ None) × (0 < length y.older)
    by true has e =
        let same : fence_older z ≡ y = same_Some (fence_older z) y e in (
          ap (λ (w : Older). w.mark) (sym same) ∙ fence_mark z.mark z.older,
          subst (λ (w : Older). 0 < length w.older) same (has_length (fence_older z).older has),
        )
    by false has e = absurd (cc)

fenced_twice : (o : Option Older) → fence_entry (fence_entry o) ≡ fence_entry o
fenced_twice o = entry_stays (fence_entry o) (λ y e. inl (entry_mark o y e))

-- a fence of the listed lines is a fence of all, where each line with a mark is listed
pub listed_all : (ls : List ℕ) (f : ℕ → Option Older) (q : ℕ) → IsCovered ls q (f q)
    → fence_lines ls f q ≡ fence_entry (f q)
listed_all [] f q covered = sym (entry_stays (f q) covered)
listed_all (l ∷ ls) f q covered = ⊎_elim
    (λ (e : q ≡ l).
    let here : cond (is_at (nat_cmp l) q) (fence_entry (f l)) (f q) ≡ fence_entry (f q) =
    ap (λ (b : Bool). cond b (fence_entry (f l)) (f q)) (at_same l q e)
    ∙ ap (λ (r : ℕ). fence_entry (f r)) (sym e) in
    listed_all ls (λ r. cond (is_at (nat_cmp l) r) (fence_entry (f l)) (f r)) q
    (λ y is. inl (entry_mark (f q) y (sym here ∙ is)))
    ∙ ap fence_entry here ∙ fenced_twice (f q))
    (λ (ne : q ≢ l).
    let there : cond (is_at (nat_cmp l) q) (fence_entry (f l)) (f q) ≡ f q =
    ap (λ (b : Bool). cond b (fence_entry (f l)) (f q)) (at_other l q ne) in
    listed_all ls (λ r. cond (is_at (nat_cmp l) r) (fence_entry (f l)) (f r)) q
    (λ y is. ⊎_elim
    (λ (h : (y.mark ≡ None) × (0 < length y.older)). inl h)
    (λ (h : is_listed (l ∷ ls) q ≡ true).
    inr (sym (ap (λ (b : Bool). cond b true (is_listed ls q)) (at_other l q ne)) ∙ h))
    (covered y (sym there ∙ is)))
    ∙ ap fence_entry there)
    (cases_eq q l)

pub fence_sparse : (s : Sparse) (es : List (ℕ × Older))
    → ((q : ℕ) → kept_at es q ≡ fence_entry (kept_at s.kept q)) →
    sparse_memory (record { count = s.count; words = s.words; kept = es })
    ≡ after (sparse_memory s) Fence
unfolding sparse_cache apply
fence_sparse s es is = λ i. record {
  lines = s.count;
  cache = λ l. (ap (λ (o : Option Older). sparse_line s.words o l) (is l)
      ∙ line_fence s.words (kept_at s.kept l) l) i;
}

more_some : (o : Option Older) (v : List ℤ) → 0 < length (more_older o v).older
more_some None v = omega arith
more_some (Some y) v = let n : length (y.older ++ v ∷ []) ≡ length y.older + 1 =
    length-append y.older (v ∷ []) in omega arith

pub tidy_store : (s : Sparse) (es : List (ℕ × Older)) (p : ℕ) (x : ℤ) (v : List ℤ) → IsTidySparse s
    → p < 8 * s.count →
    ((l : ℕ) → kept_at es l ≡ cond (is_at (nat_cmp (p / 8)) l)
    (Some (more_older (kept_at s.kept (p / 8)) v)) (kept_at s.kept l)) →
    IsTidySparse (record { count = s.count; words = set s.words p x; kept = es })
tidy_store s es p x v tidy lt is = record {
  words = length-set s.words p x ∙ tidy.words;
  lines = λ l y found. ⊎_elim
      (λ (e : l ≡ p / 8). omega arith)
      (λ (ne : l ≢ p / 8). tidy.lines l y
      (sym (ap (λ (b : Bool). cond b (Some (more_older (kept_at s.kept (p / 8)) v))
      (kept_at s.kept l)) (at_other (p / 8) l ne)) ∙ sym (is l) ∙ found))
      (cases_eq l (p / 8));
  more = λ l y found. ⊎_elim
      (λ (e : l ≡ p / 8).
      let same : more_older (kept_at s.kept (p / 8)) v ≡ y =
      same_Some (more_older (kept_at s.kept (p / 8)) v) y
      (sym (ap (λ (b : Bool). cond b (Some (more_older (kept_at s.kept (p / 8)) v))
      (kept_at s.kept l)) (at_same (p / 8) l e)) ∙ sym (is l) ∙ found) in
      subst (λ (z : Older). 0 < length z.older) same (more_some (kept_at s.kept (p / 8)) v))
      (λ (ne : l ≢ p / 8). tidy.more l y
      (sym (ap (λ (b : Bool). cond b (Some (more_older (kept_at s.kept (p / 8)) v))
      (kept_at s.kept l)) (at_other (p / 8) l ne)) ∙ sym (is l) ∙ found))
      (cases_eq l (p / 8));
}

flush_some : (o : Option Older) (y : Older) → option_map flush_older o ≡ Some y
    → (z : Older) × (o ≡ Some z) × (y.older ≡ z.older)
flush_some None y e = absurd (cc)
flush_some (Some z) y e = (
  z,
  refl,
  sym (ap (λ (w : Older). w.older) (same_Some (flush_older z) y e)),
)

pub tidy_flush : (s : Sparse) (es : List (ℕ × Older)) (k : ℕ) → IsTidySparse s
    → ((l : ℕ) → kept_at es l ≡ cond (is_at (nat_cmp k) l)
    (option_map flush_older (kept_at s.kept k))
    (kept_at s.kept l)) →
    IsTidySparse (record { count = s.count; words = s.words; kept = es })
tidy_flush s es k tidy is =
    let had : (l : ℕ) (y : Older) → kept_at es l ≡ Some y
    → (z : Older) × (kept_at s.kept l ≡ Some z) × (y.older ≡ z.older) = λ l y found. ⊎_elim
    (λ (e : l ≡ k).
    let f = flush_some (kept_at s.kept k) y
    (sym (ap (λ (b : Bool). cond b (option_map flush_older (kept_at s.kept k)) (kept_at s.kept l))
    (at_same k l e)) ∙ sym (is l) ∙ found) in
    (f.0, ap (λ (j : ℕ). kept_at s.kept j) e ∙ f.1, f.2))
    (λ (ne : l ≢ k). (
      y,
      sym (ap (λ (b : Bool). cond b (option_map flush_older (kept_at s.kept k))
          (kept_at s.kept l)) (at_other k l ne)) ∙ sym (is l) ∙ found,
      refl,
    ))
    (cases_eq l k) in
    record {
      words = tidy.words;
      lines = λ l y found. let h = had l y found in tidy.lines l h.0 h.1;
      more = λ l y found. let h = had l y found in
          subst (λ (us : List (List ℤ)). 0 < length us) (sym h.2) (tidy.more l h.0 h.1);
    }

fence_cond : (b : Bool) (z y : Older) → b ≡ has_older z.older → cond b (Some z) None ≡ Some y
    → 0 < length y.older
fence_cond true z y is e = subst (λ (w : Older). 0 < length w.older) (same_Some z y e)
    (has_length z.older (sym is))
fence_cond false z y is e = absurd (cc)

fence_some : (o : Option Older) (y : Older) → fence_entry o ≡ Some y → ((z : Older) × (o ≡ Some z))
    × (0 < length y.older)
fence_some None y e = absurd (cc)
fence_some (Some z) y e = (
  (z, refl),
  fence_cond (has_older (fence_older z).older) (fence_older z) y refl e,
)

pub tidy_fence : (s : Sparse) (es : List (ℕ × Older)) → IsTidySparse s
    → ((q : ℕ) → kept_at es q ≡ fence_entry (kept_at s.kept q))
    → IsTidySparse (record { count = s.count; words = s.words; kept = es })
tidy_fence s es tidy is =
    let had : (l : ℕ) (y : Older) → kept_at es l ≡ Some y
    → ((z : Older) × (kept_at s.kept l ≡ Some z)) × (0 < length y.older) =
    λ l y found. fence_some (kept_at s.kept l) y (sym (is l) ∙ found) in
    record {
      words = tidy.words;
      lines = λ l y found. let h = (had l y found).0 in tidy.lines l h.0 h.1;
      more = λ l y found. (had l y found).1;
    }

-- which lines are listed after the events

listed_more : (ls : List ℕ) (x q : ℕ) → is_listed ls q ≡ true → is_listed (ls ++ x ∷ []) q ≡ true
listed_more [] x q e = absurd (cc)
listed_more (l ∷ ls) x q e = by (is_at (nat_cmp l) q) e (listed_more ls x q)
  where
    by : (b : Bool) → cond b true (is_listed ls q) ≡ true
        → (is_listed ls q ≡ true → is_listed (ls ++ x ∷ []) q ≡ true)
        → cond b true (is_listed (ls ++ x ∷ []) q) ≡ true
    by true e more = refl
    by false e more = more e

listed_last : (ls : List ℕ) (x q : ℕ) → q ≡ x → is_listed (ls ++ x ∷ []) q ≡ true
listed_last [] x q e = ap (λ (b : Bool). cond b true false) (at_same x q e)
listed_last (l ∷ ls) x q e = by (is_at (nat_cmp l) q) (listed_last ls x q e)
  where
    by : (b : Bool) → is_listed (ls ++ x ∷ []) q ≡ true
        → cond b true (is_listed (ls ++ x ∷ []) q) ≡ true
    by true last = refl
    by false last = last

-- a store gives no line a mark
pub listed_store : (ls : List ℕ) (es fs : List (ℕ × Older)) (k : ℕ) (v : List ℤ) → AreListed ls es
    → ((l : ℕ) → kept_at fs l ≡ cond (is_at (nat_cmp k) l) (Some (more_older (kept_at es k) v))
    (kept_at es l)) → AreListed ls fs
listed_store ls es fs k v listed is q y found = ⊎_elim
    (λ (e : q ≡ k).
    by_entry (kept_at es q) refl (same_Some (more_older (kept_at es q) v) y
    (ap (λ (j : ℕ). Some (more_older (kept_at es j) v)) e
    ∙ sym (ap (λ (b : Bool). cond b (Some (more_older (kept_at es k) v)) (kept_at es q))
    (at_same k q e)) ∙ sym (is q) ∙ found)))
    (λ (ne : q ≢ k). listed q y
    (sym (ap (λ (b : Bool). cond b (Some (more_older (kept_at es k) v)) (kept_at es q))
    (at_other k q ne)) ∙ sym (is q) ∙ found))
    (cases_eq q k)
  where
    by_entry : (o : Option Older) → kept_at es q ≡ o → more_older o v ≡ y
        → (y.mark ≡ None) ⊎ (is_listed ls q ≡ true)
    by_entry None e same = inl (ap (λ (w : Older). w.mark) (sym same))
    by_entry (Some z) e same = ⊎_elim
        (λ (none : z.mark ≡ None). inl (ap (λ (w : Older). w.mark) (sym same) ∙ none))
        (λ (in_list : is_listed ls q ≡ true). inr in_list)
        (listed q z e)

-- the line that is flushed is listed last
pub listed_flush : (ls : List ℕ) (es fs : List (ℕ × Older)) (k : ℕ) → AreListed ls es
    → ((l : ℕ) → kept_at fs l ≡ cond (is_at (nat_cmp k) l)
    (option_map flush_older (kept_at es k)) (kept_at es l)) → AreListed (ls ++ k ∷ []) fs
listed_flush ls es fs k listed is q y found = ⊎_elim
    (λ (e : q ≡ k). inr (listed_last ls k q e))
    (λ (ne : q ≢ k). ⊎_elim
    (λ (none : y.mark ≡ None). inl none)
    (λ (in_list : is_listed ls q ≡ true). inr (listed_more ls k q in_list))
    (listed q y
    (sym (ap (λ (b : Bool). cond b (option_map flush_older (kept_at es k)) (kept_at es q))
    (at_other k q ne)) ∙ sym (is q) ∙ found)))
    (cases_eq q k)

-- after a fence no line has a mark
pub listed_fence : (es fs : List (ℕ × Older))
    → ((q : ℕ) → kept_at fs q ≡ fence_entry (kept_at es q)) → AreListed [] fs
listed_fence es fs is q y found = inl (entry_mark (kept_at es q) y (sym (is q) ∙ found)).0

-- a map without entries has no marks
pub listed_none : (ls : List ℕ) (es : List (ℕ × Older)) → es ≡ [] → AreListed ls es
listed_none ls es none q y found =
    absurd (none-some y (sym (ap (λ (fs : List (ℕ × Older)). kept_at fs q) none) ∙ found))

-- a fence of the listed lines, where each line with a mark is listed
pub fence_is : (es fs : List (ℕ × Older)) (ls : List ℕ)
    → ((q : ℕ) (y : Older) → kept_at es q ≡ Some y → 0 < length y.older)
    → AreListed ls es → ((q : ℕ) → kept_at fs q ≡ fence_lines ls (kept_at es) q)
    → (q : ℕ) → kept_at fs q ≡ fence_entry (kept_at es q)
fence_is es fs ls more listed is q =
    is q ∙ listed_all ls (kept_at es) q (λ y found. ⊎_elim
    (λ (none : y.mark ≡ None). inl (none, more q y found))
    (λ (in_list : is_listed ls q ≡ true). inr in_list)
    (listed q y found))

-- an empty list after a fence
pub listed_empty : (ls : List ℕ) → ls ≡ [] → (es fs : List (ℕ × Older))
    → ((q : ℕ) → kept_at fs q ≡ fence_entry (kept_at es q)) → AreListed ls fs
listed_empty ls none es fs is =
    subst (λ (ks : List ℕ). AreListed ks fs) (sym none) (listed_fence es fs is)

abbrev Lists : Bool → List ℕ → List (ℕ × Older) → Type 0
Lists unlisted ls es = (unlisted ≡ true) ⊎ AreListed ls es

-- what is known of the list after a flush, and after a store
pub listed_flushed : (u v : Bool) (ls ms : List ℕ) (es fs : List (ℕ × Older)) (k : ℕ)
    → Lists u ls es → (v ≡ true) ⊎ ((u ≡ false) × (ms ≡ ls ++ k ∷ []))
    → ((l : ℕ) → kept_at fs l ≡ cond (is_at (nat_cmp k) l)
    (option_map flush_older (kept_at es k)) (kept_at es l)) → Lists v ms fs
listed_flushed u v ls ms es fs k had now is = ⊎_elim
    (λ (all : v ≡ true). inl all)
    (λ (h : (u ≡ false) × (ms ≡ ls ++ k ∷ [])). ⊎_elim
    (λ (all : u ≡ true). absurd (false≢true (sym h.0 ∙ all)))
    (λ (listed : AreListed ls es). inr (subst (λ (ns : List ℕ). AreListed ns fs) (sym h.1)
    (listed_flush ls es fs k listed is)))
    had)
    now

pub listed_stored : (u : Bool) (ls : List ℕ) (es fs : List (ℕ × Older)) (k : ℕ) (v : List ℤ)
    → Lists u ls es
    → ((l : ℕ) → kept_at fs l ≡ cond (is_at (nat_cmp k) l) (Some (more_older (kept_at es k) v))
    (kept_at es l)) → Lists u ls fs
listed_stored u ls es fs k v had is = ⊎_elim
    (λ (all : u ≡ true). inl all)
    (λ (listed : AreListed ls es). inr (listed_store ls es fs k v listed is)) had

-- a fence of one line and then of the others
fence_lines_same : (ls : List ℕ) (f g : ℕ → Option Older) → ((r : ℕ) → f r ≡ g r) → (q : ℕ)
    → fence_lines ls f q ≡ fence_lines ls g q
fence_lines_same ls f g same q = λ i. fence_lines ls (λ r. same r i) q

pub fenced_next : (ks ls : List ℕ) (l : ℕ) (es fs : List (ℕ × Older)) → ks ≡ l ∷ ls
    → ((r : ℕ) → kept_at fs r ≡ cond (is_at (nat_cmp l) r) (fence_entry (kept_at es l))
    (kept_at es r)) → (q : ℕ) → fence_lines ls (kept_at fs) q ≡ fence_lines ks (kept_at es) q
fenced_next ks ls l es fs here is q =
    fence_lines_same ls (kept_at fs) (λ r. cond (is_at (nat_cmp l) r) (fence_entry (kept_at es l))
    (kept_at es r)) is q ∙ ap (λ (ns : List ℕ). fence_lines ns (kept_at es) q) (sym here)

-- the list has all lines with a mark where the other case is excluded
pub fence_or_all : (u : Bool) (es fs : List (ℕ × Older)) (ls : List ℕ) → u ≡ false
    → Lists u ls es → ((q : ℕ) (y : Older) → kept_at es q ≡ Some y → 0 < length y.older)
    → ((q : ℕ) → kept_at fs q ≡ fence_lines ls (kept_at es) q)
    → (q : ℕ) → kept_at fs q ≡ fence_entry (kept_at es q)
fence_or_all u es fs ls none had more is = ⊎_elim
    (λ (all : u ≡ true). absurd (false≢true (sym none ∙ all)))
    (λ (listed : AreListed ls es). fence_is es fs ls more listed is) had
