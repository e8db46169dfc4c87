-- The effect of a power cut on a sparse memory, line by line.
use Rattle.std.proofs.Common.{◌≡◌, ◌≢◌, ⊎_elim, ℕ, zero, suc, ◌+◌, ◌*◌, ◌/◌, ◌<◌, ◌==◌, nat_lt}
use Rattle.std.proofs.Common.{◌&&◌, replicate, cond, Bool, true, false, List, [], ◌∷◌, ◌++◌, map}
use Rattle.std.proofs.Common.{length, get_or, slice_get, Option, Some, None, Result, Ok, Err, OnErr}
use Rattle.std.proofs.Common.{ℤ, pos, refl, sym, ap, ◌∙◌, arith, eq-eqb, ne_eqb, FitsSigned, w64}
use Rattle.std.proofs.Common.{to_z, of_z}
use Rattle.std.specs.Ordering.{nat_cmp}
use Rattle.std.specs.BTreeMap.{is_at}
use Rattle.std.proofs.lemmas.Int.{to_z-of_z}
use Rattle.std.proofs.lemmas.List.{length-replicate}
use Rattle.std.proofs.lemmas.Bool.{cases_eq, lt-ltb}
use Rattle.cache_model.specs.Cache.{Words, versions, view, blank}
use Rattle.cache_model.specs.Collapse.{picked, kept, left_cache, is_good_pick, version_count}
use Rattle.cache_model.specs.Collapse.{collapse}
use Rattle.cache_model.specs.Lists.{version_words}
use Rattle.cache_model.specs.declared.choice.Rest.{Rest}
use Rattle.cache_model.specs.declared.choice.Rest.TheVariants.{Old, New}
use Rattle.cache_model.specs.declared.choice.Pick.{Pick}
use Rattle.cache_model.specs.declared.choice.Choice.{Choice}
use Rattle.cache_model.proofs.Lists.{cond_same, zeros_at}
use Rattle.pmem.specs.Filled.{filled_memory}
use Rattle.pmem.specs.Sparse.{Older, Sparse, kept_at, newest_of, sparse_line, sparse_cache}
use Rattle.pmem.specs.Sparse.{sparse_memory, IsTidySparse}
use Rattle.pmem.specs.inside.Sparse.{left_older, or_newest, count_of}
use Rattle.pmem.proofs.Sparses.{newest_on, at_same, at_other}

pub round : (x : ℤ) → FitsSigned w64 x → to_z w64 (of_z w64 x) ≡ x
round x fits = simp to_z-of_z refl

pub on_err : {A E P : Type 0} (r : Result A E) → P → OnErr r P
on_err (Ok _) p = tt
on_err (Err _) p = p

at_get : (l : ℕ) (us : List (List ℤ)) (n : Words) (k : ℕ)
    → get_or (map (version_words l) us ++ n ∷ []) k n ≡ or_newest l n (slice_get us k)
at_get l [] n zero = refl
at_get l [] n (suc k) = refl
at_get l (u ∷ us) n zero = refl
at_get l (u ∷ us) n (suc k) = at_get l us n k

kept_some : (rest : Rest) (pick : Option ℕ) (words : List ℤ) (y : Older) (l : ℕ)
    → kept rest pick (sparse_line words (Some y) l) ≡ or_newest l (newest_of words l)
    (left_older rest pick y)
kept_some rest (Some k) words y l = at_get l y.older (newest_of words l) k
kept_some Old None words y l = at_get l y.older (newest_of words l) 0
kept_some New None words y l = refl

pub kept_none : (rest : Rest) (pick : Option ℕ) (words : List ℤ) (l : ℕ)
    → kept rest pick (sparse_line words None l) ≡ newest_of words l
kept_none rest (Some zero) words l = refl
kept_none rest (Some (suc k)) words l = refl
kept_none Old None words l = refl
kept_none New None words l = refl

-- overwriting the newest words of a line doesn't change its older versions
kept_words : (rest : Rest) (pick : Option ℕ) (words other : List ℤ) (o : Option Older) (l q : ℕ)
    → ((r : ℕ) → newest_of other l r ≡ newest_of words l r)
    → kept rest pick (sparse_line other o l) q
    ≡ kept rest pick (sparse_line words o l) q
kept_words rest pick words other None l q same =
    λ i. kept rest pick (record { older = []; newest = λ r. same r i; mark = None }) q
kept_words rest pick words other (Some y) l q same =
    λ i. kept rest pick (record {
      older = map (version_words l) y.older;
      newest = λ r.
          same r i;
      mark = y.mark;
    }) q

-- Cutting one line and dropping its older versions doesn't change what the choice leaves of each
-- line.
pub cut_step : (rest : Rest) (pick : ℕ → Option ℕ) (words other : List ℤ) (es fs : List (ℕ × Older))
    (line : ℕ) (y : Older) →
    kept_at es line ≡ Some y →
    ((q : ℕ) → kept_at fs q ≡ cond (is_at (nat_cmp line) q) None (kept_at es q)) →
    ((l q : ℕ) → newest_of other l q ≡ or_newest l (newest_of words l)
    (cond (l == line) (left_older rest (pick line) y) None) q) →
    (l q : ℕ) → kept rest (pick l) (sparse_line other (kept_at fs l) l) q ≡ kept rest (pick l)
    (sparse_line words (kept_at es l) l) q
cut_step rest pick words other es fs line y found gone wrote l q = ⊎_elim
    (λ (e : l ≡ line).
    ap (λ (o : Option Older). kept rest (pick l) (sparse_line other o l) q)
    (gone l ∙ ap (λ (b : Bool). cond b None (kept_at es l)) (at_same line l e))
    ∙ (λ i. kept_none rest (pick l) other l i q)
    ∙ wrote l q
    ∙ ap (λ (b : Bool). or_newest l (newest_of words l)
    (cond b (left_older rest (pick line) y) None) q) (eq-eqb l line e)
    ∙ ap (λ (k : ℕ). or_newest l (newest_of words l) (left_older rest (pick k) y) q) (sym e)
    ∙ sym (λ i. kept_some rest (pick l) words y l i q)
    ∙ ap (λ (o : Option Older). kept rest (pick l) (sparse_line words o l) q)
    (sym found ∙ ap (λ (k : ℕ). kept_at es k) (sym e)))
    (λ (ne : l ≢ line).
    ap (λ (o : Option Older). kept rest (pick l) (sparse_line other o l) q)
    (gone l ∙ ap (λ (b : Bool). cond b None (kept_at es l)) (at_other line l ne))
    ∙ kept_words rest (pick l) words other (kept_at es l) l q
    (λ r. wrote l r ∙ ap (λ (b : Bool).
    or_newest l (newest_of words l) (cond b (left_older rest (pick line) y) None) r)
    (ne_eqb l line ne)))
    (cases_eq l line)

pub cut_done : (rest : Rest) (pick : Option ℕ) (words : List ℤ) (es : List (ℕ × Older)) (l q : ℕ)
    → es ≡ [] → newest_of words l q ≡ kept rest pick (sparse_line words (kept_at es l) l) q
cut_done rest pick words es l q none = sym (λ i. kept_none rest pick words l i q)
    ∙ ap (λ (f : List (ℕ × Older)). kept rest pick (sparse_line words (kept_at f l) l) q) (sym none)

pub cut_sparse : (s : Sparse) (other : List ℤ) (es : List (ℕ × Older)) (choice : Choice) → es ≡ [] →
    ((l q : ℕ) → newest_of other l q ≡ kept choice.rest (picked choice.picks l)
    (sparse_line s.words (kept_at s.kept l) l) q) →
    sparse_memory (record { count = s.count; words = other; kept = es })
    ≡ collapse (sparse_memory s) choice
unfolding sparse_cache left_cache
cut_sparse s other es choice none is =
    ap (λ (f : List (ℕ × Older)). sparse_memory
    (record { count = s.count; words = other; kept = f })) none
    ∙ (λ i. record {
      lines = s.count;
      cache = λ l.
          record { older = []; newest = λ q. is l q i; mark = None };
    })

count_map : (l : ℕ) (us : List (List ℤ)) (n : Words) → length (map (version_words l) us ++ n ∷ [])
    ≡ length us + 1
count_map l [] n = omega arith
count_map l (u ∷ us) n = ap suc (count_map l us n) ∙ omega arith

line_versions : (words : List ℤ) (o : Option Older) (l : ℕ)
    → length (versions (sparse_line words o l)) ≡ count_of o
line_versions words None l = refl
line_versions words (Some y) l = count_map l y.older (newest_of words l)

pub has_good : (s m : Sparse) (p : Pick) (n : ℕ) → s ≡ m → p.line < m.count
    → n ≡ count_of (kept_at s.kept p.line) → nat_lt p.version n ≡ is_good_pick (sparse_memory m) p
unfolding sparse_cache
has_good s m p n same lt is =
    ap (λ (k : ℕ). nat_lt p.version k)
    (is ∙ sym (line_versions s.words (kept_at s.kept p.line) p.line)
    ∙ ap (λ (z : Sparse). length (versions (sparse_cache z p.line))) same)
    ∙ ap (λ (b : Bool). b && nat_lt p.version (length (versions (sparse_cache m p.line))))
    (sym (lt-ltb p.line m.count lt))

pub count_is : (s : Sparse) (l : ℕ) → l < s.count
    → count_of (kept_at s.kept l) ≡ version_count (sparse_memory s) l
unfolding sparse_cache
count_is s l lt =
    sym (line_versions s.words (kept_at s.kept l) l)
    ∙ sym (ap (λ (b : Bool). cond b (length (versions (sparse_cache s l))) 0) (lt-ltb l s.count lt))

view_here : (s : Sparse) (p : ℕ) (o : Option Older) → (sparse_line s.words o (p / 8)).newest p
    ≡ get_or s.words p (pos 0)
view_here s p None = newest_on s.words (p / 8) p refl
view_here s p (Some y) = newest_on s.words (p / 8) p refl

-- in range, the default value doesn't matter
word_any : (xs : List ℤ) (k : ℕ) (d e : ℤ) → k < length xs → get_or xs k d ≡ get_or xs k e
word_any [] k d e lt = absurd (let h : ⊥ = omega arith in h)
word_any (x ∷ xs) zero d e lt = refl
word_any (x ∷ xs) (suc k) d e lt = word_any xs k d e (omega arith)

pub view_sparse : (s m : Sparse) (p : ℕ) (x : ℤ) → s ≡ m → IsTidySparse s → p < 8 * m.count
    → x ≡ get_or s.words p x → x ≡ view (sparse_cache m) p
unfolding view sparse_cache
view_sparse s m p x same tidy lt is =
    let n : s.count ≡ m.count = ap (λ (z : Sparse). z.count) same in
    let len = tidy.words in
    is ∙ word_any s.words p x (pos 0) (omega arith) ∙ sym (view_here s p (kept_at s.kept (p / 8)))
    ∙ ap (λ (z : Sparse). view (sparse_cache z) p) same

pub gone_some : (b : Bool) (o : Option Older) (y : Older) → cond b None o ≡ Some y → o ≡ Some y
gone_some true o y e = absurd (cc)
gone_some false o y e = e

pub blank_sparse : (s : Sparse) (n : ℕ) → s.count ≡ n → s.words ≡ replicate (8 * n) (pos 0)
    → s.kept ≡ [] → sparse_memory s ≡ record { lines = n; cache = blank }
unfolding sparse_cache
blank_sparse s n count words none =
    (λ i. sparse_memory (record { count = count i; words = words i; kept = none i }))
    ∙ (λ i. record {
      lines = n;
      cache = λ l.
          record {
            older = [];
            newest = λ q.
                cond_same (q / 8 == l) (get_or (replicate (8 * n) (pos 0)) q (pos 0))
                (zeros_at (8 * n) q) i;
            mark = None;
          };
    })

pub filled_tidy : (s : Sparse) → length s.words ≡ 8 * s.count → s.kept ≡ [] → IsTidySparse s
filled_tidy s whole none = record {
  words = whole;
  lines = λ l y found. absurd (let no : Some y ≡ None = sym found
      ∙ ap (λ (f : List (ℕ × Older)). kept_at f l) none in cc);
  more = λ l y found. absurd (let no : Some y ≡ None = sym found
      ∙ ap (λ (f : List (ℕ × Older)). kept_at f l) none in cc);
}

pub blank_tidy : (s : Sparse) → s.words ≡ replicate (8 * s.count) (pos 0) → s.kept ≡ []
    → IsTidySparse s
blank_tidy s words none =
    filled_tidy s (ap length words ∙ length-replicate (8 * s.count) (pos 0)) none

pub filled_sparse : (s : Sparse) (words : List ℤ) → s.count ≡ length words / 8 → s.words ≡ words
    → s.kept ≡ [] → sparse_memory s ≡ filled_memory words
unfolding sparse_cache
filled_sparse s all count words none =
    λ i. sparse_memory (record { count = count i; words = words i; kept = none i })

pub cut_tidy : (s : Sparse) (other : List ℤ) (es : List (ℕ × Older)) → IsTidySparse s
    → length other ≡ length s.words → es ≡ []
    → IsTidySparse (record { count = s.count; words = other; kept = es })
cut_tidy s other es tidy len none =
    filled_tidy (record { count = s.count; words = other; kept = es }) (len ∙ tidy.words) none
