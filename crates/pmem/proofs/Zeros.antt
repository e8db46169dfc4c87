-- The first word that is 0, and what stays known of the words after a search and a store.
use Rattle.std.proofs.Common.{◌≡◌, ◌≢◌, ◌⊎◌, inl, inr, ⊎_elim, ℕ, zero, suc, ◌+◌, ◌*◌, ◌/◌, ◌<◌}
use Rattle.std.proofs.Common.{◌≤◌, Bool, true, false, List, [], ◌∷◌, ◌++◌, length, set, get_or, ℤ}
use Rattle.std.proofs.Common.{pos, refl, sym, ap, ◌∙◌, arith}
use Rattle.std.proofs.lemmas.Bool.{cases_eq}
use Rattle.std.proofs.Math.Nat.{mul-le-mul_left}
use Rattle.std.proofs.lemmas.List.{get_or-set_same, get_or-set_other, get_or_default}
use Rattle.cache_model.specs.Cache.{view}
use Rattle.pmem.specs.Sparse.{Sparse, sparse_cache, IsTidySparse}
use Rattle.pmem.specs.Zeros.{IsFirstZero}
use Rattle.pmem.specs.declared.full_words.TheConstants.{CHUNK, AREA}
use Rattle.pmem.specs.inside.Zeros.{AreFull, AreFullParts}
use Rattle.pmem.proofs.Cuts.{view_sparse}

-- flags after one was set or taken away

pub flag_set : (flags : List Bool) (c k : ℕ) → get_or (set flags c true) k false ≡ true
    → (k ≡ c) ⊎ (get_or flags k false ≡ true)
flag_set flags c k is = ⊎_elim
    (λ (same : k ≡ c). inl same)
    (λ (other : k ≢ c). inr (sym (get_or-set_other flags c k true false other) ∙ is))
    (cases_eq k c)

pub flag_pushed : (flags : List Bool) (c k : ℕ) → c ≡ length flags
    → get_or (flags ++ true ∷ []) k false ≡ true → (k ≡ c) ⊎ (get_or flags k false ≡ true)
flag_pushed flags c k at is = ⊎_elim
    (λ (last : k ≡ length flags). inl (last ∙ sym at))
    (λ (had : get_or flags k false ≡ true). inr had)
    (by flags k is)
  where
    by : (bs : List Bool) (j : ℕ) → get_or (bs ++ true ∷ []) j false ≡ true
        → (j ≡ length bs) ⊎ (get_or bs j false ≡ true)
    by [] zero e = inl refl
    by [] (suc j) e = inr e
    by (b ∷ bs) zero e = inr e
    by (b ∷ bs) (suc j) e = ⊎_elim
        (λ (last : j ≡ length bs). inl (omega (arith, last)))
        (λ (had : get_or bs j false ≡ true). inr had)
        (by bs j e)

flag_within : (flags : List Bool) (k : ℕ) → get_or flags k false ≡ true → k < length flags
flag_within [] k is = absurd (let no_flag : false ≡ true = is in cc)
flag_within (b ∷ bs) zero is = omega arith
flag_within (b ∷ bs) (suc k) is = let lt = flag_within bs k is in omega arith

pub flag_cleared : (flags : List Bool) (c k : ℕ) → c < length flags
    → get_or (set flags c false) k false ≡ true → (k ≢ c) × (get_or flags k false ≡ true)
flag_cleared flags c k lt is = ⊎_elim
    (λ (same : k ≡ c). absurd (let no_flag : false ≡ true =
    sym (get_or-set_same flags c false false lt)
    ∙ sym (ap (λ (j : ℕ). get_or (set flags c false) j false) same) ∙ is in cc))
    (λ (other : k ≢ c). (other, sym (get_or-set_other flags c k false false other) ∙ is))
    (cases_eq k c)

pub flag_past : (flags : List Bool) (c k : ℕ) → length flags ≤ c → get_or flags k false ≡ true
    → (k ≢ c) × (get_or flags k false ≡ true)
flag_past flags c k past is =
    let lt = flag_within flags k is in
    (λ same. absurd (let nothing : ⊥ = omega arith in nothing), is)

-- a store of another word, or of another value than 0

stays : (words : List ℤ) (w p : ℕ) (x : ℤ) → w < length words → get_or words p (pos 0) ≢ pos 0
    → (p ≡ w → x ≢ pos 0) → get_or (set words w x) p (pos 0) ≢ pos 0
stays words w p x lt full ok e = ⊎_elim
    (λ (same : p ≡ w). ok same (sym (get_or-set_same words w x (pos 0) lt)
    ∙ sym (ap (λ (q : ℕ). get_or (set words w x) q (pos 0)) same) ∙ e))
    (λ (other : p ≢ w). full (sym (get_or-set_other words w p x (pos 0) other) ∙ e))
    (cases_eq p w)

pub known_stored : (words : List ℤ) (f d n : ℕ) (chunks areas : List Bool) (w : ℕ) (x : ℤ)
    → ((i : ℕ) → f + d * i ≡ w → x ≢ pos 0) → w < length words
    → AreFull words f d n × AreFullParts CHUNK words f d chunks × AreFullParts AREA words f d areas
    → AreFull (set words w x) f d n × AreFullParts CHUNK (set words w x) f d chunks
    × AreFullParts AREA (set words w x) f d areas
known_stored words f d n chunks areas w x ok lt known = (
  λ i less. stays words w (f + d * i) x lt (known.0 i less) (ok i),
  λ i flag. stays words w (f + d * i) x lt (known.1 i flag) (ok i),
  λ i flag. stays words w (f + d * i) x lt (known.2 i flag) (ok i),
)

-- a store of a word that is one of the searched ones: what is forgotten has its number

other_word : (f d i n w : ℕ) → 1 ≤ d → f + d * n ≡ w → i ≢ n → f + d * i ≢ w
other_word f d i n w some at other e =
    let before : i < n → ⊥ = λ less.
    let more : d * suc i ≤ d * n = mul-le-mul_left d less in omega arith in
    let after : n < i → ⊥ = λ less.
    let more : d * suc n ≤ d * i = mul-le-mul_left d less in omega arith in
    other (omega (arith, before, after))

kept_full : (words : List ℤ) (f d i n w : ℕ) (x : ℤ) → 1 ≤ d → f + d * n ≡ w → i ≢ n
    → get_or words (f + d * i) (pos 0) ≢ pos 0
    → get_or (set words w x) (f + d * i) (pos 0) ≢ pos 0
kept_full words f d i n w x some at other full e = full (sym (get_or-set_other words w (f + d * i) x
    (pos 0) (other_word f d i n w some at other)) ∙ e)

pub known_cleared : (words : List ℤ) (f d n count m : ℕ) (chunks areas chunks' areas' : List Bool)
    (w : ℕ) (x : ℤ) → 1 ≤ d → f + d * n ≡ w → m ≤ count → m ≤ n
    → ((k : ℕ) → get_or chunks' k false ≡ true
    → (k ≢ n / CHUNK) × (get_or chunks k false ≡ true))
    → ((k : ℕ) → get_or areas' k false ≡ true → (k ≢ n / AREA) × (get_or areas k false ≡ true))
    → AreFull words f d count × AreFullParts CHUNK words f d chunks
    × AreFullParts AREA words f d areas
    → AreFull (set words w x) f d m × AreFullParts CHUNK (set words w x) f d chunks'
    × AreFullParts AREA (set words w x) f d areas'
known_cleared words f d n count m chunks areas chunks' areas' w x some at few before in_chunk
    in_area known = (
      λ i less. kept_full words f d i n w x some at (λ same. omega (arith, less, before, same))
          (known.0 i (omega (arith, less, few))),
      λ i flag. kept_full words f d i n w x some at
          (λ same. (in_chunk (i / CHUNK) flag).0 (ap (λ (j : ℕ). j / CHUNK) same))
          (known.1 i (in_chunk (i / CHUNK) flag).1),
      λ i flag. kept_full words f d i n w x some at
          (λ same. (in_area (i / AREA) flag).0 (ap (λ (j : ℕ). j / AREA) same))
          (known.2 i (in_area (i / AREA) flag).1),
    )

-- the first 0 among the newest words is the first in the view
pub first_in_view : (s m : Sparse) (words : List ℤ) (w d k n : ℕ) → s ≡ m → IsTidySparse s
    → words ≡ s.words → 1 ≤ d → w + d * k ≤ 8 * m.count
    → IsFirstZero (λ p. get_or words p (pos 0)) w d k n
    → IsFirstZero (view (sparse_cache m)) w d k n
first_in_view s m words w d k n same tidy is some inside first =
    let lines : s.count ≡ m.count = ap (λ (z : Sparse). z.count) same in
    let here : (i : ℕ) → i < k → get_or words (w + d * i) (pos 0)
    ≡ view (sparse_cache m) (w + d * i) = λ i less.
    let more : d * suc i ≤ d * k = mul-le-mul_left d less in
    ap (λ (ys : List ℤ). get_or ys (w + d * i) (pos 0)) is
    ∙ view_sparse s m (w + d * i) (get_or s.words (w + d * i) (pos 0)) same tidy (omega arith)
    (get_or_default s.words (w + d * i) (pos 0) (get_or s.words (w + d * i) (pos 0))
    (omega (arith, tidy.words, lines, inside, more, some))) in
    record {
      few = first.few;
      before = λ i less e. first.before i less (here i (omega (arith, first.few)) ∙ e);
      there = λ less. sym (here n less) ∙ first.there less;
    }
