-- What only bodies and proofs need beside `Sparse`.
use Rattle.std.specs.Prelude.{ℕ, ◌⊎◌, ◌+◌, ◌≡◌, cond, Bool, true, false, List, [], ◌∷◌, ◌++◌}
use Rattle.std.specs.Prelude.{length, drop, slice_get, Option, Some, None, ℤ}
use Rattle.std.specs.Ordering.{nat_cmp}
use Rattle.std.specs.BTreeMap.{is_at}
use Rattle.cache_model.specs.Cache.{Words}
use Rattle.cache_model.specs.Lists.{version_words}
use Rattle.cache_model.specs.inside.Lists.{list_mark}
use Rattle.cache_model.specs.declared.choice.Rest.{Rest}
use Rattle.cache_model.specs.declared.choice.Rest.TheVariants.{Old, New}
use Rattle.pmem.specs.Sparse.{Older, kept_at}

-- the older versions after one more version, a flush and a fence
abbrev pub more_older : Option Older → List ℤ → Older
more_older None v = record { older = v ∷ []; mark = None }
more_older (Some y) v = record { older = y.older ++ v ∷ []; mark = y.mark }

abbrev pub flush_older : Older → Older
flush_older y = record { older = y.older; mark = list_mark y.older y.mark }

abbrev pub fence_older_at : Option ℕ → Older → Older
fence_older_at None y = y
fence_older_at (Some k) y = record { older = drop k y.older; mark = None }

abbrev pub fence_older : Older → Older
fence_older y = fence_older_at y.mark y

-- whether there is an older version
abbrev pub has_older : List (List ℤ) → Bool
has_older [] = false
has_older (v ∷ vs) = true

-- a fence of one line: without older versions it loses its entry
abbrev pub fence_entry : Option Older → Option Older
fence_entry None = None
fence_entry (Some y) = cond (has_older (fence_older y).older) (Some (fence_older y)) None

-- a fence of the listed lines, one after another
abbrev pub fence_lines : List ℕ → (ℕ → Option Older) → ℕ → Option Older
fence_lines [] f q = f q
fence_lines (l ∷ ls) f q =
    fence_lines ls (λ r. cond (is_at (nat_cmp l) r) (fence_entry (f l)) (f r)) q

-- whether a line is listed
abbrev pub is_listed : List ℕ → ℕ → Bool
is_listed [] q = false
is_listed (l ∷ ls) q = cond (is_at (nat_cmp l) q) true (is_listed ls q)

-- each line with a mark is listed
abbrev pub AreListed : List ℕ → List (ℕ × Older) → Type 0
AreListed ls es = (q : ℕ) (y : Older) → kept_at es q ≡ Some y
    → (y.mark ≡ None) ⊎ (is_listed ls q ≡ true)

-- the older version that a power cut leaves of a line; none if it leaves the newest
abbrev pub left_older : Rest → Option ℕ → Older → Option (List ℤ)
left_older rest (Some k) y = slice_get y.older k
left_older Old None y = slice_get y.older 0
left_older New None y = None

-- the words of a line that keeps that older version, or else its newest
abbrev pub or_newest : ℕ → Words → Option (List ℤ) → Words
or_newest l n None = n
or_newest l n (Some v) = version_words l v

-- the number of versions of a line
abbrev pub count_of : Option Older → ℕ
count_of None = 1
count_of (Some y) = length y.older + 1
