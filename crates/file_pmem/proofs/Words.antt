-- The words of a line, read one by one.
use Rattle.std.proofs.Common.{◌≡◌, ⊎_elim, ℕ, ◌+◌, ◌*◌, ◌/◌, ◌%◌, ◌<◌, List, ℤ, pos, ap, ◌∙◌}
use Rattle.std.proofs.Common.{subst, arith, length, set, get_or}
use Rattle.std.proofs.lemmas.Bool.{cases_eq}
use Rattle.std.proofs.lemmas.List.{get_or-set_same, get_or-set_other}
use Rattle.cache_model.specs.Cache.{Cache, view}
use Rattle.file_pmem.specs.File.{AgreesAt}

word_at : (p l at : ℕ) → p / 8 ≡ l → p % 8 ≡ at → 8 * l + at ≡ p
word_at p l at e f =
    let place : 8 * (p / 8) + p % 8 ≡ p = omega arith in
    subst (λ (k : ℕ). 8 * k + at ≡ p) e (subst (λ (k : ℕ). 8 * (p / 8) + k ≡ p) f place)

-- the words of line l that were read so far, those before `at`
abbrev pub AreRead : Cache → ℕ → ℕ → List ℤ → Type 0
AreRead c l at ws = (p : ℕ) → p / 8 ≡ l → p % 8 < at → get_or ws (p % 8) (pos 0) ≡ view c p

pub read_more : (c : Cache) (l at : ℕ) (ws : List ℤ) (x : ℤ) → at < length ws
    → x ≡ view c (8 * l + at) → AreRead c l at ws → AreRead c l (at + 1) (set ws at x)
read_more c l at ws x lt is read p e lt_p = ⊎_elim
    (λ (here : p % 8 ≡ at).
    ap (λ (i : ℕ). get_or (set ws at x) i (pos 0)) here ∙ get_or-set_same ws at x (pos 0) lt ∙ is
    ∙ ap (λ (q : ℕ). view c q) (word_at p l at e here))
    (λ (other : p % 8 ≡ at → ⊥).
    get_or-set_other ws at (p % 8) x (pos 0) other ∙ read p e (omega arith))
    (cases_eq (p % 8) at)

-- once all eight are read, they are the newest version
pub all_read : (c : Cache) (l : ℕ) (ws : List ℤ) → AreRead c l 8 ws → AgreesAt l ws (c l).newest
unfolding view
all_read c l ws read p e =
    let lt : p % 8 < 8 = omega arith in
    read p e lt ∙ ap (λ (k : ℕ). (c k).newest p) e

pub ruleset words = (read_more, all_read)
