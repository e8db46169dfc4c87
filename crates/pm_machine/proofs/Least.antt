-- A search finds the least free slot.
use Rattle.std.proofs.Common.{◌≡◌, ◌≢◌, ◌⊎◌, inl, inr, ⊎_elim, ℕ, zero, suc, ◌+◌, ◌-◌, ◌*◌, ◌<◌}
use Rattle.std.proofs.Common.{if◌then◌else◌, Bool, true, false, ℤ, pos, negsuc, refl, sym, ap}
use Rattle.std.proofs.Common.{◌∙◌, subst, arith, ltb}
use Rattle.std.specs.Ordering.{int_eq}
use Rattle.std.proofs.Math.Nat.{mul-suc}
use Rattle.std.proofs.lemmas.Bool.{cases_eq, lt-ltb, le-ltb}
use Rattle.cache_model.specs.Cache.{Words}
use Rattle.pool_layout.specs.declared.limits.Sizes.{Sizes}
use Rattle.pool_layout.specs.Sizes.{slot_words, slot_word}
use Rattle.pm_machine.specs.Find.{free_of, least, IsLeast, FindLaw}

pub zero_cases : (x : ℤ) →
    ((int_eq x (pos 0) ≡ true) × (x ≡ pos 0)) ⊎ ((int_eq x (pos 0) ≡ false) × (x ≢ pos 0))
zero_cases (pos zero) = inl (refl, refl)
zero_cases (pos (suc n)) =
    let some : int_eq (pos (suc n)) (pos 0) ≡ false =
    (let above : ltb 0 (suc n) ≡ true = lt-ltb 0 (suc n) (omega arith) in
    let low : ltb (suc n) 0 ≡ false = le-ltb (suc n) 0 (omega arith) in rw (low, above) refl) in
    inr (some, λ e. absurd (cc))
zero_cases (negsuc n) = inr (refl, λ e. absurd (cc))

-- the header after i others, counted from the second one and from the first
pub next_start : (w d i : ℕ) → w + d + d * i ≡ w + d * suc i
next_start w d i = omega (arith, mul-suc d i)

pub first_start : (w d : ℕ) → w + d * 0 ≡ w
first_start w d = omega arith

-- r is the least free of n slots from number q on, whose headers begin at word w and are d words
-- apart, or 0 if none is free
data Finds (heap : Words) (d n q w r : ℕ) : Type 0 where
  none : r ≡ 0 → ((i : ℕ) → i < n → heap (w + d * i) ≢ pos 0) → Finds heap d n q w r
  some : (i : ℕ) → i < n → r ≡ q + i → heap (w + d * i) ≡ pos 0 →
      ((j : ℕ) → j < i → heap (w + d * j) ≢ pos 0) → Finds heap d n q w r

next_header : (heap : Words) (d w i : ℕ) → heap (w + d + d * i) ≡ heap (w + d * suc i)
next_header heap d w i = ap heap (next_start w d i)

at_start : (heap : Words) (d w : ℕ) → heap (w + d * 0) ≡ heap w
at_start heap d w = ap heap (first_start w d)

full_first : (heap : Words) (d w m : ℕ) → heap w ≢ pos 0 →
    ((i : ℕ) → i < m → heap (w + d + d * i) ≢ pos 0) → (i : ℕ) → i < suc m →
    heap (w + d * i) ≢ pos 0
full_first heap d w m full rest zero less e = full (sym (at_start heap d w) ∙ e)
full_first heap d w m full rest (suc i) less e =
    rest i (omega arith) (next_header heap d w i ∙ e)

finds_after : (heap : Words) (d n q w r : ℕ) → heap w ≢ pos 0
    → Finds heap d n (q + 1) (w + d) r → Finds heap d (suc n) q w r
finds_after heap d n q w r full (none is all) = none is (full_first heap d w n full all)
finds_after heap d n q w r full (some i less is free below) =
    some (suc i) (omega arith) (omega arith) (sym (next_header heap d w i) ∙ free)
    (full_first heap d w i full below)

finds : (heap : Words) (d n q w : ℕ) → Finds heap d n q w (free_of heap d n q w)
finds heap d zero q w = none refl (λ i less. absurd (omega arith))
finds heap d (suc n) q w = go (finds heap d n (q + 1) (w + d)) (zero_cases (heap w))
  where
    go : Finds heap d n (q + 1) (w + d) (free_of heap d n (q + 1) (w + d)) →
        ((int_eq (heap w) (pos 0) ≡ true) × (heap w ≡ pos 0))
        ⊎ ((int_eq (heap w) (pos 0) ≡ false) × (heap w ≢ pos 0)) →
        Finds heap d (suc n) q w (if int_eq (heap w) (pos 0) then q
        else free_of heap d n (q + 1) (w + d))
    go rest (inl free) =
        subst (λ (b : Bool). Finds heap d (suc n) q w (if b then q
        else free_of heap d n (q + 1) (w + d))) (sym free.0)
        (some 0 (omega arith) (omega arith) (at_start heap d w ∙ free.1) (λ j less.
        absurd (omega arith)))
    go rest (inr full) =
        subst (λ (b : Bool). Finds heap d (suc n) q w (if b then q
        else free_of heap d n (q + 1) (w + d))) (sym full.0)
        (finds_after heap d n q w (free_of heap d n (q + 1) (w + d)) full.1 rest)

-- a slot's header, counted from the first one
pub header_at : (s : Sizes) (p : ℕ) → slot_word s p ≡ slot_word s 1 + slot_words s * (p - 1)
header_at s p = omega arith

header_is : (s : Sizes) (heap : Words) (p : ℕ) →
    heap (slot_word s p) ≡ heap (slot_word s 1 + slot_words s * (p - 1))
header_is s heap p = ap heap (header_at s p)

is_least : (s : Sizes) (heap : Words) (r : ℕ)
    → Finds heap (slot_words s) s.slots 1 (slot_word s 1) r → IsLeast s heap r
is_least s heap r (none is all) =
    subst (IsLeast s heap) (sym is) (λ p low high e.
    all (p - 1) (omega arith) (sym (header_is s heap p) ∙ e))
is_least s heap r (some i less is free below) =
    let next : r ≡ suc i = omega arith in
    let one : suc i - 1 ≡ i = omega arith in
    let at : slot_word s (suc i) ≡ slot_word s 1 + slot_words s * i =
    header_at s (suc i) ∙ ap (λ (k : ℕ). slot_word s 1 + slot_words s * k) one in
    subst (IsLeast s heap) (sym next) ((
      omega arith,
      ap heap at ∙ free,
      λ p low high e. below (p - 1) (omega arith) (sym (header_is s heap p) ∙ e),
    ))

one_least : (s : Sizes) (heap : Words) (p q : ℕ) → IsLeast s heap p → IsLeast s heap q → p ≡ q
one_least s heap zero zero a b = refl
one_least s heap zero (suc q) a b = absurd (a (suc q) (omega arith) b.0 b.1)
one_least s heap (suc p) zero a b = absurd (b (suc p) (omega arith) a.0 a.1)
one_least s heap (suc p) (suc q) a b = ⊎_elim (λ e. e)
    (λ (ne : suc p ≢ suc q).
    absurd (⊎_elim (λ (less : suc p < suc q). b.2 (suc p) (omega arith) less a.1)
    (λ (more : suc q < suc p). a.2 (suc q) (omega arith) more b.1) (apart (suc p) (suc q) ne)))
    (cases_eq (suc p) (suc q))
  where
    apart : (m n : ℕ) → m ≢ n → (m < n) ⊎ (n < m)
    apart zero zero ne = absurd (ne refl)
    apart zero (suc n) ne = inl (omega arith)
    apart (suc m) zero ne = inr (omega arith)
    apart (suc m) (suc n) ne =
        ⊎_elim (λ (l : m < n). inl (omega arith)) (λ (l : n < m). inr (omega arith))
        (apart m n (λ e. ne (ap suc e)))

pub found_least : FindLaw
found_least s heap =
    let is : IsLeast s heap (least s heap) =
    is_least s heap (least s heap) (finds heap (slot_words s) s.slots 1
    (slot_word s 1)) in
    (is, λ q other. one_least s heap q (least s heap) other is)
