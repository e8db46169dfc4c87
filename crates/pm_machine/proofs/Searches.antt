-- The search for the least free slot, by what a search for a word that is 0 finds.
use Rattle.std.proofs.Common.{◌≡◌, ◌≢◌, ⊎_elim, ℕ, zero, suc, ◌+◌, ◌-◌, ◌*◌}
use Rattle.std.proofs.Common.{◌<◌, ◌≤◌, if◌then◌else◌, Bool, false, ℤ, pos}
use Rattle.std.proofs.Common.{sym, ap, ◌∙◌, arith, ◌^◌}
use Rattle.std.proofs.Math.Nat.{mul_assoc}
use Rattle.std.specs.Ordering.{int_eq}
use Rattle.cache_model.specs.Cache.{Words, Cache, view}
use Rattle.pmem.specs.Zeros.{IsFirstZero}
use Rattle.pool_layout.specs.declared.limits.Sizes.{Sizes}
use Rattle.pool_layout.specs.Sizes.{slot_words, slot_word, heap_start, heap_words, pool_lines}
use Rattle.pool_layout.specs.declared.places.Place.TheVariants.{Heap}
use Rattle.pool_layout.specs.Places.{at, pool_of}
use Rattle.pm_machine.specs.Find.{free_of, tried, least, looks}
use Rattle.pm_machine.specs.Runs.{heap_in}
use Rattle.pm_machine.proofs.Range.{heap_few}
use Rattle.pm_machine.proofs.Least.{zero_cases, next_start, first_start}

full_is : (x : ℤ) → x ≢ pos 0 → int_eq x (pos 0) ≡ false
full_is x full = ⊎_elim (λ free. absurd (full free.1)) (λ is. is.0) (zero_cases x)

-- slots that aren't free are skipped
skip : (heap : Words) (d m n q w : ℕ) → n ≤ m → ((i : ℕ) → i < n → heap (w + d * i) ≢ pos 0) →
    (free_of heap d m q w ≡ free_of heap d (m - n) (q + n) (w + d * n))
    × (tried heap d m w ≡ n + tried heap d (m - n) (w + d * n))
skip heap d m zero q w few full =
    let a : m ≡ m - zero = omega arith in
    let b : q ≡ q + zero = omega arith in
    let c : w ≡ w + d * zero = sym (first_start w d) in
    let e : tried heap d (m - zero) (w + d * zero)
    ≡ zero + tried heap d (m - zero) (w + d * zero) = omega arith in (
      ap (λ (k : ℕ). free_of heap d k q w) a ∙ ap (λ (k : ℕ). free_of heap d (m - zero) k w) b
          ∙ ap (λ (k : ℕ). free_of heap d (m - zero) (q + zero) k) c,
      ap (λ (k : ℕ). tried heap d k w) a ∙ ap (λ (k : ℕ). tried heap d (m - zero) k) c ∙ e,
    )
skip heap d zero (suc n) q w few full = absurd (omega arith)
skip heap d (suc m) (suc n) q w few full =
    let first : int_eq (heap w) (pos 0) ≡ false =
    full_is (heap w) (λ e. full 0 (omega arith) (ap heap (first_start w d) ∙ e)) in
    let rest = skip heap d m n (q + 1) (w + d) (omega arith) (λ i less e.
    full (suc i) (omega arith) (ap heap (sym (next_start w d i)) ∙ e)) in
    let a : m - n ≡ suc m - suc n = omega arith in
    let b : q + 1 + n ≡ q + suc n = omega arith in
    let c : w + d + d * n ≡ w + d * suc n = next_start w d n in
    let f : tried heap d (m - n) (w + d + d * n) ≡ tried heap d (suc m - suc n) (w + d * suc n) =
    ap (λ (k : ℕ). tried heap d k (w + d + d * n)) a
    ∙ ap (λ (k : ℕ). tried heap d (suc m - suc n) k) c in
    let g = rest.1 in (
      ap (λ (t : Bool). if t then q else free_of heap d m (q + 1) (w + d)) first ∙ rest.0
          ∙ ap (λ (k : ℕ). free_of heap d k (q + 1 + n) (w + d + d * n)) a
          ∙ ap (λ (k : ℕ). free_of heap d (suc m - suc n) k (w + d + d * n)) b
          ∙ ap (λ (k : ℕ). free_of heap d (suc m - suc n) (q + suc n) k) c,
      ap (λ (t : Bool). suc (if t then 0 else tried heap d m (w + d))) first
          ∙ omega (arith, f, g),
    )

-- the last header ends with the heap
headers_end : (s : Sizes) (h b d m : ℕ) → h ≡ heap_start s → b ≡ slot_word s 1
    → d ≡ slot_words s → m ≡ s.slots → h + b + d * m ≡ heap_start s + heap_words s
headers_end s h b d m start first width count =
    let e : d * m ≡ slot_words s * s.slots =
    ap (λ (k : ℕ). k * m) width ∙ ap (λ (k : ℕ). slot_words s * k) count in
    omega (arith, start, first, e)

pub headers_inside : (s : Sizes) (h b d m lines : ℕ) → h ≡ heap_start s → b ≡ slot_word s 1
    → d ≡ slot_words s → m ≡ s.slots → lines ≡ pool_lines s → h + b + d * m ≤ 8 * lines
headers_inside s h b d m lines start first width count all =
    let e : slot_words s * s.slots ≡ 8 * (s.slot_lines * s.slots) =
    mul_assoc 8 s.slot_lines s.slots in
    omega (arith, headers_end s h b d m start first width count, all, e)

pub headers_fit : (s : Sizes) (h b d m : ℕ) → h ≡ heap_start s → b ≡ slot_word s 1
    → d ≡ slot_words s → m ≡ s.slots → h + b + d * m < 2 ^ 64
headers_fit s h b d m start first width count =
    omega (arith, headers_end s h b d m start first width count, heap_few s, s.records_fit.1)

-- what a search finds in the heap of a cache, from where the first header stands
module _ (s : Sizes) (c : Cache) (h b d m n : ℕ) (start : h ≡ heap_start s)
    (first : b ≡ slot_word s 1) (width : d ≡ slot_words s) (count : m ≡ s.slots)
    (is : IsFirstZero (view c) (h + b) d m n)
  where
    abbrev heap : Words
    heap = heap_in s c

    -- where the header after i others stands
    abbrev header : ℕ → ℕ
    header i = slot_word s 1 + slot_words s * i

    place : (i : ℕ) → h + b + d * i ≡ at (pool_of s) (Heap (header i))
    place i = let e : d * i ≡ slot_words s * i = ap (λ (k : ℕ). k * i) width in
        omega (arith, start, first, e)

    passed_over : (i : ℕ) → i < n → heap (header i) ≢ pos 0
    passed_over i less e = is.before i less (ap (view c) (place i) ∙ e)

    few : n ≤ s.slots
    few = omega (arith, count, is.few)

    abbrev left : ℕ
    left = s.slots - n

    all_past :
        (least s heap ≡ free_of heap (slot_words s) left (1 + n) (header n))
        × (looks s heap ≡ n + tried heap (slot_words s) left (header n))
    all_past = skip heap (slot_words s) s.slots n 1 (slot_word s 1) few passed_over

    module _ (some : n < m) where
      free : heap (header n) ≡ pos 0
      free = sym (ap (view c) (place n)) ∙ is.there some

      one_left : left ≡ suc (left - 1)
      one_left = omega (arith, count, some)

      pub found_least : n + 1 ≡ least s heap
      found_least =
          let one : 1 + n ≡ n + 1 = omega arith in
          sym (all_past.0
          ∙ ap (λ (k : ℕ). free_of heap (slot_words s) k (1 + n) (header n)) one_left
          ∙ ap (λ (x : ℤ). if int_eq x (pos 0) then 1 + n
          else free_of heap (slot_words s) (left - 1) (1 + n + 1) (header n + slot_words s)) free
          ∙ one)

      pub found_looks : n + 1 ≡ looks s heap
      found_looks =
          let one : tried heap (slot_words s) left (header n) ≡ 1 =
          ap (λ (k : ℕ). tried heap (slot_words s) k (header n)) one_left
          ∙ ap (λ (x : ℤ). suc (if int_eq x (pos 0) then 0
          else tried heap (slot_words s) (left - 1) (header n + slot_words s))) free in
          sym (all_past.1 ∙ ap (λ (k : ℕ). n + k) one)

    module _ (all : m ≤ n) where
      none_left : left ≡ 0
      none_left = omega (arith, count, all)

      pub none_least : 0 ≡ least s heap
      none_least =
          sym (all_past.0
          ∙ ap (λ (k : ℕ). free_of heap (slot_words s) k (1 + n) (header n)) none_left)

      pub none_looks : m ≡ looks s heap
      none_looks =
          let zero_left : tried heap (slot_words s) left (header n) ≡ 0 =
          ap (λ (k : ℕ). tried heap (slot_words s) k (header n)) none_left in
          omega (arith, all_past.1, zero_left, few, all, count)
