-- Different places are different words.
use Rattle.std.proofs.Common.{◌≡◌, ℕ, ◌*◌, ◌+◌, ◌-◌, ◌≤◌, ◌<◌, arith, ap, refl}
use Rattle.pool_layout.specs.declared.limits.Sizes.{Sizes}
use Rattle.pool_layout.specs.declared.places.HeapPlace.TheVariants.{Root, Header, Field}
use Rattle.pool_layout.specs.Places.{PlacesApart, HeapApart}
use Rattle.pool_layout.specs.Sizes.{slot_words}
use Rattle.pool_layout.proofs.Slots.{slots_apart}

pub same_place : PlacesApart
same_place = λ l q r hq hr e. grind arith

-- the word of a slot's place, the header being at 0
pub same_slot : (s : Sizes) (p q j k : ℕ) → 1 ≤ p → 1 ≤ q → j < slot_words s → k < slot_words s
    → slot_words s * (p - 1) + j ≡ slot_words s * (q - 1) + k → (p ≡ q) × (j ≡ k)
same_slot s p q j k = slots_apart (slot_words s) p q j k

pub same_heap_place : HeapApart
same_heap_place s (Root k) (Root j) hq hr e = ap Root e
same_heap_place s (Root k) (Header p) hq hr e = absurd (omega arith)
same_heap_place s (Root k) (Field p j) hq hr e = absurd (omega arith)
same_heap_place s (Header p) (Root j) hq hr e = absurd (omega arith)
same_heap_place s (Field p k) (Root j) hq hr e = absurd (omega arith)
same_heap_place s (Header p) (Header q) hq hr e =
    let w : 2 ≤ s.slot_lines = s.slot_fits.0 in
    ap Header (same_slot s p q 0 0 hq.0 hr.0 (omega arith) (omega arith) (omega arith)).0
same_heap_place s (Header p) (Field q k) hq hr e =
    let w : 2 ≤ s.slot_lines = s.slot_fits.0 in
    let d : 0 ≡ 1 + k = (same_slot s p q 0 (1 + k) hq.0 hr.0 (omega arith) (omega arith)
    (omega arith)).1 in absurd (omega arith)
same_heap_place s (Field p k) (Header q) hq hr e =
    let w : 2 ≤ s.slot_lines = s.slot_fits.0 in
    let d : 1 + k ≡ 0 = (same_slot s p q (1 + k) 0 hq.0 hr.0 (omega arith) (omega arith)
    (omega arith)).1 in absurd (omega arith)
same_heap_place s (Field p k) (Field q j) hq hr e =
    let d : (p ≡ q) × (1 + k ≡ 1 + j) = same_slot s p q (1 + k) (1 + j) hq.0 hr.0 (omega arith)
    (omega arith) (omega arith) in
    let f : p ≡ q = d.0 in
    let g : k ≡ j = omega arith in rw f (rw g refl)
