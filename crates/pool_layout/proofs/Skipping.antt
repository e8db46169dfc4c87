-- Of the slots only the headers can break a rule.
use Rattle.std.proofs.Common.{◌≡◌, ◌≢◌, ◌<◌, ◌≤◌, ◌+◌, ◌-◌, ◌*◌, ◌%◌, ◌==◌, ⊎_elim, ℕ}
use Rattle.std.proofs.Common.{nat_le, not, false, sym, ap, ◌∙◌, subst, arith, ne_eqb}
use Rattle.std.proofs.Math.Nat.{mul_comm}
use Rattle.std.proofs.lemmas.Nat.{mod-mul-add}
use Rattle.std.proofs.lemmas.Bool.{cases_eq, cases_lt, and_left, and_right}
use Rattle.cache_model.specs.Cache.{Words}
use Rattle.pool_layout.specs.declared.limits.Sizes.{Sizes}
use Rattle.pool_layout.specs.declared.places.Place.{Place}
use Rattle.pool_layout.specs.declared.places.Place.TheVariants.{Heap}
use Rattle.pool_layout.specs.declared.rules.Rules.{Rules}
use Rattle.pool_layout.specs.Sizes.{root_lines, slot_words, slot_word, heap_words}
use Rattle.pool_layout.specs.Places.{at, layout_words, IsPlace, PlacesFit}
use Rattle.pool_layout.specs.Content.{breaks_rule, is_header, is_within, KeepsRules}
use Rattle.pool_layout.specs.inside.Content.{KeepsToSlot}
use Rattle.pool_layout.proofs.Apart.{same_place}
use Rattle.pool_layout.proofs.Slots.{slot_after}

-- a word of a slot after its first is no header
not_header : (s : Sizes) (slot w : ℕ) → slot_word s slot < w → w < slot_word s slot + slot_words s
    → is_header s w ≡ false
not_header s slot w more less =
    let d : ℕ = w - slot_word s slot in
    let place : w - 8 * root_lines s ≡ slot_words s * (slot - 1) + d = omega arith in
    let rest : (w - 8 * root_lines s) % slot_words s ≡ d =
    ap (λ (k : ℕ). k % slot_words s)
    (place ∙ ap (λ (k : ℕ). k + d) (mul_comm (slot_words s) (slot - 1)))
    ∙ mod-mul-add (slot - 1) (slot_words s) d (omega arith) in
    let some : d ≢ 0 = λ e. absurd (omega arith) in
    and_right (nat_le (8 * root_lines s) w) ((w - 8 * root_lines s) % slot_words s == 0)
    (ap (λ (k : ℕ). k == 0) rest ∙ ne_eqb d 0 some)

kept_word : (r : Rules) (image : Words) (w : ℕ) → is_header r.layout.sizes w ≡ false
    → breaks_rule r image (Heap w) ≡ false
unfolding breaks_rule
kept_word r image w none =
    and_left (is_header r.layout.sizes w)
    (not (is_within 0 r.structs (image (at r.layout (Heap w))))) none

place_fits : PlacesFit
place_fits = λ l q inside. grind arith

-- a place from the first heap word on is one of the heap
heap_place : (r : Rules) (q : Place) → IsPlace r.layout q → at r.layout (Heap 0) ≤ at r.layout q
    → (w : ℕ) × (q ≡ Heap w) × (at r.layout q ≡ at r.layout (Heap w))
heap_place r q inside more =
    let w : ℕ = at r.layout q - at r.layout (Heap 0) in
    let here : at r.layout q ≡ at r.layout (Heap w) = omega arith in
    let fits : at r.layout q < layout_words r.layout = place_fits r.layout q inside in
    let within : w < heap_words r.layout.sizes = omega arith in
    (w, same_place r.layout q (Heap w) inside within here, here)

-- no word before the next slot breaks a rule
pub past_header : (r : Rules) (image : Words) (slot : ℕ) → 1 ≤ slot
    → KeepsToSlot r image slot
    → breaks_rule r image (Heap (slot_word r.layout.sizes slot)) ≡ false
    → KeepsToSlot r image (slot + 1)
past_header r image slot low below kept q inside less =
    let s : Sizes = r.layout.sizes in
    let h : ℕ = slot_word s slot in
    let again : slot + 1 - 1 ≡ slot = omega arith in
    let next : slot_word s (slot + 1) ≡ h + slot_words s =
    ap (λ (k : ℕ). 8 * root_lines s + slot_words s * k) again
    ∙ (let after : slot_words s * (slot - 1) + slot_words s ≡ slot_words s * slot =
    slot_after (slot_words s) slot low in omega arith) in
    ⊎_elim
    (λ (lt : at r.layout q < at r.layout (Heap h)). below q inside lt)
    (λ (ge : at r.layout (Heap h) ≤ at r.layout q).
    let found = heap_place r q inside (omega arith) in
    let w : ℕ = found.0 in
    let here : at r.layout q ≡ at r.layout (Heap w) = found.2 in
    subst (λ (p : Place). breaks_rule r image p ≡ false) (sym found.1)
    (⊎_elim
    (λ (e : w ≡ h). subst (λ (v : ℕ). breaks_rule r image (Heap v) ≡ false) (sym e) kept)
    (λ (ne : w ≢ h). kept_word r image w (not_header s slot w (omega arith) (omega arith)))
    (cases_eq w h)))
    (cases_lt (at r.layout q) (at r.layout (Heap h)))

-- nothing comes after the last slot
pub past_slots : (r : Rules) (image : Words) → KeepsToSlot r image (r.layout.sizes.slots + 1)
    → KeepsRules r image
past_slots r image below q inside =
    let s : Sizes = r.layout.sizes in
    let again : s.slots + 1 - 1 ≡ s.slots = omega arith in
    let last : slot_word s (s.slots + 1) ≡ heap_words s =
    ap (λ (k : ℕ). 8 * root_lines s + slot_words s * k) again in
    let fits : at r.layout q < layout_words r.layout = place_fits r.layout q inside in
    below q inside (omega arith)
