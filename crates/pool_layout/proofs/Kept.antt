-- If no word breaks a rule of content, the image holds what a recovery needs.
use Rattle.std.proofs.Common.{◌≡◌, ◌≢◌, ⊎_elim, ℕ, zero, suc, ◌+◌, ◌<◌, ◌≤◌, ◌&&◌, not}
use Rattle.std.proofs.Common.{◌-◌, ◌*◌, ◌%◌, nat_le, nat_lt, Bool, true, false, ℤ, pos, negsuc}
use Rattle.std.proofs.Common.{◌+ℤ◌, refl, sym}
use Rattle.std.proofs.Common.{ap, ◌∙◌, subst, arith}
use Rattle.std.specs.Prelude.{int_le}
use Rattle.std.proofs.Math.Nat.{mul-mod_right}
use Rattle.std.proofs.lemmas.Bool.{cases_eq, cases_lt, and_parts, not-false, and_right, and_left}
use Rattle.std.proofs.lemmas.Bool.Decides.{Decides-int_eq, nat_tests}
use Rattle.cache_model.specs.Cache.{Words}
use Rattle.pool_layout.specs.declared.limits.Sizes.{Sizes}
use Rattle.pool_layout.specs.declared.places.Layout.{Layout}
use Rattle.pool_layout.specs.Sizes.{root_lines, heap_words, slot_words, slot_word}
use Rattle.pool_layout.proofs.Slots.{slot_within}
use Rattle.pool_layout.specs.Image.{is_next, IsUpTo}
use Rattle.pool_layout.specs.Opens.{IsBelow}
use Rattle.pool_layout.specs.Content.{is_within, is_valid, are_valid, is_stamp, in_heap}
use Rattle.pool_layout.specs.Content.{is_header, names_header}
use Rattle.pool_layout.specs.inside.Content.{IsLeading}

-- the tests of a rule

pub and_rest : (a b : Bool) → (a && b) ≡ false → a ≡ true → b ≡ false
and_rest true b e is = e
and_rest false b e is = absurd (cc)

-- a word that is within its bounds
pub within_is : (low high : ℕ) (x : ℤ) → is_within low high x ≡ true → (s : ℕ) × (low ≤ s)
    × (s ≤ high) × (x ≡ pos s)
within_is low high (pos n) e =
    let a : nat_le low n ≡ true = (and_parts (nat_le low n) (nat_le n high) e).0 in
    let b : nat_le n high ≡ true = (and_parts (nat_le low n) (nat_le n high) e).1 in
    (n, grind (arith, nat_tests), grind (arith, nat_tests), refl)
within_is low high (negsuc n) e = absurd (cc)

pub up_to : (high : ℕ) (x : ℤ) → not (is_within 0 high x) ≡ false → IsUpTo high x
up_to high x e = let w = within_is 0 high x (not-false (is_within 0 high x) e) in (w.0, w.2, w.3)

pub below_is : (s : Sizes) (x : ℤ) → not (in_heap s x) ≡ false → IsBelow (heap_words s) x
below_is s (pos w) e =
    let a : nat_lt w (heap_words s) ≡ true = not-false (nat_lt w (heap_words s)) e in
    (w, grind (arith, nat_tests), refl)
below_is s (negsuc n) e = absurd (cc)

-- a slot's first word is a header
pub slot_header : (s : Sizes) (slot : ℕ) → is_header s (slot_word s slot) ≡ true
slot_header s slot =
    let e : slot_word s slot - 8 * root_lines s ≡ slot_words s * (slot - 1) = omega arith in
    let a : (slot_word s slot - 8 * root_lines s) % slot_words s ≡ 0 =
    ap (λ (n : ℕ). n % slot_words s) e ∙ mul-mod_right (slot_words s) (slot - 1) in
    let b : nat_le (8 * root_lines s) (slot_word s slot) ≡ true = grind (arith, nat_tests) in
    rw b (grind (arith, nat_tests))

pub slot_inside : (s : Sizes) (slot : ℕ) → 1 ≤ slot → slot ≤ s.slots
    → slot_word s slot < heap_words s
slot_inside s slot low high =
    let a : slot_words s * (slot - 1) + slot_words s ≤ slot_words s * s.slots =
    slot_within (slot_words s) s.slots slot low high in
    let b : 2 ≤ s.slot_lines = s.slot_fits.0 in omega arith

pub slot_named : (s : Sizes) (slot : ℕ) (x : ℤ) → 1 ≤ slot → slot ≤ s.slots
    → x ≡ pos (slot_word s slot) → names_header s x ≡ true
slot_named s slot x low high is =
    let a : is_header s (slot_word s slot) ≡ true = slot_header s slot in
    let b : slot_word s slot < heap_words s = slot_inside s slot low high in
    let c : (nat_lt (slot_word s slot) (heap_words s) && is_header s (slot_word s slot)) ≡ true =
    rw a (grind (arith, nat_tests)) in
    subst (λ (z : ℤ). names_header s z ≡ true) (sym is) c

-- stamps

pub valid_is : (x y : ℤ) (a : ℕ) → y ≡ pos a → is_next x y ≡ true → x ≡ pos (suc a)
valid_is x y a is e = let n : a + 1 ≡ suc a = omega arith in
    (Decides-int_eq x (y +ℤ pos 1)).0 e ∙ ap (λ (z : ℤ). z +ℤ pos 1) is ∙ ap pos n

pub is_valid_of : (x y : ℤ) (a : ℕ) → y ≡ pos a → x ≡ pos (suc a) → is_next x y ≡ true
is_valid_of x y a is e = let n : suc a ≡ a + 1 = omega arith in
    (Decides-int_eq x (y +ℤ pos 1)).1 (e ∙ ap pos n ∙ sym (ap (λ (z : ℤ). z +ℤ pos 1) is))

stamp_at : (a : ℕ) (x : ℤ) → (int_le (pos 0) x && int_le x (pos (a + 1))) ≡ true → IsUpTo (suc a) x
stamp_at a (pos n) e =
    let b : nat_le n (a + 1) ≡ true =
    (and_parts (int_le (pos 0) (pos n)) (int_le (pos n) (pos (a + 1))) e).1 in
    (n, grind (arith, nat_tests), refl)
stamp_at a (negsuc n) e = absurd
    (cc (and_parts (int_le (pos 0) (negsuc n)) (int_le (negsuc n) (pos (a + 1))) e).0)

pub stamp_is : (attempt x : ℤ) (a : ℕ) → attempt ≡ pos a → not (is_stamp attempt x) ≡ false
    → IsUpTo (suc a) x
stamp_is attempt x a is e = stamp_at a x
    (subst (λ (z : ℤ). is_stamp z x ≡ true) is (not-false (is_stamp attempt x) e))

-- the records before a valid one are valid
pub are_valid_below : (l : Layout) (image : Words) (j k : ℕ) → j < k → are_valid l image k ≡ true
    → is_valid l image j ≡ true
are_valid_below l image j zero lt e = absurd (omega arith)
are_valid_below l image j (suc k) lt e = ⊎_elim
    (λ (same : j ≡ k). subst (λ (i : ℕ). is_valid l image i ≡ true) (sym same)
    (and_parts (are_valid l image k) (is_valid l image k) e).1)
    (λ (ne : j ≢ k). are_valid_below l image j k (omega arith)
    (and_parts (are_valid l image k) (is_valid l image k) e).0)
    (cases_eq j k)

are_valid_above : (l : Layout) (image : Words) (n i : ℕ) → n < i → is_valid l image n ≡ false
    → are_valid l image i ≡ false
are_valid_above l image n zero lt e = absurd (omega arith)
are_valid_above l image n (suc i) lt e = ⊎_elim
    (λ (same : n ≡ i). and_right (are_valid l image i) (is_valid l image i)
    (subst (λ (k : ℕ). is_valid l image k ≡ false) same e))
    (λ (ne : n ≢ i). and_left (are_valid l image i) (is_valid l image i)
    (are_valid_above l image n i (omega arith) e))
    (cases_eq n i)

-- the first n records are valid, and record n isn't
pub leading_to : (l : Layout) (image : Words) (n : ℕ)
    → ((k : ℕ) → k ≤ n → are_valid l image k ≡ true) → is_valid l image n ≡ false
    → IsLeading l image n
leading_to l image n all stop = λ i inside. ⊎_elim
    (λ (lt : n < i). let e : nat_le i n ≡ false = grind (arith, nat_tests) in
    are_valid_above l image n i lt stop ∙ sym e)
    (λ (le : i ≤ n). let e : nat_le i n ≡ true = grind (arith, nat_tests) in all i le ∙ sym e)
    (cases_lt n i)
