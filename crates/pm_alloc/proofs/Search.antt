-- The search for the least free slot, and the addresses of a slot's words.
use Rattle.std.proofs.Common.{◌≡◌, ℕ, zero, suc, ◌+◌, ◌*◌, ◌^◌, ◌<◌, ◌≤◌, ℤ, pos, refl, ap}
use Rattle.std.proofs.Common.{◌∙◌, arith, FitsSigned, rules, true, ltb, mul_comm, List, [], ◌∷◌}
use Rattle.std.proofs.Common.{length, get_or}
use Rattle.std.specs.Prelude.{◌+ℤ◌, ◌-ℤ◌}
use Rattle.std.specs.Int.{w64, int_wrap}
use Rattle.std.proofs.lemmas.Bool.{lt-ltb}
use Rattle.std.proofs.lemmas.Int.{ints, int_wrap_fits}
use Rattle.cache_model.specs.Cache.{Words}
use Rattle.pool_layout.specs.declared.limits.Sizes.{Sizes}
use Rattle.pool_layout.specs.Sizes.{root_lines, heap_words, slot_words, slot_word}
use Rattle.pool_layout.proofs.Slots.{slot_after}
use Rattle.pm_machine.specs.Find.{least, IsLeast}
use Rattle.pm_machine.proofs.Least.{found_least}
use Rattle.pm_alloc.specs.Pieces.{offset}
use Rattle.pm_alloc.specs.Search.{temporaries, IsPool, SearchLaw}
use Rattle.pm_alloc.proofs.Slots.{slot_few, word_within}

pub small : (n : ℕ) → n < 2 ^ 62 → int_wrap w64 (pos n) ≡ pos n
small n h = let fits : FitsSigned w64 (pos n) = search rules in int_wrap_fits w64 (pos n) fits

-- the address of the word of slot q that is i words after word j, from W times q and i
pub address_is : (s : Sizes) (q a i j : ℕ) → IsPool s → a ≡ slot_words s * q → 1 ≤ q → q ≤ s.slots
    → i + j < slot_words s
    → int_wrap w64 (pos (a + i) +ℤ offset s j) ≡ pos (slot_word s q + j + i)
address_is s q a i j pool is some high short =
    let ends = slot_after (slot_words s) q some in
    let few = slot_few s q high in
    let e : pos (a + i) +ℤ (pos (8 * root_lines s + j) -ℤ pos (slot_words s))
    ≡ pos (slot_word s q + j + i) = omega (arith, ints, is, ends) in
    ap (λ (z : ℤ). int_wrap w64 z) e
    ∙ small (slot_word s q + j + i) (omega (arith, ends, few, pool.lines))

-- and from W times q alone
pub word_address : (s : Sizes) (q a j : ℕ) → IsPool s → a ≡ slot_words s * q → 1 ≤ q → q ≤ s.slots
    → j < slot_words s → int_wrap w64 (pos a +ℤ offset s j) ≡ pos (slot_word s q + j)
word_address s q a j pool is some high short =
    let from : a ≡ a + 0 = omega arith in
    let to : slot_word s q + j + 0 ≡ slot_word s q + j = omega arith in
    ap (λ (n : ℕ). int_wrap w64 (pos n +ℤ offset s j)) from
    ∙ address_is s q a 0 j pool is some high (omega arith) ∙ ap pos to

pub header_address : (s : Sizes) (q a : ℕ) → IsPool s → a ≡ slot_words s * q → 1 ≤ q → q ≤ s.slots
    → int_wrap w64 (pos a +ℤ offset s 0) ≡ pos (slot_word s q)
header_address s q a pool is some high =
    let to : slot_word s q + 0 ≡ slot_word s q = omega arith in
    word_address s q a 0 pool is some high (omega arith) ∙ ap pos to

pub header_within : (s : Sizes) (q : ℕ) → 1 ≤ q → q ≤ s.slots
    → ltb (slot_word s q) (heap_words s) ≡ true
header_within s q some high =
    lt-ltb (slot_word s q) (heap_words s) (omega (arith, word_within s q 0 some high (omega arith)))

-- the product of a slot and W is a word
pub slot_times : (s : Sizes) (q : ℕ) → q ≤ s.slots
    → int_wrap w64 (pos (q * slot_words s)) ≡ pos (q * slot_words s)
slot_times s q high =
    small (q * slot_words s) (omega (arith, mul_comm q (slot_words s), slot_few s q high))

-- eight temporary registers, by their numbers
pub eight_are : (temp : List ℤ) → length temp ≡ 8 → temporaries (λ j. get_or temp j (pos 0)) ≡ temp
eight_are (a ∷ b ∷ c ∷ d ∷ e ∷ f ∷ g ∷ h ∷ []) long = refl
eight_are [] long = absurd (omega arith)
eight_are (a ∷ []) long = absurd (omega arith)
eight_are (a ∷ b ∷ []) long = absurd (omega arith)
eight_are (a ∷ b ∷ c ∷ []) long = absurd (omega arith)
eight_are (a ∷ b ∷ c ∷ d ∷ []) long = absurd (omega arith)
eight_are (a ∷ b ∷ c ∷ d ∷ e ∷ []) long = absurd (omega arith)
eight_are (a ∷ b ∷ c ∷ d ∷ e ∷ f ∷ []) long = absurd (omega arith)
eight_are (a ∷ b ∷ c ∷ d ∷ e ∷ f ∷ g ∷ []) long = absurd (omega arith)
eight_are (a ∷ b ∷ c ∷ d ∷ e ∷ f ∷ g ∷ h ∷ i ∷ rest) long = absurd (omega arith)

pub searched_least : SearchLaw
searched_least s to kind c b own x w = refl

-- a slot that is found is one of the pool's
pub least_within : (s : Sizes) (heap : Words) (q : ℕ) → least s heap ≡ suc q → suc q ≤ s.slots
least_within s heap q is = go (least s heap) is (found_least s heap).0
  where
    go : (r : ℕ) → r ≡ suc q → IsLeast s heap r → suc q ≤ s.slots
    go zero e found = absurd (omega arith)
    go (suc r) e found = omega (arith, e, found.0)
