-- A search in the world of the printed functions finds what the machine's search finds.
use Rattle.std.proofs.Common.{◌≡◌, ◌≢◌, ℕ, zero, suc, ◌+◌, ◌*◌, ◌<◌, ◌≤◌, ℤ, pos, negsuc}
use Rattle.std.proofs.Common.{refl, sym, ⊎_elim, ◌∙◌, ap, subst, arith, Bool, true, false}
use Rattle.std.specs.Prelude.{FitsSigned, ◌==◌, if◌then◌else◌}
use Rattle.std.specs.Int.{w64}
use Rattle.std.specs.Ordering.{int_eq}
use Rattle.std.proofs.Math.Nat.{mul-le-mul_left, mul-suc}
use Rattle.std.proofs.lemmas.Bool.{eqb-true}
use Rattle.cache_model.specs.Cache.{Words}
use Rattle.pool_layout.specs.declared.limits.Sizes.{Sizes}
use Rattle.pool_layout.specs.Sizes.{heap_words, slot_words, slot_word}
use Rattle.nvm_base.specs.Operations.{unsigned}
use Rattle.pm_machine.specs.Find.{free_of, least, IsLeast}
use Rattle.pm_machine.proofs.Least.{zero_cases, next_start, first_start, found_least}

zero_word : (v : ℤ) → FitsSigned w64 v → unsigned v ≡ 0 → v ≡ pos 0
zero_word (pos k) f e = ap pos e
zero_word (negsuc k) f e = let h = f.sfits in absurd (omega (arith, e))

zero_if : (v : ℤ) → (unsigned v ≡ 0 → v ≡ pos 0) → (unsigned v == 0) ≡ int_eq v (pos 0)
zero_if v only = ⊎_elim (λ h. ap (λ (x : ℤ). unsigned x == 0) h.1 ∙ sym h.0)
    (λ h. by (unsigned v == 0) refl h.1 ∙ sym h.0) (zero_cases v)
  where
    by : (t : Bool) → (unsigned v == 0) ≡ t → v ≢ pos 0 → t ≡ false
    by true e other = absurd (other (only (eqb-true (unsigned v) 0 e)))
    by false e other = refl

-- a word is 0 exactly if its bits are
pub zero_same : (v : ℤ) → FitsSigned w64 v → (unsigned v == 0) ≡ int_eq v (pos 0)
zero_same v f = zero_if v (zero_word v f)

bits_zero : (n : ℕ) → int_eq (pos n) (pos 0) ≡ (n == 0)
bits_zero n = sym (zero_if (pos n) (λ e. ap pos e))

free_same : (h g : Words) (d n q w : ℕ)
    → ((i : ℕ) → i < n → int_eq (h (w + d * i)) (pos 0) ≡ int_eq (g (w + d * i)) (pos 0))
    → free_of h d n q w ≡ free_of g d n q w
free_same h g d zero q w same = refl
free_same h g d (suc n) q w same =
    let first : int_eq (h w) (pos 0) ≡ int_eq (g w) (pos 0) =
    subst (λ (k : ℕ). int_eq (h k) (pos 0) ≡ int_eq (g k) (pos 0)) (first_start w d)
    (same 0 (omega arith)) in
    let rest : free_of h d n (q + 1) (w + d) ≡ free_of g d n (q + 1) (w + d) =
    free_same h g d n (q + 1) (w + d) (λ i low.
    subst (λ (k : ℕ). int_eq (h k) (pos 0) ≡ int_eq (g k) (pos 0)) (sym (next_start w d i))
    (same (suc i) (omega (arith, low)))) in
    ap (λ (t : Bool). if t then q else free_of h d n (q + 1) (w + d)) first
    ∙ ap (λ (r : ℕ). if int_eq (g w) (pos 0) then q else r) rest

module _ (s : Sizes) (memory : Words) (heap : ℕ → ℕ) (same : (w : ℕ) → heap w ≡ unsigned (memory w))
    (words : (w : ℕ) → w < heap_words s → FitsSigned w64 (memory w)) where
  abbrev W : ℕ
  W = slot_words s

  inside : (i : ℕ) → i < s.slots → slot_word s 1 + W * i < heap_words s
  inside i low =
      let within : W * suc i ≤ W * s.slots = mul-le-mul_left W low in
      omega (arith, within, mul-suc W i, s.slot_fits.0)

  pub least_same : least s (λ w. pos (heap w)) ≡ least s memory
  least_same = free_same (λ w. pos (heap w)) memory W s.slots 1 (slot_word s 1) (λ i low.
      let w : ℕ = slot_word s 1 + W * i in
      bits_zero (heap w) ∙ ap (λ (k : ℕ). k == 0) (same w)
      ∙ zero_same (memory w) (words w (inside i low)))

  slots_past : (q : ℕ) → IsLeast s memory q → q ≤ s.slots
  slots_past zero is = omega arith
  slots_past (suc q) is = is.0

  pub least_fits : FitsSigned w64 (pos (least s memory))
  least_fits =
      let few = slots_past (least s memory) (found_least s memory).0 in
      let most = s.slots_fit.1 in
      record { sfits = omega (arith, few, most) }
