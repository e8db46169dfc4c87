-- The deeds of a fill: the first store to a word comes from the fill if the fill stores to it, else
-- from what follows.
use Rattle.std.proofs.Common.{◌≡◌, ◌≢◌, ◌<◌, ◌≤◌, ◌+◌, ℕ, zero, suc, List, ◌++◌, refl, sym, subst}
use Rattle.std.proofs.Common.{inl, inr, arith}
use mathlib.Core.Logic.{◌⊎◌}
use Rattle.ir.specs.declared.site.Site.{Site}
use Rattle.code_meaning.specs.Code.{Spot, InRoot, InSlot}
use Rattle.code_meaning.specs.Deeds.{Deed, zeros}
use Rattle.log_law.specs.covered.Covered.{IsInput, FirstStore}

-- the word is one of n words of slot q, from word j on
abbrev pub Filled : Spot → (q j n : ℕ) → Type 0
Filled (InRoot i) q j n = ⊥
Filled (InSlot p i) q j n = (p ≡ q) × (j ≤ i) × (i < j + n)

filled_none : (u : Spot) (q j : ℕ) → Filled u q j 0 → ⊥
filled_none (InRoot i) q j h = h
filled_none (InSlot p i) q j h =
    let a = h.1 in
    let b = h.2 in
    omega arith

filled_first : (u : Spot) (q j n : ℕ) → u ≡ InSlot q j → Filled u q j (suc n)
filled_first u q j n e = subst (λ v. Filled v q j (suc n)) (sym e) (refl, omega arith, omega arith)

filled_more : (u : Spot) (q j n : ℕ) → Filled u q (suc j) n → Filled u q j (suc n)
filled_more (InRoot i) q j n h = h
filled_more (InSlot p i) q j n h =
    let a = h.1 in
    let b = h.2 in
    (h.0, omega arith, omega arith)

filled_rest : (u : Spot) (q j n : ℕ) → u ≢ InSlot q j → Filled u q j (suc n) → Filled u q (suc j) n
filled_rest (InRoot i) q j n other h = h
filled_rest (InSlot p i) q j n other h =
    let same : p ≡ q = h.0 in
    let a = h.1 in
    let b = h.2 in
    let far : j ≢ i = λ e. other (cc) in
    (same, omega arith, omega arith)

pub first_zeros : (site : Site) (q j n : ℕ) (ds : List Deed) (u : Spot) (a : Site)
    → FirstStore (zeros site q j n ++ ds) u a
    → (Filled u q j n × (site ≡ a)) ⊎ ((Filled u q j n → ⊥) × FirstStore ds u a)
first_zeros site q j zero ds u a h = inr (filled_none u q j, h)
first_zeros site q j (suc n) ds u a (inl e) = inl (filled_first u q j n e.0, e.1)
first_zeros site q j (suc n) ds u a (inr h) =
    elim (first_zeros site q (suc j) n ds u a h.1) [
      | inl e ↦ inl (filled_more u q j n e.0, e.1)
      | inr l ↦ inr (λ f. l.0 (filled_rest u q j n h.0 f), l.1)
    ]

pub input_zeros : (site : Site) (q j n : ℕ) (ds : List Deed) (u : Spot)
    → IsInput (zeros site q j n ++ ds) u → (Filled u q j n → ⊥) × IsInput ds u
input_zeros site q j zero ds u h = (filled_none u q j, h)
input_zeros site q j (suc n) ds u h =
    let r = input_zeros site q (suc j) n ds u h.1 in
    (λ f. r.0 (filled_rest u q j n h.0 f), r.1)
