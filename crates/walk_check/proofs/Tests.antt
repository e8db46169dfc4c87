-- The meaning of each test of the checker.
use Rattle.std.proofs.Common.{◌≡◌, ◌<◌, ◌+◌, ℕ, zero, suc, true, List, [], ◌∷◌, Some, refl, ap}
use Rattle.std.proofs.Common.{arith, inl, inr, ⊎_elim}
use Rattle.std.specs.Prelude.{◌==◌, slice_get, take}
use Rattle.std.proofs.lemmas.Bool.{false≢true, and_parts, or_cases, eqb-true}
use Rattle.ir.specs.declared.instruction.Instruction.{Instruction}
use Rattle.ir.specs.declared.instruction.Instruction.TheVariants.{Jump, Branch, Call, Return, Trap}
use Rattle.ir.specs.declared.fact.Fact.{Fact}
use Rattle.ir.specs.declared.fact.Fact.TheVariants.{Here, Unwritten, RootUnwritten, ReadRoot}
use Rattle.ir.specs.declared.fact.Fact.TheVariants.{ReadField, Freed}
use Rattle.ir.specs.declared.fact.Origins.{Origins}
use Rattle.ir.specs.declared.fact.Origins.TheVariants.{Nowhere, One, Two}
use Rattle.ir.specs.Places.{Leads}
use Rattle.ir.specs.Table.{AmongOrigins}
use Rattle.walk_check.specs.Facts.{same, among}
use Rattle.walk_check.specs.Follow.{leads}

pub same-true : (a b : Fact) → same a b ≡ true → a ≡ b
same-true Here Here h = refl
same-true (Unwritten q t y) (Unwritten r s x) h =
    let parts = and_parts _ _ h in
    let fields = and_parts _ _ parts.1 in
    let q_is : q ≡ r = eqb-true q r parts.0 in
    let t_is : t ≡ s = eqb-true t s fields.0 in
    let y_is : y ≡ x = eqb-true y x fields.1 in
    cc
same-true (RootUnwritten y) (RootUnwritten x) h = ap RootUnwritten (eqb-true y x h)
same-true (ReadRoot y) (ReadRoot x) h = ap ReadRoot (eqb-true y x h)
same-true (ReadField t y) (ReadField s x) h =
    let parts = and_parts _ _ h in
    let t_is : t ≡ s = eqb-true t s parts.0 in
    let y_is : y ≡ x = eqb-true y x parts.1 in
    cc
same-true Freed Freed h = refl
same-true _ _ h = absurd (false≢true h)

pub among-true : (a : Fact) (o : Origins) → among a o ≡ true → AmongOrigins a o
among-true a Nowhere h = absurd (false≢true h)
among-true a (One b) h = same-true a b h
among-true a (Two b c) h =
    ⊎_elim (λ e. inl (same-true a b e)) (λ e. inr (same-true a c e))
    (or_cases (same a b) (same a c) h)

pub next : (p q : ℕ) → (q == p + 1) ≡ true → q ≡ suc p
next p q h = let is : q ≡ p + 1 = eqb-true q (p + 1) h in omega arith

pub leads-true : (i : Instruction) (p q : ℕ) → leads i p q ≡ true → Leads i p q
leads-true (Jump place) p q h = eqb-true q place h
leads-true (Branch on place) p q h =
    ⊎_elim (λ e. inl (next p q e)) (λ e. inr (eqb-true q place e)) (or_cases _ _ h)
leads-true (Call to g args) p q h = absurd (false≢true h)
leads-true (Return from) p q h = absurd (false≢true h)
leads-true (Trap kind) p q h = absurd (false≢true h)
leads-true _ p q h = next p q h

-- an element among the first m of a list is an element of the list, below m
pub slice_get-take : {X : Type 0} (m : ℕ) (xs : List X) (n : ℕ) (x : X)
    → slice_get (take m xs) n ≡ Some x → (n < m) × (slice_get xs n ≡ Some x)
slice_get-take zero xs n x is = absurd cc
slice_get-take (suc m) [] n x is = absurd cc
slice_get-take (suc m) (y ∷ xs) zero x is = (omega arith, is)
slice_get-take (suc m) (y ∷ xs) (suc n) x is =
    let below = slice_get-take m xs n x is in
    let less : n < m = below.0 in
    (omega arith, below.1)
