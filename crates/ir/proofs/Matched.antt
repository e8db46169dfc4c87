-- The meaning of summaries, in terms of walks.
use Rattle.std.proofs.Common.{◌≡◌, ◌&&◌, ℕ, Bool, true, false, List, refl, inl, inr, ⊎_elim, subst}
use Rattle.std.specs.Prelude.{◌==◌, ◌↔◌, not}
use mathlib.Core.Logic.{◌⊎◌}
use Rattle.std.proofs.lemmas.Bool.{false≢true, and_parts, eqb-true, eq-eqb}
use Rattle.ir.specs.declared.function.IrFunction.{IrFunction}
use Rattle.ir.specs.declared.fact.Fact.{Fact}
use Rattle.ir.specs.declared.fact.Fact.TheVariants.{Here, Unwritten, RootUnwritten, ReadRoot}
use Rattle.ir.specs.declared.fact.Fact.TheVariants.{ReadField, Freed}
use Rattle.ir.specs.Table.{holds}
use Rattle.ir.specs.Derived.{Passes}
use Rattle.ir.specs.Matched.{only, MatchedWalk}
use Rattle.ir.proofs.Law.{walks, matched}

not_not : (t : Bool) → not (not t) ≡ true → t ≡ true
not_not true h = refl
not_not false h = h

holds-only : (e : Fact) → holds (only e) e ≡ true
holds-only Here = refl
holds-only (Unwritten r s x) = rw (eq-eqb r r refl, eq-eqb s s refl, eq-eqb x x refl) refl
holds-only (RootUnwritten x) = rw (eq-eqb x x refl) refl
holds-only (ReadRoot x) = eq-eqb x x refl
holds-only (ReadField s x) = rw (eq-eqb s s refl, eq-eqb x x refl) refl
holds-only Freed = refl

only_holds : (e d : Fact) → holds (only e) d ≡ true → (d ≡ e) ⊎ (d ≡ Here)
only_holds e Here h = inr refl
only_holds (Unwritten r s x) (Unwritten q t y) h =
    let p = and_parts (q == r) ((t == s) && (y == x)) (not_not _ h) in
    let p' = and_parts (t == s) (y == x) p.1 in
    let e1 = eqb-true q r p.0 in
    let e2 = eqb-true t s p'.0 in
    let e3 = eqb-true y x p'.1 in
    inl cc
only_holds (RootUnwritten x) (RootUnwritten y) h = let e1 = eqb-true y x (not_not _ h) in inl cc
only_holds (ReadRoot x) (ReadRoot y) h = let e1 = eqb-true y x h in inl cc
only_holds (ReadField s x) (ReadField t y) h =
    let p = and_parts (t == s) (y == x) h in
    let e1 = eqb-true t s p.0 in
    let e2 = eqb-true y x p.1 in
    inl cc
only_holds Freed Freed h = inl refl
only_holds Here (Unwritten q t y) h = absurd (false≢true h)
only_holds _ _ h = absurd (false≢true h)

pub summary_exact : (functions : List IrFunction) (f p : ℕ) (e b : Fact)
    → MatchedWalk functions f e p b ↔ (Passes functions f 0 e p b ⊎ Passes functions f 0 Here p b)
summary_exact functions f p e b = (to, from)
  where
    to : MatchedWalk functions f e p b → Passes functions f 0 e p b ⊎ Passes functions f 0 Here p b
    to w =
        let m = matched functions f p (only e) w.0 w.1 b w.2 in
        ⊎_elim (λ (s : m.0 ≡ e). inl (subst (λ a. Passes functions f 0 a p b) s m.2))
        (λ (s : m.0 ≡ Here). inr (subst (λ a. Passes functions f 0 a p b) s m.2))
        (only_holds e m.0 m.1)

    from : Passes functions f 0 e p b ⊎ Passes functions f 0 Here p b
        → MatchedWalk functions f e p b
    from (inl d) = walks functions d (only e) _ (holds-only e)
    from (inr d) = walks functions d (only e) _ refl
