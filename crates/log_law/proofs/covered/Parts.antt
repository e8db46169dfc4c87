-- First stores, and first parts of a list of deeds.
use Rattle.std.proofs.Common.{◌≡◌, ◌≢◌, List, [], ◌∷◌, ◌++◌, refl, ap, inl, inr}
use mathlib.Core.Logic.{◌⊎◌}
use Rattle.std.proofs.lemmas.Bool.{cases_eq}
use Rattle.ir.specs.declared.site.Site.{Site}
use Rattle.code_meaning.specs.Code.{Spot, InRoot, InSlot}
use Rattle.code_meaning.specs.Deeds.{Deed, Reads, Writes, Heads}
use Rattle.log_law.specs.covered.Covered.{IsInput, FirstStore}
use Rattle.log_law.specs.covered.Law.{FirstLaw, PartLaw}

cases_spot : (u s : Spot) → (u ≡ s) ⊎ (u ≢ s)
cases_spot (InRoot i) (InRoot j) =
    elim (cases_eq i j) [ inl e ↦ inl (ap InRoot e) | inr far ↦ inr (λ e. far (cc)) ]
cases_spot (InRoot i) (InSlot q j) = inr (λ e. absurd (cc))
cases_spot (InSlot p i) (InRoot j) = inr (λ e. absurd (cc))
cases_spot (InSlot p i) (InSlot q j) =
    elim (cases_eq p q) [
      | inl e ↦ elim (cases_eq i j) [ inl h ↦ inl (cc) | inr far ↦ inr (λ g. far (cc)) ]
      | inr far ↦ inr (λ g. far (cc))
    ]

pub first_store : FirstLaw
first_store [] u h = absurd h
first_store (Reads s ∷ ds) u h = first_store ds u h
first_store (Heads b q v ∷ ds) u h = first_store ds u h
first_store (Writes b s v ∷ ds) u (inl e) = (b, inl (e, refl))
first_store (Writes b s v ∷ ds) u (inr h) =
    elim (cases_spot u s) [
      | inl e ↦ (b, inl (e, refl))
      | inr far ↦ let r = first_store ds u h in (r.0, inr (far, r.1))
    ]

pub input_append : (ds es : List Deed) (u : Spot) → IsInput ds u → IsInput (ds ++ es) u
input_append [] es u h = absurd h
input_append (Reads s ∷ ds) es u (inl e) = inl e
input_append (Reads s ∷ ds) es u (inr h) = inr (input_append ds es u h)
input_append (Writes b s v ∷ ds) es u h = (h.0, input_append ds es u h.1)
input_append (Heads b q v ∷ ds) es u h = input_append ds es u h

pub first_append : (ds es : List Deed) (u : Spot) (a : Site) → FirstStore ds u a
    → FirstStore (ds ++ es) u a
first_append [] es u a h = absurd h
first_append (Reads s ∷ ds) es u a h = first_append ds es u a h
first_append (Writes b s v ∷ ds) es u a (inl e) = inl e
first_append (Writes b s v ∷ ds) es u a (inr h) = inr (h.0, first_append ds es u a h.1)
first_append (Heads b q v ∷ ds) es u a h = first_append ds es u a h

pub part : PartLaw
part functions ds es covered u a input first =
    covered u a (input_append ds es u input) (first_append ds es u a first)
