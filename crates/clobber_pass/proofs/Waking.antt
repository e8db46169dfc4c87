-- Which functions wait as entries grow.
use Rattle.std.proofs.Common.{◌≡◌, ◌<◌, ℕ, zero, suc, Bool, true, false, List, [], ◌∷◌}
use Rattle.std.proofs.Common.{length, refl, sym, ◌∙◌, ap, arith, ⊎_elim}
use Rattle.std.specs.Prelude.{slice_set}
use Rattle.std.proofs.lemmas.Bool.{false≢true}
use Rattle.std.proofs.lemmas.List.{length-set}
use mathlib.Core.Logic.{◌⊎◌}
use Rattle.clobber_pass.specs.Sweep.{row_in}
use Rattle.clobber_pass.specs.inside.Sweep.{row_joined, join_in}
use Rattle.clobber_pass.specs.inside.Flow.{waits, Wakes}
use Rattle.clobber_pass.proofs.bits.Joins.{row_in_set}

pub wakes_none : (waiting : List Bool) (entries : List (List ℕ))
    → Wakes waiting waiting entries entries
wakes_none waiting entries = record { size = refl; kept = λ f quiet. (quiet, refl) }

pub wakes_both : (waiting middle_waiting later : List Bool) (entries middle new : List (List ℕ))
    → Wakes waiting middle_waiting entries middle → Wakes middle_waiting later middle new
    → Wakes waiting later entries new
wakes_both waiting middle_waiting later entries middle new one two = record {
  size = two.size ∙ one.size;
  kept = λ f quiet. let second = two.kept f quiet in let first = one.kept f second.0 in
      (first.0, second.1 ∙ first.1);
}

pub waits_set : (waiting : List Bool) (g : ℕ) → waits (slice_set waiting g true) g ≡ true
waits_set [] g = refl
waits_set (w ∷ ws) zero = refl
waits_set (w ∷ ws) (suc g) = waits_set ws g

pub waits_kept : (waiting : List Bool) (g f : ℕ) → waits (slice_set waiting g true) f ≡ false
    → waits waiting f ≡ false
waits_kept [] g f quiet = quiet
waits_kept (w ∷ ws) zero zero quiet = absurd (false≢true (sym quiet))
waits_kept (w ∷ ws) zero (suc f) quiet = quiet
waits_kept (w ∷ ws) (suc g) zero quiet = quiet
waits_kept (w ∷ ws) (suc g) (suc f) quiet = waits_kept ws g f quiet

-- a function has to be swept again if its entry has a new fact
pub wakes_one : (waiting : List Bool) (entries : List (List ℕ)) (g : ℕ) (row : List ℕ)
    → Wakes waiting (slice_set waiting g true) entries (join_in entries g row)
wakes_one waiting entries g row = record { size = length-set waiting g true; kept = kept }
  where
    kept : (f : ℕ) → waits (slice_set waiting g true) f ≡ false → (waits waiting f ≡ false)
        × (row_in (join_in entries g row) f ≡ row_in entries f)
    kept f quiet = (
      waits_kept waiting g f quiet,
      ⊎_elim (λ same. same) this (row_in_set entries g (row_joined (row_in entries g) row) f),
    )
      where
        this : (f ≡ g) × (row_in (join_in entries g row) f ≡ row_joined (row_in entries g) row)
            → row_in (join_in entries g row) f ≡ row_in entries f
        this (is, joined_is) = absurd (false≢true
            (sym quiet ∙ ap (waits (slice_set waiting g true)) is ∙ waits_set waiting g))

pub ruleset waking = (wakes_none, wakes_both, wakes_one)

-- a function that was swept
pub waits_settled : (waiting : List Bool) (f : ℕ) → f < length waiting
    → waits (slice_set waiting f false) f ≡ false
waits_settled [] f inside = absurd (omega arith)
waits_settled (w ∷ ws) zero inside = refl
waits_settled (w ∷ ws) (suc f) inside = waits_settled ws f (omega arith)

pub waits_other : (waiting : List Bool) (f g : ℕ) (b : Bool) → (g ≡ f → ⊥)
    → waits (slice_set waiting f b) g ≡ waits waiting g
waits_other [] f g b unlike = refl
waits_other (w ∷ ws) zero zero b unlike = absurd (unlike refl)
waits_other (w ∷ ws) zero (suc g) b unlike = refl
waits_other (w ∷ ws) (suc f) zero b unlike = refl
waits_other (w ∷ ws) (suc f) (suc g) b unlike = waits_other ws f g b (λ is. unlike (ap suc is))

pub waits_still : (waiting : List Bool) (f g : ℕ) → waits waiting g ≡ false
    → waits (slice_set waiting f false) g ≡ false
waits_still [] f g quiet = quiet
waits_still (w ∷ ws) zero zero quiet = refl
waits_still (w ∷ ws) zero (suc g) quiet = quiet
waits_still (w ∷ ws) (suc f) zero quiet = quiet
waits_still (w ∷ ws) (suc f) (suc g) quiet = waits_still ws f g quiet

pub ruleset settling = (waits_settled, waits_still)
