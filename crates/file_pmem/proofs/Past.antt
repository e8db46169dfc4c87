-- What is true of each memory stays true: its marks fit, and the lines past the last one are blank.
use Rattle.std.proofs.Common.{◌≡◌, ℕ, ◌*◌, ◌/◌, ◌<◌, ◌==◌, cond, Bool, true, false, Option, Some}
use Rattle.std.proofs.Common.{None, zero, suc, ℤ, refl, ap, ◌∙◌, arith}
use Rattle.std.proofs.lemmas.Bool.{eqb-true}
use Rattle.cache_model.specs.Event.{Store, Flush, Fence}
use Rattle.cache_model.specs.Cache.{Memory, Line, blank_line}
use Rattle.cache_model.specs.Play.{after, apply, fence_line}
use Rattle.cache_model.specs.Collapse.{collapse, left_cache, left_line, picked}
use Rattle.cache_model.specs.declared.choice.Choice.{Choice}
use Rattle.cache_model.specs.declared.choice.Rest.{Rest}
use Rattle.cache_model.specs.declared.choice.Rest.TheVariants.{Old, New}
use Rattle.file_pmem.specs.Mirror.{MarksFit, IsBlankPast, IsWell}
use Rattle.file_pmem.proofs.Mirrors.{store_marks, flush_marks, fence_marks}

pub no_mark : (o : Option ℕ) (k : ℕ) → o ≡ None → o ≡ Some k → ⊥
no_mark None k e f = cc
no_mark (Some j) k e f = cc

left_marks : (m : Memory) (choice : Choice) → MarksFit (collapse m choice)
unfolding left_cache
left_marks m choice l k e = absurd (no_mark None k refl e)

-- another line stays
other_line : (b : Bool) (x y z : Line) → (b ≡ true → ⊥) → y ≡ z → cond b x y ≡ z
other_line true x y z not e = absurd (not refl)
other_line false x y z not e = e

store_past : (m : Memory) (p : ℕ) (x : ℤ) → p < 8 * m.lines → IsBlankPast m
    → IsBlankPast (after m (Store p x))
unfolding apply
store_past m p x lt h l le = other_line (l == p / 8) _ (m.cache l) blank_line
    (λ e. let at : l ≡ p / 8 = eqb-true l (p / 8) e in omega (arith, lt, le, at)) (h l le)

flush_past : (m : Memory) (k : ℕ) → k < m.lines → IsBlankPast m → IsBlankPast (after m (Flush k))
unfolding apply
flush_past m k lt h l le = other_line (l == k) _ (m.cache l) blank_line
    (λ e. let at : l ≡ k = eqb-true l k e in omega (arith, lt, le, at)) (h l le)

fence_past : (m : Memory) → IsBlankPast m → IsBlankPast (after m Fence)
unfolding apply
fence_past m h l le = ap fence_line (h l le)

left_blank : (rest : Rest) (pick : Option ℕ) → left_line rest pick blank_line ≡ blank_line
left_blank Old None = refl
left_blank New None = refl
left_blank rest (Some zero) = refl
left_blank rest (Some (suc k)) = refl

left_past : (m : Memory) (choice : Choice) → IsBlankPast m → IsBlankPast (collapse m choice)
unfolding left_cache
left_past m choice h l le =
    ap (λ (y : Line). left_line choice.rest (picked choice.picks l) y) (h l le)
    ∙ left_blank choice.rest (picked choice.picks l)

pub store_well : (m : Memory) (p : ℕ) (x : ℤ) → p < 8 * m.lines → IsWell m
    → IsWell (after m (Store p x))
store_well m p x lt h =
    record { marks = store_marks m p x h.marks; past = store_past m p x lt h.past }

pub flush_well : (m : Memory) (k : ℕ) → k < m.lines → IsWell m → IsWell (after m (Flush k))
flush_well m k lt h = record { marks = flush_marks m k h.marks; past = flush_past m k lt h.past }

pub fence_well : (m : Memory) → IsWell m → IsWell (after m Fence)
fence_well m h = record { marks = fence_marks m; past = fence_past m h.past }

pub left_well : (m : Memory) (choice : Choice) → IsWell m → IsWell (collapse m choice)
left_well m choice h = record { marks = left_marks m choice; past = left_past m choice h.past }
