-- Runs of the machine, moment by moment.
use Rattle.std.proofs.Common.{◌≡◌, ℕ, zero, suc, ◌+◌, List, [], ◌∷◌, refl, sym, ap, ◌∙◌, arith}
use Rattle.pm_machine.specs.declared.effect.Effect.{Effect}
use Rattle.pm_machine.specs.declared.effect.End.{End}
use Rattle.pm_machine.specs.declared.image.Image.{Image}
use Rattle.pm_machine.specs.Effects.{heap_past}
use Rattle.pm_machine.specs.Machine.{StepOutcome, Goes, Ends, Finished, began, follow, step, run}
use Rattle.machine_law.specs.emitted.Moments.{RunMoment, RunStage, On, Over, moment_after, staged}
use Rattle.machine_law.specs.emitted.Moments.{one, stage_then, go, onto, RunsLaw}

and_and : (r : RunStage) (f g h : RunMoment → RunStage)
    → ((m : RunMoment) → f m ≡ stage_then (g m) h)
    → stage_then r f ≡ stage_then (stage_then r g) h
and_and (On m) f g h e = e m
and_and (Over end m) f g h e = refl

-- some of the steps can be taken first
pub go_add : (image : Image) (i j : ℕ) (m : RunMoment)
    → go image (i + j) m ≡ stage_then (go image i m) (go image j)
go_add image zero j m = let e : 0 + j ≡ j = omega arith in ap (λ (n : ℕ). go image n m) e
go_add image (suc i) j m =
    let e : suc i + j ≡ suc (i + j) = omega arith in
    ap (λ (n : ℕ). go image n m) e ∙ and_and (one image m) (go image (i + j)) (go image i)
    (go image j) (go_add image i j)

pub go_on : (image : Image) (i j : ℕ) (m b : RunMoment) (r : RunStage) → go image i m ≡ On b
    → go image j b ≡ r → go image (i + j) m ≡ r
go_on image i j m b r e f =
    go_add image i j m ∙ ap (λ (x : RunStage). stage_then x (go image j)) e ∙ f

-- a run that ended stays so with more steps
pub go_over : (image : Image) (i j : ℕ) (m b : RunMoment) (end : End) → go image i m ≡ Over end b
    → go image (i + j) m ≡ Over end b
go_over image i j m b end e =
    go_add image i j m ∙ ap (λ (x : RunStage). stage_then x (go image j)) e

module _ (image : Image) (end : End) (b : RunMoment) where
  abbrev Ran : (k : ℕ) → RunMoment → Type 0
  Ran k m = (es : List Effect) × (b.seen ≡ onto es m.seen)
      × (run image k m.state m.heap ≡ Finished end es)

  ran_on : (k : ℕ) (m : RunMoment) (o : StepOutcome)
      → ((t : RunMoment) → go image k t ≡ Over end b → Ran k t)
      → stage_then (staged m o) (go image k)
      ≡ Over end b →
      (es : List Effect) × (b.seen ≡ onto es m.seen)
      × (follow (λ e t. run image k t (heap_past m.heap e)) o
      ≡ Finished end es)
  ran_on k m (Goes e t) next h =
      let r = next (moment_after m e t) h in
      (e ∷ r.0, r.1, ap (began e) r.2)
  ran_on k m (Ends q) next h =
      let same : q ≡ end = cc in
      let at : m ≡ b = cc in
      ([], ap (λ (c : RunMoment). c.seen) (sym at), ap (λ (x : End). Finished x []) same)

  ran_within : (k : ℕ) (m : RunMoment) → go image k m ≡ Over end b → Ran k m
  ran_within zero m h = absurd (cc)
  ran_within (suc k) m h = ran_on k m (step image m.state m.heap) (λ t. ran_within k t) h

pub ran : RunsLaw
ran image k m b end h = ran_within image end b k m h
