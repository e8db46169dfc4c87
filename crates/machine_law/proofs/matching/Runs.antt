-- A run by moments that ended is the machine's run, with its heap.
use Rattle.std.proofs.Common.{◌≡◌, ℕ, zero, suc, ◌+◌, List, [], ◌∷◌, length, drop, slice_get}
use Rattle.std.proofs.Common.{Option, Some, ℤ, refl, sym, ap, ◌∙◌, arith}
use Rattle.cache_model.specs.Cache.{Words}
use Rattle.pm_machine.specs.declared.effect.Effect.{Effect}
use Rattle.pm_machine.specs.declared.effect.Effect.TheVariants.{Flushes, Fences, Quiet}
use Rattle.pm_machine.specs.declared.effect.End.{End}
use Rattle.pm_machine.specs.declared.effect.End.TheVariants.{Halted}
use Rattle.pm_machine.specs.declared.image.Image.{Image}
use Rattle.pm_machine.specs.declared.op.Op.{Op}
use Rattle.pm_machine.specs.declared.op.Op.TheVariants.{Flush, Fence, Halt}
use Rattle.pm_machine.specs.Effects.{heap_past, heap_end}
use Rattle.pm_machine.specs.Machine.{State, StepOutcome, Goes, Ends, Finished, began, follow, step}
use Rattle.pm_machine.specs.Machine.{run, execute, flush, fetch, passed, cleaned}
use Rattle.pm_machine.specs.Machine.{read_register}
use Rattle.machine_law.specs.emitted.Moments.{RunMoment, RunStage, On, Over, moment_after, staged}
use Rattle.machine_law.specs.emitted.Moments.{one, stage_then, go, onto}
use Rattle.machine_law.specs.matching.Accesses.{accesses}

module _ (image : Image) (end : End) (b : RunMoment) where
  pub record Ran (k : ℕ) (s : State) (heap : Words) (seen : List Effect) : Type 0 where
    pub effects : List Effect
    pub seen_is : b.seen ≡ onto effects seen
    pub heap_is : b.heap ≡ heap_end heap effects
    pub is : run image k s heap ≡ Finished end effects

  abbrev RanOn : (k : ℕ) → RunMoment → StepOutcome → Type 0
  RanOn k m o =
      (es : List Effect) × (b.seen ≡ onto es m.seen) × (b.heap ≡ heap_end m.heap es)
      × (follow (λ e t. run image k t (heap_past m.heap e)) o
      ≡ Finished end es)

  ran_on : (k : ℕ) (m : RunMoment) (o : StepOutcome)
      → ((t : RunMoment) → go image k t ≡ Over end b → Ran k t.state t.heap t.seen)
      → stage_then (staged m o) (go image k) ≡ Over end b → RanOn k m o
  ran_on k m (Goes e t) next h =
      let r = next (moment_after m e t) h in
      (e ∷ r.effects, r.seen_is, r.heap_is, ap (began e) r.is)
  ran_on k m (Ends q) next h =
      let same : q ≡ end = cc in
      let at : m ≡ b = cc in (
        [],
        ap (λ (c : RunMoment). c.seen) (sym at),
        ap (λ (c : RunMoment). c.heap) (sym at),
        ap (λ (x : End). Finished x []) same,
      )

  pub ran_within : (k : ℕ) (m : RunMoment) → go image k m ≡ Over end b
      → Ran k m.state m.heap m.seen
  ran_within zero m h = absurd (cc)
  ran_within (suc k) m h =
      let r = ran_on k m (step image m.state m.heap) (λ t. ran_within k t) h in
      record { effects = r.0; seen_is = r.1; heap_is = r.2; is = r.3 }

one_step : (s : RunStage) → stage_then s On ≡ s
one_step (On m) = refl
one_step (Over end m) = refl

-- one step, by the instruction there
pub single : (image : Image) (m : RunMoment) (o : Op) → fetch image m.state ≡ Some o
    → go image (suc zero) m ≡ staged m (execute image m.heap m.state (Some o))
single image m o e = one_step (one image m)
    ∙ ap (λ (i : Option Op). staged m (execute image m.heap m.state i)) e

pub more : (image : Image) (k : ℕ) (m : RunMoment) (o : Op) → fetch image m.state ≡ Some o
    → go image (suc k) m ≡ stage_then
    (staged m (execute image m.heap m.state (Some o))) (go image k)
more image k m o e = ap (λ (i : Option Op).
    stage_then (staged m (execute image m.heap m.state i)) (go image k)) e

-- the return of a transaction
pub record IsReturned (image : Image) (k : ℕ) (v : ℤ) (m : RunMoment) : Type 0 where
  pub last : RunMoment
  pub is : go image k m ≡ Over (Halted v) last
  pub heap_is : last.heap ≡ m.heap
  pub seen_is : accesses last.seen ≡ accesses m.seen

module _ (image : Image) (a : ℕ) where
  halts : (m : RunMoment) → fetch image m.state ≡ Some (Halt a)
      → IsReturned image (suc zero) (read_register m.state a) m
  halts m e = record { last = m; is = single image m (Halt a) e; heap_is = refl; seen_is = refl }

  fences : (m : RunMoment) → fetch image m.state ≡ Some Fence
      → fetch image (passed m.state) ≡ Some (Halt a)
      → IsReturned image (suc (suc zero)) (read_register m.state a) m
  fences m e f =
      let next = halts (moment_after m Fences (passed m.state)) f in
      record {
        last = next.last;
        is = more image (suc zero) m Fence e ∙ next.is;
        heap_is = next.heap_is;
        seen_is = next.seen_is;
      }

  flushes : (ls : List ℕ) (m : RunMoment) → m.state.dirty ≡ ls → fetch image m.state ≡ Some Flush
      → fetch image (passed m.state) ≡ Some Fence → fetch image (passed (passed m.state))
      ≡ Some (Halt a) →
      IsReturned image (length ls + 3) (read_register m.state a) m
  flushes [] m is e f g =
      let none : List ℕ = [] in
      let three : length none + 3 ≡ suc (suc (suc zero)) = omega arith in
      let next = fences (moment_after m Quiet (passed m.state)) f g in
      record {
        last = next.last;
        is = ap (λ (k : ℕ). go image k m) three ∙ more image (suc (suc zero)) m Flush e
            ∙ ap (λ (ks : List ℕ). stage_then (staged m (flush m.state (slice_get ks 0)))
            (go image (suc (suc zero)))) is ∙ next.is;
        heap_is = next.heap_is;
        seen_is = next.seen_is;
      }
  flushes (l ∷ ls) m is e f g =
      let step_more : length (l ∷ ls) + 3 ≡ suc (length ls + 3) = omega arith in
      let next = flushes ls (moment_after m (Flushes l) (cleaned m.state))
      (ap (λ (ks : List ℕ). drop 1 ks) is) e f g in
      record {
        last = next.last;
        is = ap (λ (k : ℕ). go image k m) step_more ∙ more image (length ls + 3) m Flush e
            ∙ ap (λ (ks : List ℕ). stage_then (staged m (flush m.state (slice_get ks 0)))
            (go image (length ls + 3))) is ∙ next.is;
        heap_is = next.heap_is;
        seen_is = next.seen_is;
      }

  pub returns : (m : RunMoment) → fetch image m.state ≡ Some Flush
      → fetch image (passed m.state) ≡ Some Fence → fetch image (passed (passed m.state))
      ≡ Some (Halt a) →
      IsReturned image (length m.state.dirty + 3) (read_register m.state a) m
  returns m e f g = flushes m.state.dirty m refl e f g
