-- A run of the machine, moment by moment: the state, the heap, and the effects so far, the newest
-- first.
use Rattle.std.specs.Prelude.{ℕ, zero, suc, ◌≡◌, List, [], ◌∷◌}
use Rattle.cache_model.specs.Cache.{Words}
use Rattle.pm_machine.specs.declared.effect.Effect.{Effect}
use Rattle.pm_machine.specs.declared.effect.End.{End}
use Rattle.pm_machine.specs.declared.image.Image.{Image}
use Rattle.pm_machine.specs.Effects.{heap_past}
use Rattle.pm_machine.specs.Machine.{State, StepOutcome, Goes, Ends, step, Finished, run}

pub record RunMoment : Type 0 where
  pub state : State
  pub heap : Words
  pub seen : List Effect

-- a run goes on, or has ended
pub data RunStage : Type 0 where
  On : RunMoment → RunStage
  Over : End → RunMoment → RunStage

abbrev pub moment_after : RunMoment → Effect → State → RunMoment
moment_after m e t = record {
  state = t;
  heap = heap_past m.heap e;
  seen = e ∷ m.seen;
}

abbrev pub staged : RunMoment → StepOutcome → RunStage
staged m (Goes e t) = On (moment_after m e t)
staged m (Ends end) = Over end m

abbrev pub one : Image → RunMoment → RunStage
one image m = staged m (step image m.state m.heap)

abbrev pub stage_then : RunStage → (RunMoment → RunStage) → RunStage
stage_then (On m) f = f m
stage_then (Over end m) f = Over end m

-- at most n steps
abbrev pub go : Image → ℕ → RunMoment → RunStage
go image zero m = On m
go image (suc n) m = stage_then (one image m) (go image n)

-- the effects of a run, in order, added to those so far
abbrev pub onto : List Effect → List Effect → List Effect
onto [] seen = seen
onto (e ∷ es) seen = onto es (e ∷ seen)

-- A run by moments that ends within k steps is the machine's run of at most k instructions.
abbrev pub RunsLaw : Type 0
RunsLaw = (image : Image) (k : ℕ) (m b : RunMoment) (end : End) → go image k m ≡ Over end b →
    (es : List Effect) × (b.seen ≡ onto es m.seen)
    × (run image k m.state m.heap ≡ Finished end es)
