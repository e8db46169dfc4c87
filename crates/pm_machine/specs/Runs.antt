-- The due events of a run on a device's cache, and the invariants of its steps.
use Rattle.std.specs.Prelude.{◌≡◌, ℕ, zero, suc, ◌*◌, ◌<◌, ◌++◌, List, [], ◌∷◌, Option, Some}
use Rattle.std.specs.Prelude.{None}
use Rattle.cache_model.specs.Event.{CacheEvent}
use Rattle.cache_model.specs.Cache.{Words, Cache, view}
use Rattle.cache_model.specs.Play.{play}
use Rattle.pool_layout.specs.declared.limits.Sizes.{Sizes}
use Rattle.pool_layout.specs.declared.places.Place.TheVariants.{Heap}
use Rattle.pool_layout.specs.Places.{at, pool_of}
use Rattle.clobber_log.specs.Logs.{attempt_in, count_in}
use Rattle.pm_machine.specs.declared.effect.Effect.{Effect}
use Rattle.pm_machine.specs.declared.effect.Effect.TheVariants.{Quiet}
use Rattle.pm_machine.specs.declared.effect.End.{End}
use Rattle.pm_machine.specs.declared.effect.End.TheVariants.{Trapped}
use Rattle.pool_map.specs.declared.trap.TrapKind.TheVariants.{Steps}
use Rattle.pm_machine.specs.declared.processor.Progress.{Progress}
use Rattle.pm_machine.specs.declared.processor.Progress.TheVariants as progress
use Rattle.pm_machine.specs.declared.image.Image.{Image}
use Rattle.pm_machine.specs.declared.machine.Went.{Went}
use Rattle.pm_machine.specs.declared.machine.Went.TheVariants as went
use Rattle.pm_machine.specs.declared.records.Policy.{Policy}
use Rattle.pm_machine.specs.Effects.{events_all, records_end, steps_in}
use Rattle.pm_machine.specs.Machine.{State, StepOutcome, Goes, Ends, Run, Unfinished, Finished}
use Rattle.pm_machine.specs.Logging.{Logging, Turn, Plays, Stops, turn_of}

-- the heap in the view of a cache
abbrev pub heap_in : Sizes → Cache → Words
heap_in s c w = view c (at (pool_of s) (Heap w))

-- the code's answer as an outcome of the definition
abbrev pub outcome_of : Progress → State → StepOutcome
outcome_of (progress.Did e) s = Goes e s
outcome_of (progress.Ended e) s = Ends e

abbrev pub effect_of : Progress → Effect
effect_of (progress.Did e) = e
effect_of (progress.Ended e) = Quiet

abbrev pub effect_in : StepOutcome → Effect
effect_in (Goes e s) = e
effect_in (Ends e) = Quiet

-- lines of a heap of H words
abbrev pub AreLines : ℕ → List ℕ → Type 0
AreLines H [] = Unit {0}
AreLines H (l ∷ ls) = (8 * l < H) × AreLines H ls

-- what is due of a run on a cache: its events, its end if it has one, its number of steps, and the
-- records after it
pub record Due : Type 0 where
  pub events : List CacheEvent
  pub fate : Option End
  pub steps : ℕ
  pub records : ℕ

-- A run's end. A run without an end within its number of steps ends as if it had no tick left.
abbrev pub end_of : Option End → End
end_of None = Trapped Steps
end_of (Some end) = end

-- the events of this turn, and then those from the next state on
abbrev pub due_before : List CacheEvent → Due → Due
due_before es x = record {
  events = es ++ x.events;
  fate = x.fate;
  steps = suc x.steps;
  records = x.records;
}

-- the events of a turn, with attempt a
abbrev pub turn_events : Sizes → (a : ℕ) → Logging → Words → Turn → List CacheEvent
turn_events z a g heap (Plays es h t) = events_all z a g.count heap es
turn_events z a g heap (Stops end) = []

-- what is due of a turn, followed by the rest
abbrev pub owing : Sizes → (a : ℕ) → Logging → Words → (List Effect → Logging → State → Due) → Turn
    → Due
owing z a g heap rest (Plays es h t) =
    due_before (events_all z a g.count heap es) (rest es h t)
owing z a g heap rest (Stops end) =
    record { events = []; fate = Some end; steps = 1; records = g.count }

-- the cache after these effects
abbrev pub played : Sizes → (a : ℕ) → Logging → Cache → List Effect → Cache
played z a g c es = play c (events_all z a g.count (heap_in z c) es)

-- what is due of the run on the view of a cache, with attempt a, of at most k turns
abbrev pub due : Image → (a k : ℕ) → Logging → State → Cache → Due
due image a zero g s c = record { events = []; fate = None; steps = 0; records = g.count }
due image a (suc k) g s c =
    owing image.parts.sizes a g (heap_in image.parts.sizes c)
    (λ es h t. due image a k h t (played image.parts.sizes a g c es))
    (turn_of image g s (heap_in image.parts.sizes c))

-- a run that begins on this cache
abbrev pub logging_on : Policy → Sizes → Cache → Logging
logging_on p s c = record { policy = p; count = count_in s (view c); words = [] }

-- what is due of the run on a pool, whose attempt and records are those in the view
abbrev pub due_on : Policy → Image → State → Cache → Due
due_on p image s c =
    due image (attempt_in image.parts.sizes (view c)) image.parts.most
    (logging_on p image.parts.sizes c) s c

-- the events of the next turn, with attempt a
abbrev pub due_step : Image → (a : ℕ) → Logging → State → Cache → List CacheEvent
due_step image a g s c =
    turn_events image.parts.sizes a g (heap_in image.parts.sizes c)
    (turn_of image g s (heap_in image.parts.sizes c))

-- the machine went on as this turn goes on, or ended as it ends
abbrev pub IsTurn : Went → Logging → State → Turn → Type 0
IsTurn went.On g s (Plays es h t) = (g ≡ h) × (s ≡ t)
IsTurn went.On g s (Stops end) = ⊥
IsTurn (went.Ended e) g s (Plays es h t) = ⊥
IsTurn (went.Ended e) g s (Stops end) = e ≡ end

-- this holds where the run has ended
abbrev pub IfEnded : Went → Type 0 → Type 0
IfEnded went.On A = Unit {0}
IfEnded (went.Ended e) A = A

-- what is due of a run that begins with this heap
abbrev pub owed : Sizes → (a : ℕ) → Logging → Words → Run → Due
owed s a g heap Unfinished = record { events = []; fate = None; steps = 0; records = g.count }
owed s a g heap (Finished end es) =
    record {
      events = events_all s a g.count heap es;
      fate = Some end;
      steps = suc (steps_in es);
      records = records_end g.count es;
    }

abbrev pub IsFinished : Run → Type 0
IsFinished Unfinished = ⊥
IsFinished (Finished end es) = Unit {0}
