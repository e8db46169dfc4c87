-- The laws of the machine's runs.
use Rattle.std.specs.Prelude.{ℕ, ◌+◌, ◌<◌, ◌≤◌, ◌≡◌, true, false, nat_lt, List, length}
use Rattle.cache_model.specs.Cache.{Words, Cache}
use Rattle.pool_layout.specs.Sizes.{heap_words}
use Rattle.pool_map.specs.declared.trap.TrapKind.TheVariants.{LogFull}
use Rattle.pm_machine.specs.declared.effect.Effect.{Effect}
use Rattle.pm_machine.specs.declared.effect.End.{End}
use Rattle.pm_machine.specs.declared.effect.End.TheVariants.{Trapped}
use Rattle.pm_machine.specs.declared.image.Image.{Image}
use Rattle.pm_machine.specs.Effects.{heap_end, records_end}
use Rattle.pm_machine.specs.Inputs.{AreAlike}
use Rattle.pm_machine.specs.Machine.{State, Finished, run}
use Rattle.pm_machine.specs.Logging.{Logging, logged_run, with_records, takes}
use Rattle.pm_machine.specs.Looking.{look_of, AreLooks}
use Rattle.pm_machine.specs.Runs.{heap_in, AreLines, due, owed, IsFinished}

-- A run that finished has the same end with more fuel.
abbrev pub FuelLaw : Type 0
FuelLaw =
    (image : Image) (k m : ℕ) (s : State) (heap : Words) (end : End) (es : List Effect) → k ≤ m →
    run image k s heap ≡ Finished end es → run image m s heap ≡ Finished end es

-- The run with its records is the run without, with a record before each effect that takes one.
abbrev pub RecordsLaw : Type 0
RecordsLaw = (image : Image) (k : ℕ) (g : Logging) (s : State) (heap : Words) (end : End)
    (es : List Effect) → run image k s heap ≡ Finished end es
    → logged_run image k g s heap ≡ with_records image.parts.sizes.records g end es

-- such a run, with a log that had room for its records
pub record HasAllRecords (g : Logging) (end : End) (es : List Effect) (end1 : End)
    (es1 : List Effect) : Type 0 where
  pub ends : end1 ≡ end
  pub heap : (heap : Words) → heap_end heap es1 ≡ heap_end heap es
  pub records : records_end g.count es1 ≡ g.count + takes g es

-- It ends with a full log exactly if more words take a record than the log has room for; else it
-- ends as the run without its records, and has taken just those.
abbrev pub ExactLaw : Type 0
ExactLaw = (C : ℕ) (g : Logging) (end : End) (es : List Effect) → g.count ≤ C →
    (end1 : End) × (es1 : List Effect) × (with_records C g end es ≡ Finished end1 es1)
    × (nat_lt C (g.count + takes g es) ≡ true → end1 ≡ Trapped LogFull)
    × (nat_lt C (g.count + takes g es) ≡ false → HasAllRecords g end es end1 es1)

-- Agreement: two heaps that are alike for the run from the first have the same run, and the same
-- heap after it.
abbrev pub Agreement : Type 0
Agreement =
    (image : Image) (k : ℕ) (g : Logging) (s : State) (h r : Words) (end : End) (es : List Effect) →
    logged_run image k g s h ≡ Finished end es → AreAlike (heap_words image.parts.sizes) es h r →
    (logged_run image k g s r ≡ Finished end es) × ((u : ℕ) → u < heap_words image.parts.sizes
    → heap_end h es u ≡ heap_end r es u)

-- The due events of the run on a cache are those of the run on its heap.
abbrev pub DueLaw : Type 0
DueLaw =
    (image : Image) (a k : ℕ) (g : Logging) (s : State) (c : Cache) →
    AreLines (heap_words image.parts.sizes) s.dirty
    → IsFinished (logged_run image k g s (heap_in image.parts.sizes c)) →
    due image a k g s c ≡ owed image.parts.sizes a g (heap_in image.parts.sizes c)
    (logged_run image k g s (heap_in image.parts.sizes c))

-- The run on a cache whose heap is alike has the due events of the run from the first heap,
-- computed on its own heap.
abbrev pub AlikeDueLaw : Type 0
AlikeDueLaw =
    (image : Image) (a k : ℕ) (g : Logging) (s : State) (c : Cache) (h : Words) (end : End)
    (es : List Effect) →
    AreLines (heap_words image.parts.sizes) s.dirty → logged_run image k g s h ≡ Finished end es
    → AreAlike (heap_words image.parts.sizes) es h (heap_in image.parts.sizes c) →
    due image a k g s c ≡ owed image.parts.sizes a g (heap_in image.parts.sizes c) (Finished end es)

-- A run whose effects are all those of a look is one: it ends so, and the heap stays as it is.
pub record IsLookOf (image : Image) (k : ℕ) (s : State) (heap : Words) (end : End)
    (es : List Effect) : Type 0 where
  pub end_is : (look_of image k s heap).end ≡ end
  pub steps_are : (look_of image k s heap).steps ≡ length es + 1
  pub heap_is : heap_end heap es ≡ heap

abbrev pub LookLaw : Type 0
LookLaw =
    (image : Image) (k : ℕ) (s : State) (heap : Words) (end : End) (es : List Effect) →
    run image k s heap ≡ Finished end es → AreLooks es → IsLookOf image k s heap end es
