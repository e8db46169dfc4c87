-- The machine's runs have the properties that the crash law asks for.
use Rattle.std.specs.Prelude.{ℕ, suc, ◌<◌, ◌≡◌, List, [], ◌∷◌, ◌++◌, pos, ℤ}
use Rattle.cache_model.specs.Event.{CacheEvent, Fence}
use Rattle.cache_model.specs.Cache.{Words}
use Rattle.pool_layout.specs.declared.limits.Sizes.{Sizes}
use Rattle.pool_layout.specs.Sizes.{heap_words}
use Rattle.pool_map.specs.declared.trap.TrapKind.{TrapKind}
use Rattle.pool_map.specs.Trap.{trap_number}
use Rattle.pm_machine.specs.declared.effect.Effect.{Effect}
use Rattle.pm_machine.specs.declared.effect.End.{End}
use Rattle.pm_machine.specs.declared.effect.End.TheVariants.{Halted, Trapped}
use Rattle.pm_machine.specs.declared.records.Policy.{Policy}
use Rattle.pm_machine.specs.declared.records.Policy.TheVariants.{EndPool, RollBack}
use Rattle.pm_machine.specs.declared.image.Image.{Image}
use Rattle.pm_machine.specs.Effects.{events_all, heap_end}
use Rattle.pm_machine.specs.Inputs.{AreAlike}
use Rattle.pm_machine.specs.Machine.{State, Finished}
use Rattle.pm_machine.specs.Logging.{blank, logged_run, with_records}
use Rattle.pm_machine.specs.Runs.{AreLines}
use Rattle.args_log.specs.Retire.{retire_events, mark_events}
use Rattle.crash_law.specs.Pools.{IsKept}
use Rattle.crash_law.specs.Due.{Entry, no_records, records_after, run_events, heap_after}
use Rattle.crash_law.specs.Due.{flush_all, lines_of, undo_events, due_run}
use Rattle.crash_law.specs.Law.{IsRun}
use Rattle.run_law.specs.Seen.{trace_in, result_of, E, W}
use Rattle.run_law.specs.Sound.{IsSoundRun}

-- the last flushes and the fence of a run, from its trace
abbrev pub last_events : Sizes → End → List Entry → List CacheEvent
last_events z (Halted v) trace = flush_all (lines_of z [] trace) (Fence ∷ [])
last_events z (Trapped k) trace = []

-- the events after a trap: a mark, or those that roll the call back
abbrev pub trap_close : Policy → Sizes → (a k : ℕ) → Words → (last : ℤ) → TrapKind → List Entry
    → List CacheEvent
trap_close EndPool z a k heap last t trace = mark_events (trap_number t)
trap_close RollBack z a k heap last t trace =
    undo_events z a k (records_after no_records heap trace) last

-- the events after a run, for the call numbered k
abbrev pub close_events : Policy → Sizes → (a k : ℕ) → Words → (last : ℤ) → End → List Entry
    → List CacheEvent
close_events p z a k heap last (Halted v) trace = retire_events v (pos k) (pos (suc a))
close_events p z a k heap last (Trapped t) trace = trap_close p z a k heap last t trace

-- A sound run's events are those of its trace, followed by the last flushes and the fence, and its
-- heap is that of its trace.
abbrev pub JoinLaw : Type 0
JoinLaw =
    (p : Policy) (z : Sizes) (a : ℕ) (heap : Words) (end : End) (es : List Effect)
    → IsSoundRun p end es →
    (events_all z a 0 heap es ≡ run_events z a 0 heap (trace_in es)
    ++ last_events z end (trace_in es))
    × (heap_end heap es ≡ heap_after heap (trace_in es))

-- The laws of a call and of a recovery apply to a sound run that starts with no record.
abbrev pub RunLaw : Type 0
RunLaw =
    (p : Policy) (last : ℤ) (image : Image) (super : Words) (k : ℕ) (s : State) (heap : Words)
    (end : End) (es : List Effect) →
    AreLines (heap_words image.parts.sizes) s.dirty
    → logged_run image k (blank p) s heap ≡ Finished end es → IsSoundRun p end es →
    IsRun (record { sizes = image.parts.sizes; super = super }) (E p es) (W es)
    (result_of p last end) (trace_in es)

-- A run with its records is sound if the run without them is, in which each input that is
-- overwritten has a LOG first.
abbrev pub RecordsSoundLaw : Type 0
RecordsSoundLaw =
    (p : Policy) (C : ℕ) (end end1 : End) (es es1 : List Effect) → IsSoundRun EndPool end es →
    with_records C (blank p) end es ≡ Finished end1 es1 → IsSoundRun p end1 es1

-- The events of a sound run, followed by those of its end, are the due ones.
abbrev pub DueRunLaw : Type 0
DueRunLaw =
    (p : Policy) (z : Sizes) (a k : ℕ) (heap : Words) (last : ℤ) (end : End) (es : List Effect)
    → IsSoundRun p end es →
    events_all z a 0 heap es ++ close_events p z a k heap last end (trace_in es)
    ≡ due_run z a k heap (result_of p last end) (trace_in es)

-- The heap that an owed image restores is alike for the run.
abbrev pub RestoredLaw : Type 0
RestoredLaw =
    (p : Policy) (H : ℕ) (es : List Effect) (h r : Words)
    → ((w : ℕ) → w < H → IsKept (E p es) (W es) w → r w ≡ h w) → AreAlike H es h r
