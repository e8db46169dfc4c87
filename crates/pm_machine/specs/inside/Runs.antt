-- What only bodies and proofs need beside `Runs`.
use Rattle.std.specs.Prelude.{ℕ, ◌+◌, ◌*◌, ◌<◌, ◌≤◌, ◌≡◌, List, [], Option, None, Some, ℤ}
use Rattle.cache_model.specs.Cache.{Words, Cache}
use Rattle.cache_model.specs.Event.{CacheEvent}
use Rattle.pool_layout.specs.declared.limits.Sizes.{Sizes}
use Rattle.clobber_log.specs.Record.{record_events}
use Rattle.pmem.specs.Device.{Device}
use Rattle.pmem.specs.declared.answer.Refusal.{Refusal}
use Rattle.pmem.specs.Played.{PlaysAll, PlaysPart}
use Rattle.pm_machine.specs.declared.effect.Effect.{Effect}
use Rattle.pm_machine.specs.declared.effect.Effect.TheVariants.{Loads, Scans, Stores, Logs, Flushes}
use Rattle.pm_machine.specs.declared.effect.Effect.TheVariants.{Fences, Quiet}
use Rattle.pm_machine.specs.declared.image.Image.{Image}
use Rattle.pm_machine.specs.declared.machine.Went.{Went}
use Rattle.pm_machine.specs.declared.machine.Went.TheVariants as went
use Rattle.pm_machine.specs.declared.silent.Reached.{Reached}
use Rattle.pm_machine.specs.Effects.{events_of}
use Rattle.pm_machine.specs.Logging.{Logging, bare}
use Rattle.pm_machine.specs.Looking.{look_of}
use Rattle.pm_machine.specs.Machine.{State, StepOutcome, Goes, Ends, step}
use Rattle.pm_machine.specs.Runs.{heap_in, effect_in, AreLines, Due, due}

abbrev pub IsStore : Effect → Type 0
IsStore (Stores w x) = Unit {0}
IsStore (Loads w) = ⊥
IsStore (Scans w apart m) = ⊥
IsStore (Logs w) = ⊥
IsStore (Flushes l) = ⊥
IsStore Fences = ⊥
IsStore Quiet = ⊥

-- the words, headers and lines of an effect exist: H heap words
abbrev pub IsInRange : (H : ℕ) → Effect → Type 0
IsInRange H (Loads w) = w < H
IsInRange H (Scans w apart m) = w + apart * m ≤ H
IsInRange H (Stores w x) = w < H
IsInRange H (Logs w) = w < H
IsInRange H (Flushes l) = 8 * l < H
IsInRange H Fences = Unit {0}
IsInRange H Quiet = Unit {0}

-- a record has room among C, n of which are written
abbrev pub HasRoomFor : (C n : ℕ) → Effect → Type 0
HasRoomFor C n (Loads w) = Unit {0}
HasRoomFor C n (Scans w apart m) = Unit {0}
HasRoomFor C n (Stores w x) = Unit {0}
HasRoomFor C n (Logs w) = n < C
HasRoomFor C n (Flushes l) = Unit {0}
HasRoomFor C n Fences = Unit {0}
HasRoomFor C n Quiet = Unit {0}

-- the events of a record, if one is taken
abbrev pub taken_events : Sizes → (a : ℕ) → Logging → Words → Option ℕ → List CacheEvent
taken_events z a g heap None = []
taken_events z a g heap (Some w) = record_events z g.count w (heap w) (a + 1)

-- the outcome goes on to this state, with an effect that has no event
abbrev pub GoesSilently : State → StepOutcome → Type 0
GoesSilently t (Goes Quiet s) = t ≡ s
GoesSilently t (Goes (Loads w) s) = t ≡ s
GoesSilently t (Goes (Scans w apart m) s) = ⊥
GoesSilently t (Goes (Stores w x) s) = ⊥
GoesSilently t (Goes (Logs w) s) = ⊥
GoesSilently t (Goes (Flushes l) s) = ⊥
GoesSilently t (Goes Fences s) = ⊥
GoesSilently t (Ends e) = ⊥

-- a state with these registers, ticks and place
abbrev pub worked : State → List ℤ → (ticks place : ℕ) → State
worked s registers ticks place = record {
  top = record {
    function = s.top.function;
    place = place;
    to = s.top.to;
    registers = registers;
  };
  below = s.below;
  ticks = ticks;
  dirty = s.dirty;
  size = s.size;
}

-- the processor went on as this step goes on, or ended as it ends
abbrev pub IsStep : Went → State → StepOutcome → Type 0
IsStep went.On s (Goes e t) = s ≡ t
IsStep went.On s (Ends end) = ⊥
IsStep (went.Ended q) s (Goes e t) = ⊥
IsStep (went.Ended q) s (Ends end) = q ≡ end

-- the events of a step without its record, with n records
abbrev pub bare_events : Image → (a n : ℕ) → State → Cache → List CacheEvent
bare_events image a n s c =
    events_of image.parts.sizes a n (heap_in image.parts.sizes c)
    (bare (effect_in (step image s (heap_in image.parts.sizes c))))

-- what a step keeps: its effect is in range, and the dirty lines are lines of the heap
abbrev pub StepKeeps : (H : ℕ) → StepOutcome → Type 0
StepKeeps H (Goes e t) = IsInRange H e × AreLines H t.dirty
StepKeeps H (Ends e) = Unit {0}

-- playing what remains, from device d and step k, completes what was due at the start
pub record DueLeads (d : Device) (k : ℕ) (x : Due) (d0 : Device) (k0 : ℕ) (x0 : Due) : Type 0 where
  pub fate : x.fate ≡ x0.fate
  pub whole : (b : Device) → PlaysAll d x.events b → PlaysAll d0 x0.events b
  pub part : (why : Refusal) (b : Device) → PlaysPart why d x.events b
      → PlaysPart why d0 x0.events b
  pub steps : k + x.steps ≡ k0 + x0.steps
  pub records : x.records ≡ x0.records

-- on one device and from any attempt and records, what is left of a run in state s after k steps
-- completes what was left of it in state s0 after k0 steps
abbrev pub RestLeads : Image → Device → (left k : ℕ) → State → (left0 k0 : ℕ) → State → Type 0
RestLeads image d left k s left0 k0 s0 = (a : ℕ) (g : Logging)
    → DueLeads d k (due image a left g s d.cache) d k0 (due image a left0 g s0 d.cache)

-- the same of a stretch without events, from one place to another with these registers, in any
-- state whose open function this is
abbrev pub StretchLeads : Image → Device → (function : ℕ) → List ℤ → Reached → (k : ℕ) → List ℤ
    → Reached → (k0 : ℕ) → Type 0
StretchLeads image d function registers to k registers0 from k0 = (s : State)
    → s.top.function ≡ function
    → RestLeads image d to.left k (worked s registers to.ticks to.place)
    from.left k0 (worked s registers0 from.ticks from.place)

-- what is left of a run that only looks, in state s after k steps, completes what was left of it in
-- state s0 after k0 steps
pub record RestLooks (image : Image) (d : Device) (left k : ℕ) (s : State) (left0 k0 : ℕ)
    (s0 : State) : Type 0 where
  pub end : (look_of image left s (heap_in image.parts.sizes d.cache)).end
      ≡ (look_of image left0 s0 (heap_in image.parts.sizes d.cache)).end
  pub steps : k + (look_of image left s (heap_in image.parts.sizes d.cache)).steps
      ≡ k0 + (look_of image left0 s0 (heap_in image.parts.sizes d.cache)).steps

-- the same of a stretch without events, as above
abbrev pub StretchLooks : Image → Device → (function : ℕ) → List ℤ → Reached → (k : ℕ) → List ℤ
    → Reached → (k0 : ℕ) → Type 0
StretchLooks image d function registers to k registers0 from k0 = (s : State)
    → s.top.function ≡ function
    → RestLooks image d to.left k (worked s registers to.ticks to.place)
    from.left k0 (worked s registers0 from.ticks from.place)
