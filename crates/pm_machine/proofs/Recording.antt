-- The run with its records is the run without, with a record before each effect that takes one.
use Rattle.std.proofs.Common.{◌≡◌, ℕ, zero, suc, ◌+◌, List, [], ◌∷◌, ◌++◌, Option, Some, None, Bool}
use Rattle.std.proofs.Common.{true, false, if◌then◌else◌, nat_lt, ◌<◌, ◌≤◌, refl}
use Rattle.std.proofs.Common.{sym, ap, ◌∙◌, arith, subst, length, length-append, nat_eq}
use Rattle.std.specs.List.{list_any}
use Rattle.std.proofs.lemmas.Bool.{ltb-true, ltb-false}
use Rattle.cache_model.specs.Cache.{Words}
use Rattle.pool_map.specs.declared.trap.TrapKind.TheVariants.{LogFull}
use Rattle.pm_machine.specs.declared.image.Image.{Image}
use Rattle.pm_machine.specs.declared.effect.Effect.{Effect}
use Rattle.pm_machine.specs.declared.effect.Effect.TheVariants.{Loads, Scans, Stores, Logs, Flushes}
use Rattle.pm_machine.specs.declared.effect.Effect.TheVariants.{Fences, Quiet}
use Rattle.pm_machine.specs.declared.effect.End.{End}
use Rattle.pm_machine.specs.declared.effect.End.TheVariants.{Trapped}
use Rattle.pm_machine.specs.Effects.{heap_past, heap_end, records_past, records_end}
use Rattle.pm_machine.specs.Machine.{State, StepOutcome, Goes, Ends, Run, Unfinished, Finished}
use Rattle.pm_machine.specs.Machine.{follow, step, run}
use Rattle.pm_machine.specs.Logging.{Logging, Plays, Stops, asks, unlisted, missing, bare}
use Rattle.pm_machine.specs.Logging.{with_record, noted, has_room, turn, begun, follows}
use Rattle.pm_machine.specs.Logging.{logged_run, with_records, one_if, takes}
use Rattle.pm_machine.specs.declared.machine.Went.TheVariants as went
use Rattle.pm_machine.specs.Runs.{AreLines, IsTurn}
use Rattle.pm_machine.specs.inside.Runs.{StepKeeps}
use Rattle.pm_machine.specs.Law.{HasAllRecords}
use Rattle.pm_machine.proofs.Fuel.{began_rest}

-- the heap after a step with its record
pub heap_with : (heap : Words) (o : Option ℕ) (e : Effect)
    → heap_end heap (with_record o e) ≡ heap_past heap e
heap_with heap None (Logs w) = refl
heap_with heap None (Loads w) = refl
heap_with heap None (Scans w apart m) = refl
heap_with heap None (Stores w x) = refl
heap_with heap None (Flushes l) = refl
heap_with heap None Fences = refl
heap_with heap None Quiet = refl
heap_with heap (Some v) (Logs w) = refl
heap_with heap (Some v) (Loads w) = refl
heap_with heap (Some v) (Scans w apart m) = refl
heap_with heap (Some v) (Stores w x) = refl
heap_with heap (Some v) (Flushes l) = refl
heap_with heap (Some v) Fences = refl
heap_with heap (Some v) Quiet = refl

pub bare_heap : (heap : Words) (e : Effect) → heap_past heap (bare e) ≡ heap_past heap e
bare_heap heap (Logs w) = refl
bare_heap heap (Loads w) = refl
bare_heap heap (Scans w apart m) = refl
bare_heap heap (Stores w x) = refl
bare_heap heap (Flushes l) = refl
bare_heap heap Fences = refl
bare_heap heap Quiet = refl

-- the number of records after a step with its record
pub count_with : (g : Logging) (o : Option ℕ) (e : Effect)
    → records_end g.count (with_record o e) ≡ (noted g o).count
count_with g None (Logs w) = refl
count_with g None (Loads w) = refl
count_with g None (Scans w apart m) = refl
count_with g None (Stores w x) = refl
count_with g None (Flushes l) = refl
count_with g None Fences = refl
count_with g None Quiet = refl
count_with g (Some v) (Logs w) = refl
count_with g (Some v) (Loads w) = refl
count_with g (Some v) (Scans w apart m) = refl
count_with g (Some v) (Stores w x) = refl
count_with g (Some v) (Flushes l) = refl
count_with g (Some v) Fences = refl
count_with g (Some v) Quiet = refl

-- one after the other
pub heap_append : (heap : Words) (es fs : List Effect)
    → heap_end heap (es ++ fs) ≡ heap_end (heap_end heap es) fs
heap_append heap [] fs = refl
heap_append heap (e ∷ es) fs = heap_append (heap_past heap e) es fs

pub records_append : (n : ℕ) (es fs : List Effect)
    → records_end n (es ++ fs) ≡ records_end (records_end n es) fs
records_append n [] fs = refl
records_append n (e ∷ es) fs = records_append (records_past n e) es fs

-- a finished run that began with these effects is these and a finished run
pub begun_rest : (es : List Effect) (x : Run) (end : End) (fs : List Effect)
    → begun es x ≡ Finished end fs
    → (rest : List Effect) × (x ≡ Finished end rest) × (fs ≡ es ++ rest)
begun_rest es Unfinished end fs h = absurd (cc)
begun_rest es (Finished q qs) end fs h = (qs, cc, cc)

module _ (image : Image) where
  abbrev C : ℕ
  C = image.parts.sizes.records

  -- a step with its record, and then the rest
  with_step : (k : ℕ) (g : Logging) (heap : Words) (e : Effect) (t : State) (end : End)
      (es : List Effect)
      → ((h : Logging) (t : State) (heap : Words) → run image k t heap ≡ Finished end es
      → logged_run image k h t heap ≡ with_records C h end es)
      → run image k t (heap_past heap e) ≡ Finished end es
      → follows (λ fs h t. logged_run image k h t (heap_end heap fs)) (turn C g (Goes e t))
      ≡ with_records C g end (e ∷ es)
  with_step k g heap e t end es next ran = go (has_room C g (missing g e))
    where
      o : Option ℕ
      o = missing g e

      go : (b : Bool) →
          follows (λ fs h t. logged_run image k h t (heap_end heap fs))
          (if b then Plays (with_record o e) (noted g o) t else Stops (Trapped LogFull))
          ≡ (if b then begun (with_record o e) (with_records C (noted g o) end es)
          else Finished (Trapped LogFull) [])
      go true = ap (begun (with_record o e))
          (ap (logged_run image k (noted g o) t) (heap_with heap o e)
          ∙ next (noted g o) t (heap_past heap e) ran)
      go false = refl

  pub records_law : (k : ℕ) (g : Logging) (s : State) (heap : Words) (end : End)
      (es : List Effect) → run image k s heap ≡ Finished end es
      → logged_run image k g s heap ≡ with_records C g end es
  records_law zero g s heap end es ran = absurd (cc)
  records_law (suc k) g s heap end es ran =
      go (λ h t heap rest. records_law k h t heap end rest) (step image s heap) ran
    where
      go : ((h : Logging) (t : State) (heap : Words) (rest : List Effect)
          → run image k t heap ≡ Finished end rest
          → logged_run image k h t heap ≡ with_records C h end rest) →
          (o : StepOutcome) → follow (λ e t. run image k t (heap_past heap e)) o ≡ Finished end es
          → follows (λ fs h t. logged_run image k h t (heap_end heap fs)) (turn C g o)
          ≡ with_records C g end es
      go next (Ends q) is =
          let end_is : q ≡ end = cc in
          let none : [] ≡ es = cc in
          ap (λ (q : End). Finished q []) end_is ∙ ap (with_records C g end) none
      go next (Goes e t) is =
          let inv = began_rest e (run image k t (heap_past heap e)) end es is in
          with_step k g heap e t end inv.0
          (λ h t heap. next h t heap inv.0) inv.1
          ∙ ap (with_records C g end) (sym inv.2)

-- the run ends with a full log exactly if more words take a record than it has room for
module _ (C : ℕ) where
  abbrev Exactly : Logging → End → List Effect → Run → Type 0
  Exactly g end es x = (end1 : End) × (es1 : List Effect) × (x ≡ Finished end1 es1)
      × (nat_lt C (g.count + takes g es) ≡ true → end1 ≡ Trapped LogFull)
      × (nat_lt C (g.count + takes g es) ≡ false → HasAllRecords g end es end1 es1)

  noted_count : (g : Logging) (o : Option ℕ) → (noted g o).count ≡ g.count + one_if o
  noted_count g None = omega arith
  noted_count g (Some w) = omega arith

  pub room_after : (g : Logging) (o : Option ℕ) → g.count ≤ C → has_room C g o ≡ true
      → (noted g o).count ≤ C
  room_after g None few room = few
  room_after g (Some w) few room = let lt : g.count < C = ltb-true g.count C room in omega arith

  full_after : (g : Logging) (o : Option ℕ) (m : ℕ) → has_room C g o ≡ false
      → C < g.count + (one_if o + m)
  full_after g None m full = absurd (cc)
  full_after g (Some w) m full =
      let le : C ≤ g.count = ltb-false g.count C full in omega arith

  -- the step with its record, and the rest
  with_rest : (g : Logging) (o : Option ℕ) (e : Effect) (end : End) (es : List Effect)
      → Exactly (noted g o) end es (with_records C (noted g o) end es)
      → (end1 : End) × (es1 : List Effect)
      × (begun (with_record o e) (with_records C (noted g o) end es) ≡ Finished end1 es1)
      × (nat_lt C (g.count + (one_if o + takes (noted g o) es)) ≡ true → end1 ≡ Trapped LogFull)
      × (nat_lt C (g.count + (one_if o + takes (noted g o) es)) ≡ false
      → ((end1 ≡ end) × ((heap : Words) → heap_end heap es1 ≡ heap_end heap (e ∷ es))
      × (records_end g.count es1 ≡ g.count + (one_if o + takes (noted g o) es))))
  with_rest g o e end es (end1, es1, is, full, fits) =
      let count : (noted g o).count ≡ g.count + one_if o = noted_count g o in
      let m : ℕ = takes (noted g o) es in
      let same : (noted g o).count + m ≡ g.count + (one_if o + m) = omega (arith, count) in (
        end1,
        with_record o e ++ es1,
        ap (begun (with_record o e)) is,
        λ more. full (ap (nat_lt C) same ∙ more),
        λ less. let all = fits (ap (nat_lt C) same ∙ less) in (
          all.ends,
          λ heap. heap_append heap (with_record o e) es1
              ∙ ap (λ (h : Words). heap_end h es1) (heap_with heap o e)
              ∙ all.heap (heap_past heap e),
          records_append g.count (with_record o e) es1
              ∙ ap (λ (n : ℕ). records_end n es1) (count_with g o e)
              ∙ all.records ∙ same,
        ),
      )

  pub exact_law : (g : Logging) (end : End) (es : List Effect) → g.count ≤ C
      → Exactly g end es (with_records C g end es)
  exact_law g end [] few = (
    end,
    [],
    refl,
    λ more. let lt : C < g.count + 0 = ltb-true C (g.count + 0) more in absurd (omega arith),
    λ less. record { ends = refl; heap = λ heap. refl; records = omega arith },
  )
  exact_law g end (e ∷ es) few =
      go (λ few. exact_law (noted g (missing g e)) end es few) (has_room C g (missing g e)) refl
    where
      o : Option ℕ
      o = missing g e

      go : ((noted g o).count ≤ C → Exactly (noted g o) end es (with_records C (noted g o) end es))
          → (b : Bool) → has_room C g o ≡ b → Exactly g end (e ∷ es)
          (if b then begun (with_record o e) (with_records C (noted g o) end es)
          else Finished (Trapped LogFull) [])
      go next true room =
          let rest = with_rest g o e end es (next (room_after g o few room)) in (
            rest.0,
            rest.1,
            rest.2,
            rest.3,
            λ less. let all = rest.4 less in
                record { ends = all.0; heap = all.1; records = all.2 },
          )
      go next false room =
          let lt : C < g.count + (one_if o + takes (noted g o) es) =
          full_after g o (takes (noted g o) es) room in (
            Trapped LogFull,
            [],
            refl,
            λ more. refl,
            λ less. let le : g.count + (one_if o + takes (noted g o) es) ≤ C =
                ltb-false C (g.count + (one_if o + takes (noted g o) es)) less in
                absurd (omega (arith, lt, le)),
          )

-- each record that is noted is of one word more
module _ (C : ℕ) where
  noted_long : (g : Logging) (o : Option ℕ) → unlisted g.words o ≡ o
      → length (noted g o).words + g.count ≡ (noted g o).count + length g.words
  noted_long g None is = omega arith
  noted_long g (Some w) is = go (list_any (nat_eq w) g.words) is
    where
      go : (b : Bool) → (if b then None else Some w) ≡ Some w →
          length (if b then g.words else g.words ++ w ∷ []) + g.count
          ≡ suc g.count + length g.words
      go true is = absurd (cc)
      go false is =
          let long : length (g.words ++ w ∷ []) ≡ length g.words + 1 =
          length-append g.words (w ∷ []) in
          omega (arith, long)

  unlisted_again : (ws : List ℕ) (o : Option ℕ) → unlisted ws (unlisted ws o) ≡ unlisted ws o
  unlisted_again ws None = refl
  unlisted_again ws (Some w) = go (list_any (nat_eq w) ws) refl
    where
      go : (b : Bool) → list_any (nat_eq w) ws ≡ b →
          unlisted ws (if b then None else Some w) ≡ (if b then None else Some w)
      go true is = refl
      go false is = ap (λ (b : Bool). if b then None else Some w) is

  -- after a turn the words and the records have grown alike
  pub taken_on : (g g1 : Logging) (s1 : State) (o : StepOutcome)
      → IsTurn went.On g1 s1 (turn C g o)
      → length g1.words + g.count ≡ g1.count + length g.words
  taken_on g g1 s1 (Ends end) is = absurd is
  taken_on g g1 s1 (Goes e t) is = go (has_room C g (missing g e)) is
    where
      go : (b : Bool) → IsTurn went.On g1 s1
          (if b then Plays (with_record (missing g e) e) (noted g (missing g e)) t
          else Stops (Trapped LogFull))
          → length g1.words + g.count ≡ g1.count + length g.words
      go false is = absurd is
      go true is = subst (λ (h : Logging). length h.words + g.count ≡ h.count + length g.words)
          (sym is.0) (noted_long g (missing g e) (unlisted_again g.words (asks g.policy e)))

  -- and the dirty lines are lines of the heap
  pub turn_keeps : (H : ℕ) (g g1 : Logging) (s1 : State) (o : StepOutcome) → StepKeeps H o
      → IsTurn went.On g1 s1 (turn C g o) → AreLines H s1.dirty
  turn_keeps H g g1 s1 (Ends end) keeps is = absurd is
  turn_keeps H g g1 s1 (Goes e t) keeps is = go (has_room C g (missing g e)) is
    where
      go : (b : Bool) → IsTurn went.On g1 s1
          (if b then Plays (with_record (missing g e) e) (noted g (missing g e)) t
          else Stops (Trapped LogFull))
          → AreLines H s1.dirty
      go false is = absurd is
      go true is = subst (λ (s : State). AreLines H s.dirty) (sym is.1) keeps.1
