-- The due events of the run on a cache are those of the run on its heap.
use Rattle.std.proofs.Common.{◌≡◌, ◌≢◌, ⊎_elim, ℕ, zero, suc, ◌+◌, ◌<◌, pos, refl, sym, ap, ◌∙◌}
use Rattle.std.proofs.Common.{subst, arith, List, [], ◌∷◌, ◌++◌, Option, Some, None, Bool, true}
use Rattle.std.proofs.Common.{false, if◌then◌else◌}
use Rattle.std.proofs.lemmas.List.{append_assoc, append-nil}
use Rattle.std.proofs.lemmas.Bool.{cases_eq, ltb-true}
use Rattle.cache_model.specs.Event.{CacheEvent, Store, Flush}
use Rattle.cache_model.specs.Cache.{Words, put, Cache, view}
use Rattle.cache_model.specs.Play.{apply, play}
use Rattle.cache_model.proofs.Versions.{put_same, put_other}
use Rattle.cache_model.proofs.Views.{view_same, view_other, view_flush, view_fence}
use Rattle.pool_layout.specs.declared.limits.Sizes.{Sizes}
use Rattle.pool_layout.specs.declared.places.Place.TheVariants.{RecordWord, RecordOld, RecordStamp}
use Rattle.pool_layout.specs.declared.places.Place.TheVariants.{Heap}
use Rattle.pool_layout.specs.Places.{at, pool_of}
use Rattle.pool_layout.specs.Sizes.{heap_words}
use Rattle.pm_machine.specs.declared.effect.Effect.{Effect}
use Rattle.pm_machine.specs.declared.effect.Effect.TheVariants.{Loads, Scans, Stores, Logs, Flushes}
use Rattle.pm_machine.specs.declared.effect.Effect.TheVariants.{Fences, Quiet}
use Rattle.pm_machine.specs.declared.image.Image.{Image}
use Rattle.pool_map.specs.declared.trap.TrapKind.TheVariants.{LogFull}
use Rattle.pm_machine.specs.declared.effect.End.{End}
use Rattle.pm_machine.specs.declared.effect.End.TheVariants.{Trapped}
use Rattle.pm_machine.specs.Effects.{heap_past, heap_end, records_past, records_end, events_of}
use Rattle.pm_machine.specs.Effects.{events_all, steps_in}
use Rattle.pm_machine.specs.Machine.{State, StepOutcome, Goes, Ends, step, Run, Unfinished}
use Rattle.pm_machine.specs.Machine.{Finished}
use Rattle.pm_machine.specs.Logging.{Logging, Turn, Plays, Stops, missing, bare, with_record, noted}
use Rattle.pm_machine.specs.Logging.{has_room, turn, begun, follows, logged_run}
use Rattle.pm_machine.specs.Runs.{heap_in, AreLines, Due, due_before, owing, played, due, owed}
use Rattle.pm_machine.specs.Runs.{IsFinished}
use Rattle.pm_machine.specs.inside.Runs.{HasRoomFor, StepKeeps, taken_events}
use Rattle.pm_machine.proofs.Range.{keeps_step, bare_room}
use Rattle.pm_machine.proofs.Recording.{heap_with, count_with, records_append, bare_heap}

-- the heap in the view after the events of an effect
heap_at : (z : Sizes) (a n : ℕ) (c : Cache) (e : Effect) (w : ℕ) → HasRoomFor z.records n e
    → heap_in z (play c (events_of z a n (heap_in z c) e)) w ≡ heap_past (heap_in z c) e w
heap_at z a n c (Loads u) w fits = refl
heap_at z a n c (Scans u apart m) w fits = refl
heap_at z a n c (Stores u x) w fits = ⊎_elim
    (λ (e : w ≡ u).
    ap (λ (v : ℕ). view (apply c (Store (at (pool_of z) (Heap u)) x)) (at (pool_of z) (Heap v))) e
    ∙ view_same c (at (pool_of z) (Heap u)) x
    ∙ sym (ap (λ (v : ℕ). put (heap_in z c) u x v) e ∙ put_same (heap_in z c) u x))
    (λ (ne : w ≢ u). view_other c (at (pool_of z) (Heap u)) (at (pool_of z) (Heap w)) x
    (omega arith) ∙ sym (put_other (heap_in z c) u w x ne))
    (cases_eq w u)
heap_at z a n c (Logs u) w fits =
    let below : n < z.records = fits in
    let q : ℕ = at (pool_of z) (Heap w) in
    let c1 : Cache = apply c (Store (at (pool_of z) (RecordWord n)) (pos u)) in
    let c2 : Cache = apply c1 (Store (at (pool_of z) (RecordOld n)) (heap_in z c u)) in
    let c3 : Cache = apply c2 (Store (at (pool_of z) (RecordStamp n)) (pos (a + 1))) in
    view_fence (apply c3 (Flush (6 + n))) q ∙ view_flush c3 (6 + n) q
    ∙ view_other c2 (at (pool_of z) (RecordStamp n)) q (pos (a + 1)) (omega arith)
    ∙ view_other c1 (at (pool_of z) (RecordOld n)) q (heap_in z c u) (omega arith)
    ∙ view_other c (at (pool_of z) (RecordWord n)) q (pos u) (omega arith)
heap_at z a n c (Flushes l) w fits = view_flush c (6 + z.records + l) (at (pool_of z) (Heap w))
heap_at z a n c Fences w fits = view_fence c (at (pool_of z) (Heap w))
heap_at z a n c Quiet w fits = refl

pub heap_played : (z : Sizes) (a n : ℕ) (c : Cache) (e : Effect) → HasRoomFor z.records n e
    → heap_in z (play c (events_of z a n (heap_in z c) e)) ≡ heap_past (heap_in z c) e
heap_played z a n c e fits = λ i w. heap_at z a n c e w fits i

-- events one after the other
play_append : (c : Cache) (es fs : List CacheEvent) → play c (es ++ fs) ≡ play (play c es) fs
play_append c [] fs = refl
play_append c (e ∷ es) fs = play_append (apply c e) es fs

pub events_append : (z : Sizes) (a n : ℕ) (heap : Words) (es fs : List Effect)
    → events_all z a n heap (es ++ fs)
    ≡ events_all z a n heap es ++ events_all z a (records_end n es) (heap_end heap es) fs
events_append z a n heap [] fs = refl
events_append z a n heap (e ∷ es) fs =
    ap (λ (rest : List CacheEvent). events_of z a n heap e ++ rest)
    (events_append z a (records_past n e) (heap_past heap e) es fs)
    ∙ sym (append_assoc (events_of z a n heap e)
    (events_all z a (records_past n e) (heap_past heap e) es)
    (events_all z a (records_end (records_past n e) es) (heap_end (heap_past heap e) es) fs))

-- the events of a record and of a step
pub events_with : (z : Sizes) (a : ℕ) (g : Logging) (heap : Words) (o : Option ℕ) (e : Effect)
    → events_all z a g.count heap (with_record o e)
    ≡ taken_events z a g heap o ++ events_of z a (noted g o).count heap (bare e)
events_with z a g heap None e = append-nil (events_of z a g.count heap (bare e))
events_with z a g heap (Some w) e =
    ap (λ (es : List CacheEvent). taken_events z a g heap (Some w) ++ es)
    (append-nil (events_of z a (suc g.count) heap (bare e)))

module _ (z : Sizes) (a : ℕ) (g : Logging) (c : Cache) where
  -- the heap in the view after a record
  pub heap_taken : (o : Option ℕ) → has_room z.records g o ≡ true
      → heap_in z (play c (taken_events z a g (heap_in z c) o)) ≡ heap_in z c
  heap_taken None room = refl
  heap_taken (Some w) room =
      heap_played z a g.count c (Logs w) (ltb-true g.count z.records room)

  -- and after the step with its record
  pub heap_with_step : (o : Option ℕ) (e : Effect) → has_room z.records g o ≡ true
      → heap_in z (played z a g c (with_record o e)) ≡ heap_past (heap_in z c) e
  heap_with_step o e room =
      let h : Words = heap_in z c in
      let m : Cache = play c (taken_events z a g h o) in
      let same : heap_in z m ≡ h = heap_taken o room in
      let n : ℕ = (noted g o).count in
      ap (λ (es : List CacheEvent). heap_in z (play c es)) (events_with z a g h o e)
      ∙ ap (heap_in z) (play_append c (taken_events z a g h o) (events_of z a n h (bare e)))
      ∙ ap (λ (r : Words). heap_in z (play m (events_of z a n r (bare e)))) (sym same)
      ∙ heap_played z a n m (bare e) (bare_room z.records n e)
      ∙ ap (λ (r : Words). heap_past r (bare e)) same
      ∙ bare_heap h e

-- the steps of a run
pub steps_with : (o : Option ℕ) (e : Effect) (es : List Effect)
    → steps_in (with_record o e ++ es) ≡ suc (steps_in es)
steps_with None (Logs w) es = refl
steps_with None (Loads w) es = refl
steps_with None (Scans w apart m) es = refl
steps_with None (Stores w x) es = refl
steps_with None (Flushes l) es = refl
steps_with None Fences es = refl
steps_with None Quiet es = refl
steps_with (Some v) (Logs w) es = refl
steps_with (Some v) (Loads w) es = refl
steps_with (Some v) (Scans w apart m) es = refl
steps_with (Some v) (Stores w x) es = refl
steps_with (Some v) (Flushes l) es = refl
steps_with (Some v) Fences es = refl
steps_with (Some v) Quiet es = refl

owed_begun : (z : Sizes) (a : ℕ) (g : Logging) (heap : Words) (o : Option ℕ) (e : Effect) (x : Run)
    → IsFinished (begun (with_record o e) x) →
    IsFinished x × (owed z a g heap (begun (with_record o e) x)
    ≡ due_before (events_all z a g.count heap (with_record o e))
    (owed z a (noted g o) (heap_past heap e) x))
owed_begun z a g heap o e Unfinished f = absurd f
owed_begun z a g heap o e (Finished end es) f =
    let count : records_end g.count (with_record o e) ≡ (noted g o).count = count_with g o e in
    let after : heap_end heap (with_record o e) ≡ heap_past heap e = heap_with heap o e in
    let first : List CacheEvent = events_all z a g.count heap (with_record o e) in (
      tt,
      same_due (Some end)
          (events_append z a g.count heap (with_record o e) es
          ∙ ap (λ (n : ℕ). first ++ events_all z a n (heap_end heap (with_record o e)) es) count
          ∙ ap (λ (h : Words). first ++ events_all z a (noted g o).count h es) after)
          (ap suc (steps_with o e es))
          (records_append g.count (with_record o e) es
          ∙ ap (λ (n : ℕ). records_end n es) count),
    )
  where
    one : Option End → List CacheEvent → (k n : ℕ) → Due
    one fate es k n = record { events = es; fate = fate; steps = k; records = n }

    same_due : (fate : Option End) → {es fs : List CacheEvent} → {k m n p : ℕ} → es ≡ fs → k ≡ m
        → n ≡ p → one fate es k n ≡ one fate fs m p
    same_due fate q r s = λ i. one fate (q i) (r i) (s i)

module _ (image : Image) (a : ℕ) where
  abbrev z : Sizes
  z = image.parts.sizes

  abbrev heap_of : Cache → Words
  heap_of = heap_in image.parts.sizes

  abbrev rest_run : ℕ → Words → List Effect → Logging → State → Run
  rest_run k heap es h t = logged_run image k h t (heap_end heap es)

  abbrev rest_due : ℕ → Logging → Cache → List Effect → Logging → State → Due
  rest_due k g c es h t = due image a k h t (played image.parts.sizes a g c es)

  due_on : (k : ℕ) (g : Logging) (s : State) (c : Cache) (o : StepOutcome)
      → StepKeeps (heap_words image.parts.sizes) o →
      ((h : Logging) (t : State) (d : Cache) → AreLines (heap_words image.parts.sizes) t.dirty
      → IsFinished (logged_run image k h t (heap_of d))
      → due image a k h t d ≡ owed image.parts.sizes a h (heap_of d)
      (logged_run image k h t (heap_of d))) →
      IsFinished (follows (rest_run k (heap_of c)) (turn image.parts.sizes.records g o)) →
      owing image.parts.sizes a g (heap_of c) (rest_due k g c) (turn image.parts.sizes.records g o)
      ≡ owed image.parts.sizes a g (heap_of c)
      (follows (rest_run k (heap_of c)) (turn image.parts.sizes.records g o))
  due_on k g s c (Ends end) keeps next ends = refl
  due_on k g s c (Goes e t) keeps next ends = go (has_room z.records g (missing g e)) refl ends
    where
      o : Option ℕ
      o = missing g e

      h : Words
      h = heap_of c

      d : Cache
      d = played z a g c (with_record o e)

      chosen : Bool → Turn
      chosen b = if b then Plays (with_record o e) (noted g o) t else Stops (Trapped LogFull)

      go : (b : Bool) → has_room z.records g o ≡ b
          → IsFinished (follows (rest_run k h) (chosen b)) →
          owing z a g h (rest_due k g c) (chosen b)
          ≡ owed z a g h (follows (rest_run k h) (chosen b))
      go false room ends = refl
      go true room ends =
          let same : heap_of d ≡ heap_past h e = heap_with_step z a g c o e room in
          let after : heap_end h (with_record o e) ≡ heap_past h e = heap_with h o e in
          let begun_is : IsFinished (begun (with_record o e)
          (logged_run image k (noted g o) t (heap_past h e))) =
          subst (λ (r : Words). IsFinished (begun (with_record o e)
          (logged_run image k (noted g o) t r))) after ends in
          let began = owed_begun z a g h o e (logged_run image k (noted g o) t (heap_past h e))
          begun_is in
          let rest : due image a k (noted g o) t d ≡ owed z a (noted g o) (heap_of d)
          (logged_run image k (noted g o) t (heap_of d)) =
          next (noted g o) t d keeps.1
          (subst (λ (r : Words). IsFinished (logged_run image k (noted g o) t r)) (sym same)
          began.0) in
          ap (due_before (events_all z a g.count h (with_record o e)))
          (rest ∙ ap (λ (r : Words). owed z a (noted g o) r (logged_run image k (noted g o) t r))
          same)
          ∙ sym began.1
          ∙ ap (λ (r : Words). owed z a g h (begun (with_record o e)
          (logged_run image k (noted g o) t r))) (sym after)

  pub due_run : (k : ℕ) (g : Logging) (s : State) (c : Cache)
      → AreLines (heap_words image.parts.sizes) s.dirty
      → IsFinished (logged_run image k g s (heap_of c)) →
      due image a k g s c ≡ owed image.parts.sizes a g (heap_of c)
      (logged_run image k g s (heap_of c))
  due_run zero g s c lines ends = absurd ends
  due_run (suc k) g s c lines ends =
      due_on k g s c (step image s (heap_of c))
      (keeps_step image (heap_of c) s (step image s (heap_of c)) lines refl)
      (λ h t d. due_run k h t d) ends
