-- The events of a tidy run are those of its trace, followed by the last flushes and the fence.
use Rattle.std.proofs.Common.{◌≡◌, ◌≢◌, ⊎_elim, ℕ, suc, ◌+◌, ◌/◌, ◌==◌, ◌||◌, cond, if◌then◌else◌}
use Rattle.std.proofs.Common.{Bool, true, false, List, [], ◌∷◌, ◌++◌, map, nat_eq, Option, Some}
use Rattle.std.proofs.Common.{None, ℤ, refl, sym, ap, ◌∙◌, arith, append_assoc, append-nil, eq-eqb}
use Rattle.std.proofs.Common.{ne_eqb}
use Rattle.std.specs.List.{list_any}
use Rattle.std.proofs.lemmas.Bool.{cases_eq}
use Rattle.std.proofs.lemmas.List.{map-append}
use Rattle.std.proofs.lemmas.List.Folds.{list_any-append}
use Rattle.indexmap.specs.IndexSet.{insert_key}
use Rattle.cache_model.specs.Event.{CacheEvent, Store, Flush, Fence}
use Rattle.cache_model.specs.Cache.{put}
use Rattle.pool_layout.specs.declared.limits.Sizes.{Sizes}
use Rattle.pool_layout.specs.declared.places.Layout.{Layout}
use Rattle.pool_layout.specs.declared.places.Place.TheVariants.{Heap}
use Rattle.pool_layout.specs.Places.{at, line_of, pool_of}
use Rattle.crash_law.specs.Due.{Entry, Plain, Logged, word_of_entry, run_events, flush_all}
use Rattle.crash_law.specs.Due.{lines_of, is_listed, heap_after}
use Rattle.crash_law.specs.Effects.{entry, trace_of, effect_events}
use Rattle.crash_law.proofs.Effects.{word_entry, step_events}
use Rattle.pm_machine.specs.declared.effect.Effect.{Effect}
use Rattle.pm_machine.specs.declared.effect.Effect.TheVariants.{Loads, Scans, Stores, Logs, Flushes}
use Rattle.pm_machine.specs.declared.effect.Effect.TheVariants.{Fences, Quiet}
use Rattle.pm_machine.specs.declared.effect.End.{End}
use Rattle.pm_machine.specs.declared.effect.End.TheVariants.{Halted, Trapped}
use Rattle.clobber_log.specs.Record.{record_events}
use Rattle.pm_machine.specs.Effects.{heap_end, events_of, events_all}
use Rattle.run_law.specs.Seen.{seen_all}
use Rattle.run_law.specs.Sound.{IsStill, IsFlushed, IsTidy, IsTidyEnd, IsPairedRun}
use Rattle.run_law.specs.Law.{last_events}
use Rattle.run_law.proofs.Headers.{events_headers, trace_headers}

-- the lines stored to, in the order of first stores, after those of a list
abbrev stored_lines : List ℕ → List Effect → List ℕ
stored_lines ls [] = ls
stored_lines ls (Loads w ∷ es) = stored_lines ls es
stored_lines ls (Scans w apart many ∷ es) = stored_lines ls es
stored_lines ls (Stores w x ∷ es) = stored_lines (insert_key nat_eq ls (w / 8)) es
stored_lines ls (Logs w ∷ es) = stored_lines ls es
stored_lines ls (Flushes l ∷ es) = stored_lines ls es
stored_lines ls (Fences ∷ es) = stored_lines ls es
stored_lines ls (Quiet ∷ es) = stored_lines ls es

-- the lines of the pool for these lines of the heap
abbrev heap_lines : Sizes → List ℕ → List ℕ
heap_lines z ls = map (λ l. 6 + z.records + l) ls

-- the events of LOG, whose stamp is one more than the attempt
log_same : (z : Sizes) (a n w : ℕ) (o : ℤ) (rest : List CacheEvent) →
    record_events z n w o (a + 1) ++ rest ≡ record_events z n w o (suc a) ++ rest
log_same z a n w o rest =
    ap (λ (stamp : ℕ). record_events z n w o stamp ++ rest) (let e : a + 1 ≡ suc a =
    omega arith in e)

module _ (z : Sizes) (a : ℕ) where
  abbrev C : Layout
  C = pool_of z

  still_events : (es : List Effect) (n : ℕ) (heap : ℕ → ℤ) → IsStill es →
      events_all z a n heap es ≡ effect_events z a n heap (seen_all es)
  still_events [] n heap still = refl
  still_events (Loads w ∷ es) n heap still = still_events es n heap still
  still_events (Scans w apart many ∷ es) n heap still =
      still_events es n heap still ∙ sym (events_headers z a n heap w apart many (seen_all es))
  still_events (Stores w x ∷ es) n heap still =
      ap (λ (r : List CacheEvent). Store (at C (Heap w)) x ∷ r)
      (still_events es n (put heap w x) still)
  still_events (Logs w ∷ es) n heap still =
      ap (λ (r : List CacheEvent). events_of z a n heap (Logs w) ++ r)
      (still_events es (suc n) heap still)
      ∙ log_same z a n w (heap w) (effect_events z a (suc n) heap (seen_all es))
  still_events (Flushes l ∷ es) n heap still = absurd still
  still_events (Fences ∷ es) n heap still = absurd still
  still_events (Quiet ∷ es) n heap still = still_events es n heap still

  flushed_events : (es : List Effect) (ls : List ℕ) (n : ℕ) (heap : ℕ → ℤ) → IsFlushed ls es →
      (events_all z a n heap es ≡ flush_all (heap_lines z ls) (Fence ∷ []))
      × (effect_events z a n heap (seen_all es) ≡ []) × ((ks : List ℕ) → stored_lines ks es ≡ ks)
  flushed_events [] ls n heap flushed = absurd flushed
  flushed_events (Loads w ∷ es) ls n heap flushed = flushed_events es ls n heap flushed
  flushed_events (Scans w apart many ∷ es) ls n heap flushed =
      let h = flushed_events es ls n heap flushed in
      (h.0, events_headers z a n heap w apart many (seen_all es) ∙ h.1, h.2)
  flushed_events (Stores w x ∷ es) ls n heap flushed = absurd flushed
  flushed_events (Logs w ∷ es) ls n heap flushed = absurd flushed
  flushed_events (Quiet ∷ es) ls n heap flushed = flushed_events es ls n heap flushed
  flushed_events (Flushes l ∷ es) [] n heap flushed = absurd flushed
  flushed_events (Flushes l ∷ es) (k ∷ ks) n heap flushed =
      let h = flushed_events es ks n heap flushed.1 in (
        ap (λ (i : ℕ). Flush (6 + z.records + i) ∷ events_all z a n heap es) flushed.0
            ∙ ap (λ (r : List CacheEvent). Flush (6 + z.records + k) ∷ r) h.0,
        h.1,
        h.2,
      )
  flushed_events (Fences ∷ es) [] n heap flushed = (
    ap (λ (fs : List Effect). Fence ∷ events_all z a n heap fs) flushed,
    ap (λ (fs : List Effect). effect_events z a n heap (seen_all fs)) flushed,
    λ ks. ap (stored_lines ks) flushed,
  )
  flushed_events (Fences ∷ es) (k ∷ ks) n heap flushed = absurd flushed

  flushed_end : (es : List Effect) (ls : List ℕ) (n : ℕ) (heap : ℕ → ℤ) → IsFlushed ls es →
      events_all z a n heap es ≡ effect_events z a n heap (seen_all es)
      ++ flush_all (heap_lines z (stored_lines ls es)) (Fence ∷ [])
  flushed_end es ls n heap flushed =
      let h = flushed_events es ls n heap flushed in
      h.0 ∙ sym (ap (λ (r : List CacheEvent). r ++ flush_all (heap_lines z (stored_lines ls es))
      (Fence ∷ [])) h.1
      ∙ ap (λ (ks : List ℕ). flush_all (heap_lines z ks) (Fence ∷ [])) (h.2 ls))

  tidy_events : (es : List Effect) (ls : List ℕ) (n : ℕ) (heap : ℕ → ℤ) → IsTidy ls es →
      events_all z a n heap es ≡ effect_events z a n heap (seen_all es)
      ++ flush_all (heap_lines z (stored_lines ls es)) (Fence ∷ [])
  tidy_events [] ls n heap tidy = absurd tidy
  tidy_events (Loads w ∷ es) ls n heap tidy = tidy_events es ls n heap tidy
  tidy_events (Scans w apart many ∷ es) ls n heap tidy =
      tidy_events es ls n heap tidy
      ∙ ap (λ (r : List CacheEvent). r
      ++ flush_all (heap_lines z (stored_lines ls es)) (Fence ∷ []))
      (sym (events_headers z a n heap w apart many (seen_all es)))
  tidy_events (Stores w x ∷ es) ls n heap tidy =
      ap (λ (r : List CacheEvent). Store (at C (Heap w)) x ∷ r)
      (tidy_events es (insert_key nat_eq ls (w / 8)) n (put heap w x) tidy)
  tidy_events (Logs w ∷ es) ls n heap tidy =
      ap (λ (r : List CacheEvent). events_of z a n heap (Logs w) ++ r)
      (tidy_events es ls (suc n) heap tidy)
      ∙ ap (λ (r : List CacheEvent). r
      ++ flush_all (heap_lines z (stored_lines ls es)) (Fence ∷ []))
      (log_same z a n w (heap w) (effect_events z a (suc n) heap (seen_all es)))
  tidy_events (Flushes l ∷ es) ls n heap tidy = flushed_end (Flushes l ∷ es) ls n heap tidy
  tidy_events (Fences ∷ es) ls n heap tidy = flushed_end (Fences ∷ es) ls n heap tidy
  tidy_events (Quiet ∷ es) ls n heap tidy = tidy_events es ls n heap tidy

or_swap : (x y : Bool) → (x || (y || false)) ≡ (y || x)
or_swap true true = refl
or_swap true false = refl
or_swap false true = refl
or_swap false false = refl

any_push : (p : ℕ → Bool) (ls : List ℕ) (k : ℕ) → list_any p (ls ++ k ∷ []) ≡ (p k || list_any p ls)
any_push p ls k = list_any-append p ls (k ∷ []) ∙ or_swap (list_any p ls) (p k)

same_eq : (z : Sizes) (l k : ℕ) → (6 + z.records + l == 6 + z.records + k) ≡ (l == k)
same_eq z l k = ⊎_elim
    (λ (e : l ≡ k). let f : 6 + z.records + l ≡ 6 + z.records + k = omega arith in
    eq-eqb (6 + z.records + l) (6 + z.records + k) f ∙ sym (eq-eqb l k e))
    (λ (ne : l ≢ k). let f : 6 + z.records + l ≢ 6 + z.records + k = omega arith in
    ne_eqb (6 + z.records + l) (6 + z.records + k) f ∙ sym (ne_eqb l k ne))
    (cases_eq l k)

lines_push : (z : Sizes) (k : ℕ) (ls rest : List ℕ) → heap_lines z (ls ++ k ∷ []) ++ rest
    ≡ heap_lines z ls ++ (6 + z.records + k) ∷ rest
lines_push z k ls rest = ap (λ (r : List ℕ). r ++ rest)
    (map-append (λ l. 6 + z.records + l) ls (k ∷ [])) ∙ append_assoc (heap_lines z ls)
    ((6 + z.records + k) ∷ []) rest

-- the lines of the trace in the order of first stores
lines_from : (z : Sizes) (es : List Effect) (last : Option ℕ) (ls seen : List ℕ)
    → ((l : ℕ) → is_listed (6 + z.records + l) seen ≡ list_any (nat_eq l) ls) →
    heap_lines z (stored_lines ls es) ≡ heap_lines z ls
    ++ lines_of z seen (trace_of last (seen_all es))
lines_from z [] last ls seen same = sym (append-nil (heap_lines z ls))
lines_from z (Loads w ∷ es) last ls seen same = lines_from z es last ls seen same
lines_from z (Scans w apart many ∷ es) last ls seen same =
    lines_from z es last ls seen same
    ∙ ap (λ (trace : List Entry). heap_lines z ls ++ lines_of z seen trace)
    (sym (trace_headers last w apart many (seen_all es)))
lines_from z (Logs w ∷ es) last ls seen same = lines_from z es (Some w) ls seen same
lines_from z (Flushes l ∷ es) last ls seen same = lines_from z es last ls seen same
lines_from z (Fences ∷ es) last ls seen same = lines_from z es last ls seen same
lines_from z (Quiet ∷ es) last ls seen same = lines_from z es last ls seen same
lines_from z (Stores w x ∷ es) last ls seen same =
    let k : ℕ = w / 8 in
    let rest : List Entry = trace_of None (seen_all es) in
    let line : line_of (pool_of z) (Heap (word_of_entry (entry last w x))) ≡ 6 + z.records + k =
    ap (λ (u : ℕ). line_of (pool_of z) (Heap u)) (word_entry last w x) ∙ place in
    go (λ ls seen. lines_from z es None ls seen) (list_any (nat_eq k) ls)
    ∙ ap (λ (b : Bool). heap_lines z ls
    ++ cond b (lines_of z seen rest)
    ((6 + z.records + k) ∷ lines_of z ((6 + z.records + k) ∷ seen) rest)) (sym (same k))
    ∙ ap (λ (m : ℕ). heap_lines z ls
    ++ cond (is_listed m seen) (lines_of z seen rest) (m ∷ lines_of z (m ∷ seen) rest)) (sym line)
  where
    place : line_of (pool_of z) (Heap w) ≡ 6 + z.records + w / 8
    place = omega arith

    go : ((ls seen : List ℕ) →
        ((l : ℕ) → is_listed (6 + z.records + l) seen ≡ list_any (nat_eq l) ls) →
        heap_lines z (stored_lines ls es) ≡ heap_lines z ls
        ++ lines_of z seen (trace_of None (seen_all es))) →
        (b : Bool) → heap_lines z (stored_lines (if b then ls else ls ++ (w / 8) ∷ []) es)
        ≡ heap_lines z ls
        ++ cond b (lines_of z seen (trace_of None (seen_all es)))
        ((6 + z.records + w / 8) ∷ lines_of z ((6 + z.records + w / 8) ∷ seen)
        (trace_of None (seen_all es)))
    go next true = next ls seen same
    go next false =
        next (ls ++ (w / 8) ∷ []) ((6 + z.records + w / 8) ∷ seen)
        (λ l. ap (λ (b : Bool). b || is_listed (6 + z.records + l) seen) (same_eq z l (w / 8))
        ∙ ap (λ (b : Bool). (l == w / 8) || b) (same l) ∙ sym (any_push (nat_eq l) ls (w / 8)))
        ∙ lines_push z (w / 8) ls
        (lines_of z ((6 + z.records + w / 8) ∷ seen) (trace_of None (seen_all es)))

heap_entry : (heap : ℕ → ℤ) (last : Option ℕ) (w : ℕ) (x : ℤ) (rest : List Entry)
    → heap_after heap (entry last w x ∷ rest) ≡ heap_after (put heap w x) rest
heap_entry heap None w x rest = refl
heap_entry heap (Some u) w x rest = go (u == w)
  where
    go : (b : Bool) → heap_after heap (cond b (Logged w x) (Plain w x) ∷ rest)
        ≡ heap_after (put heap w x) rest
    go true = refl
    go false = refl

heap_same : (es : List Effect) (last : Option ℕ) (heap : ℕ → ℤ)
    → heap_end heap es ≡ heap_after heap (trace_of last (seen_all es))
heap_same [] last heap = refl
heap_same (Loads w ∷ es) last heap = heap_same es last heap
heap_same (Scans w apart many ∷ es) last heap =
    heap_same es last heap
    ∙ ap (heap_after heap) (sym (trace_headers last w apart many (seen_all es)))
heap_same (Stores w x ∷ es) last heap =
    heap_same es None (put heap w x) ∙ sym (heap_entry heap last w x (trace_of None (seen_all es)))
heap_same (Logs w ∷ es) last heap = heap_same es (Some w) heap
heap_same (Flushes l ∷ es) last heap = heap_same es last heap
heap_same (Fences ∷ es) last heap = heap_same es last heap
heap_same (Quiet ∷ es) last heap = heap_same es last heap

pub join : (z : Sizes) (a : ℕ) (heap : ℕ → ℤ) (end : End) (es : List Effect) → IsPairedRun es
    → IsTidyEnd [] end es →
    (events_all z a 0 heap es ≡ run_events z a 0 heap (trace_of None (seen_all es))
    ++ last_events z end (trace_of None (seen_all es)))
    × (heap_end heap es ≡ heap_after heap (trace_of None (seen_all es)))
join z a heap (Halted v) es paired tidy = (
  tidy_events z a es [] 0 heap tidy
      ∙ ap (λ (r : List CacheEvent). r
      ++ flush_all (heap_lines z (stored_lines [] es)) (Fence ∷ []))
      (step_events z a (seen_all es) 0 heap paired)
      ∙ ap (λ (ks : List ℕ). run_events z a 0 heap (trace_of None (seen_all es))
      ++ flush_all ks (Fence ∷ [])) (lines_from z es None [] [] (λ l. refl)),
  heap_same es None heap,
)
join z a heap (Trapped k) es paired still = (
  still_events z a es 0 heap still ∙ step_events z a (seen_all es) 0 heap paired
      ∙ sym (append-nil (run_events z a 0 heap (trace_of None (seen_all es)))),
  heap_same es None heap,
)
