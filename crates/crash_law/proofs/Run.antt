-- The run: after each of its events, the call is owed in every image.
use Rattle.pool_layout.specs.Sizes.{heap_words}
use Rattle.std.proofs.Common.{◌≡◌, ◌≢◌, ◌⊎◌, inl, inr, ⊎_elim, ℕ, suc, ◌+◌, ◌^◌, ◌<◌, ◌≤◌, Bool}
use Rattle.std.proofs.Common.{true, false, List, [], ◌∷◌, ◌++◌, Some, ℤ, pos, refl, sym, ap, ◌∙◌}
use Rattle.std.proofs.Common.{subst, arith}
use Rattle.std.proofs.lemmas.Bool.{cases_eq, cases_lt}
use Rattle.cache_model.specs.Event.{CacheEvent, Store, Flush, Fence}
use Rattle.cache_model.specs.Cache.{Words, Cache, put, view}
use Rattle.cache_model.specs.Play.{apply, play}
use Rattle.cache_model.specs.Image.{Images}
use Rattle.cache_model.specs.During.{during}
use Rattle.pool_layout.specs.declared.places.Place.{Place}
use Rattle.pool_layout.specs.declared.places.Place.TheVariants.{RecordWord, RecordOld, RecordStamp}
use Rattle.pool_layout.specs.declared.places.Place.TheVariants.{Heap, Spare, RecordSpare}
use Rattle.pool_layout.specs.declared.limits.Sizes.{Sizes}
use Rattle.pool_layout.specs.declared.places.Layout.{Layout}
use Rattle.pool_layout.specs.Places.{at, line_of, IsPlace, pool_of}
use Rattle.clobber_log.specs.Record.{record_events}
use Rattle.crash_law.specs.Pools.{Owed}
use Rattle.crash_law.specs.Due.{Entry, Plain, Logged, run_events, heap_after, IsTrace}
use Rattle.crash_law.specs.Due.{Records, with_record, records_after}
use Rattle.cache_model.proofs.Versions.{put_same, put_other}
use Rattle.cache_model.proofs.Views.{view_same, view_other, view_flush, view_fence}
use Rattle.cache_model.proofs.Ready.{flush_ready}
use Rattle.crash_law.proofs.Held.{Cover, cover_image, cover_view, cover_store, Held, held_image}
use Rattle.crash_law.proofs.Held.{held_flush, held_cover, held_store, held_single}
use Rattle.pool_layout.proofs.Records.{pos_inj}
use Rattle.crash_law.proofs.Records.{found, found_grows, found_new, found_pushed, found_record}
use Rattle.crash_law.proofs.Records.{HasRecord}
use Rattle.crash_law.proofs.Fine.{Fine, ok, Setting, owing, owed_image, IsFine}

module _ (s : Setting) (a : ℕ) (a_fits : a ≤ 2 ^ 62) where
  abbrev z : Sizes
  z = s.pool.sizes

  abbrev C : Layout
  C = pool_of s.pool.sizes

  abbrev H : ℕ
  H = heap_words s.pool.sizes

  -- a word of the heap is r's; or it is in W, and if it is in E it has a record
  abbrev pub Allowed : (n : ℕ) → (word old : ℕ → ℤ) → ℕ → ℤ → Type 0
  Allowed n word old w x = w < H → (x ≡ s.r w) ⊎ (s.W w × (s.E w → HasRecord (found word old n w)))

  abbrev pub running : (n : ℕ) → (word old : ℕ → ℤ) → Fine
  running n word old = owing s a n word old (Allowed n word old)

  -- the facts that don't mention the cache
  pub record Recorded (n : ℕ) (word old : ℕ → ℤ) : Type 0 where
    pub room : n ≤ C.sizes.records
    pub words : (j : ℕ) → j < n → (u : ℕ) × (word j ≡ pos u) × s.W u × (u < H)
    pub oldest : (w : ℕ) → w < H → s.E w → (y : ℤ) → found word old n w ≡ Some y → y ≡ s.r w

  pub record Running (n : ℕ) (word old heap : ℕ → ℤ) (c : Cache) : Type 0 where
    pub facts : Recorded n word old
    pub cover : Cover C (ok (running n word old)) c
    pub heap_is : (w : ℕ) → w < H → view c (at C (Heap w)) ≡ heap w

  pub pick : (n : ℕ) (word old : ℕ → ℤ) (image : Words) → Recorded n word old
      → IsFine C (running n word old) image → Owed s.pool s.call s.E s.W s.h s.kept image
  pick n word old image facts fine =
      owed_image s a n word old (Allowed n word old) image a_fits facts.room
      (λ j lt. let u = facts.words j lt in (u.0, u.1, u.3))
      (λ w lt kept y is. ⊎_elim
      (λ outside. let rec = found_record word old n w y is in let u = facts.words rec.0 rec.1 in
      let same : u.0 ≡ w = pos_inj u.0 w (sym u.1 ∙ rec.2) in absurd (outside (subst s.W same u.2)))
      (λ input. facts.oldest w lt input y is ∙ s.from w lt kept)
      kept)
      (λ w x lt kept allowed none. ⊎_elim
      (λ e. e ∙ s.from w lt kept)
      (λ stored. ⊎_elim
      (λ outside. absurd (outside stored.0))
      (λ input. let has = stored.1 input in absurd (cc (none, has.1)))
      kept)
      (allowed lt))
      fine

  -- the call is owed in every image
  abbrev pub Q : Cache → Type 0
  Q = Images (Owed s.pool s.call s.E s.W s.h s.kept)

  pub covered : (n : ℕ) (word old : ℕ → ℤ) (c : Cache) → Recorded n word old
      → Cover C (ok (running n word old)) c → Q c
  covered n word old c facts cover image im =
      pick n word old image facts (λ q is. cover_image C (ok (running n word old)) c image
      cover im q is)

  -- a store to a word of the heap
  pub plain_step : (n : ℕ) (word old heap : ℕ → ℤ) (c : Cache) (w : ℕ) (x : ℤ) → w < H → s.W w
      → (s.E w → HasRecord (found word old n w)) → Running n word old heap c
      → Running n word old (put heap w x) (apply c (Store (at C (Heap w)) x))
  plain_step n word old heap c w x in_heap overwrites has run = record {
    facts = run.facts;
    cover = cover_store C (ok (running n word old)) c (Heap w) x in_heap
        (λ lt. inr (overwrites, has)) run.cover;
    heap_is = λ u lt. ⊎_elim
        (λ (e : u ≡ w). subst (λ (v : ℕ). view (apply c (Store (at C (Heap w)) x)) (at C (Heap v))
        ≡ put heap w x v) (sym e) (view_same c (at C (Heap w)) x ∙ sym (put_same heap w x)))
        (λ (ne : u ≢ w). view_other c (at C (Heap w)) (at C (Heap u)) x (omega arith)
        ∙ run.heap_is u lt ∙ sym (put_other heap w u x ne))
        (cases_eq u w);
  }

  module _ (n : ℕ) (word old : ℕ → ℤ) (w : ℕ) (o : ℤ) (room : n < C.sizes.records) where
    abbrev word' : ℕ → ℤ
    word' = put word n (pos w)

    abbrev old' : ℕ → ℤ
    old' = put old n o

    -- without the new record, or with it
    abbrev either : Bool → Place → ℤ → Type 0
    either false = ok (running n word old)
    either true = ok (running (suc n) word' old')

    grown : (q : Place) → IsPlace C q → line_of C q ≢ 6 + n → (x : ℤ) → ok (running n word old) q x
        → ok (running (suc n) word' old') q x
    grown (RecordWord j) is ne x fine =
        λ lt. fine (omega arith) ∙ sym (put_other word n j (pos w) (omega arith))
    grown (RecordOld j) is ne x fine =
        λ lt. fine (omega arith) ∙ sym (put_other old n j o (omega arith))
    grown (RecordStamp j) is ne x fine = (λ lt. fine.0 (omega arith), λ ge. fine.1 (omega arith))
    grown (Heap u) is ne x fine = λ lt.
        ⊎_elim (λ same. inl same) (λ stored.
        inr (stored.0, λ input. found_grows word old n (pos w) o u (stored.1 input))) (fine lt)
    grown q is ne x fine = fine

    others : (q : Place) → IsPlace C q → line_of C q ≢ 6 + n → (x : ℤ) → either false q x
        → (b : Bool) → either b q x
    others q is ne x fine false = fine
    others q is ne x fine true = grown q is ne x fine

    -- the newest version of the record's line
    fresh : (d : Cache) → view d (at C (RecordWord n)) ≡ pos w → view d (at C (RecordOld n)) ≡ o
        → view d (at C (RecordStamp n)) ≡ pos (suc a) → (q : Place) → IsPlace C q
        → line_of C q ≡ 6 + n → ok (running (suc n) word' old') q (view d (at C q))
    fresh d vw vo vs (RecordWord j) is e = λ lt. let same : n ≡ j = omega arith in
        subst (λ (k : ℕ). view d (at C (RecordWord k)) ≡ word' k) same
        (vw ∙ sym (put_same word n (pos w)))
    fresh d vw vo vs (RecordOld j) is e = λ lt. let same : n ≡ j = omega arith in
        subst (λ (k : ℕ). view d (at C (RecordOld k)) ≡ old' k) same (vo ∙ sym (put_same old n o))
    fresh d vw vo vs (RecordStamp j) is e = let same : n ≡ j = omega arith in (
      λ lt. subst (λ (k : ℕ). view d (at C (RecordStamp k)) ≡ pos (suc a)) same vs,
      λ ge.
          absurd (omega arith),
    )
    fresh d vw vo vs (RecordSpare j k) is e = tt
    fresh d vw vo vs (Spare k) is e = absurd (omega arith)
    fresh d vw vo vs q is e = absurd (omega arith)

    more_facts : (s.E w → HasRecord (found word old n w) ⊎ (o ≡ s.r w)) → s.W w → w < H
        → Recorded n word old → Recorded (suc n) word' old'
    more_facts first overwrites in_heap facts = record {
      room = omega arith;
      words = λ j lt. ⊎_elim
          (λ (below : j < n). let u = facts.words j below in
          (u.0, put_other word n j (pos w) (omega arith) ∙ u.1, u.2, u.3))
          (λ (ge : n ≤ j). let same : n ≡ j = omega arith in (
            w,
            subst (λ (k : ℕ). word' k ≡ pos w) same (put_same word n (pos w)),
            overwrites,
            in_heap,
          ))
          (cases_lt j n);
      oldest = λ u lt input y is. ⊎_elim
          (λ before. facts.oldest u lt input y before)
          (λ pushed. ⊎_elim
          (λ has. absurd (cc (has.1, pushed.none, pushed.word)))
          (λ (first_value : o ≡ s.r w). pushed.value ∙ first_value ∙ ap s.r (sym pushed.word))
          (first (subst s.E pushed.word input)))
          (found_pushed word old n w o u y is);
    }

    picked : (image : Words) → Recorded n word old → Recorded (suc n) word' old'
        → (b : Bool) × ((q : Place) → IsPlace C q → either b q (image (at C q)))
        → Owed s.pool s.call s.E s.W s.h s.kept image
    picked image facts more found_it = of found_it.0 found_it.1
      where
        of : (b : Bool) → ((q : Place) → IsPlace C q → either b q (image (at C q)))
            → Owed s.pool s.call s.E s.W s.h s.kept image
        of false fine = pick n word old image facts fine
        of true fine = pick (suc n) word' old' image more fine

  -- the cache after the five events of LOG
  abbrev pub logged : (n w : ℕ) (o : ℤ) (c : Cache) → Cache
  logged n w o c = play c (record_events z n w o (suc a))

  pub log_step : (n : ℕ) (word old heap : ℕ → ℤ) (c : Cache) (w : ℕ) → s.W w → w < H →
      n < C.sizes.records → Running n word old heap c →
      ((rest : List CacheEvent) → during (logged n w (heap w) c) rest Q →
      during c (record_events z n w (heap w) (suc a) ++ rest) Q)
      × Running (suc n) (put word n (pos w)) (put old n (heap w)) heap (logged n w (heap w) c)
  log_step n word old heap c w overwrites in_heap room run =
      let o : ℤ = heap w in
      let now = ok (running n word old) in
      let both = either n word old w o room in
      let c1 : Cache = apply c (Store (at C (RecordWord n)) (pos w)) in
      let c2 : Cache = apply c1 (Store (at C (RecordOld n)) o) in
      let c3 : Cache = apply c2 (Store (at C (RecordStamp n)) (pos (suc a))) in
      let c4 : Cache = apply c3 (Flush (6 + n)) in
      let cover1 : Cover C now c1 = cover_store C now c (RecordWord n) (pos w) room
      (λ lt. absurd (omega arith)) run.cover in
      let cover2 : Cover C now c2 = cover_store C now c1 (RecordOld n) o room
      (λ lt. absurd (omega arith)) cover1 in
      let w3 : view c3 (at C (RecordWord n)) ≡ pos w =
      view_other c2 (at C (RecordStamp n)) (at C (RecordWord n)) (pos (suc a)) (omega arith)
      ∙ view_other c1 (at C (RecordOld n)) (at C (RecordWord n)) o (omega arith)
      ∙ view_same c (at C (RecordWord n)) (pos w) in
      let o3 : view c3 (at C (RecordOld n)) ≡ o =
      view_other c2 (at C (RecordStamp n)) (at C (RecordOld n)) (pos (suc a)) (omega arith)
      ∙ view_same c1 (at C (RecordOld n)) o in
      let s3 : view c3 (at C (RecordStamp n)) ≡ pos (suc a) =
      view_same c2 (at C (RecordStamp n)) (pos (suc a)) in
      let held2 : Held C (6 + n) both c2 =
      held_cover C (6 + n) both c2 false cover2 (others n word old w o room) in
      let held3 : Held C (6 + n) both c3 =
      held_store C (6 + n) both c2 (RecordStamp n) (pos (suc a)) true (omega arith)
      (fresh n word old w o room c3 w3 o3 s3) held2 in
      let held4 : Held C (6 + n) both c4 = held_flush C (6 + n) both c3 (6 + n) held3 in
      let new4 = fresh n word old w o room c4 (view_flush c3 (6 + n) (at C (RecordWord n)) ∙ w3)
      (view_flush c3 (6 + n) (at C (RecordOld n)) ∙ o3)
      (view_flush c3 (6 + n) (at C (RecordStamp n)) ∙ s3) in
      let cover5 : Cover C (both true) (apply c4 Fence) =
      held_single C (6 + n) both c4 true (flush_ready c3 (6 + n) (6 + n) (λ ne. absurd (ne refl)))
      new4 held4 in
      let value : s.E w → HasRecord (found word old n w) ⊎ (o ≡ s.r w) = λ input.
      ⊎_elim (λ same. inr (sym (run.heap_is w in_heap) ∙ same)) (λ stored. inl (stored.1 input))
      (cover_view C now c run.cover (Heap w) in_heap in_heap) in
      let facts5 = more_facts n word old w o room value overwrites in_heap run.facts in
      let choose : (d : Cache) → Held C (6 + n) both d → Q d =
      λ d held image im. picked n word old w o room image run.facts facts5
      (held_image C (6 + n) both d image held im) in (
        λ rest q. (
          covered n word old c run.facts run.cover,
          (
            covered n word old c1 run.facts cover1,
            (covered n word old c2 run.facts cover2, (choose c3 held3, (choose c4 held4, q))),
          ),
        ),
        record {
          facts = facts5;
          cover = cover5;
          heap_is = λ u lt.
              view_fence c4 (at C (Heap u)) ∙ view_flush c3 (6 + n) (at C (Heap u))
              ∙ view_other c2 (at C (RecordStamp n)) (at C (Heap u)) (pos (suc a)) (omega arith)
              ∙ view_other c1 (at C (RecordOld n)) (at C (Heap u)) o (omega arith)
              ∙ view_other c (at C (RecordWord n)) (at C (Heap u)) (pos w) (omega arith)
              ∙ run.heap_is u lt;
        },
      )

  -- a run with these records
  abbrev pub Holding : Records → (ℕ → ℤ) → Cache → Type 0
  Holding r heap c = Running r.n r.word r.old heap c

  pub run_part : (trace : List Entry) (r : Records) (heap : ℕ → ℤ) (stored : ℕ → Type 0)
      (c : Cache) → Holding r heap c →
      ((u : ℕ) → stored u → s.E u → HasRecord (found r.word r.old r.n u)) →
      IsTrace C.sizes.records H s.E s.W r.n stored trace →
      during c (run_events z a r.n heap trace) Q
      × Holding (records_after r heap trace) (heap_after heap trace)
      (play c (run_events z a r.n heap trace))
  run_part [] r heap stored c run has ok_trace =
      (covered r.n r.word r.old c run.facts run.cover, run)
  run_part (Plain w x ∷ trace) r heap stored c run has ok_trace =
      let next : Holding r (put heap w x) (apply c (Store (at C (Heap w)) x)) =
      plain_step r.n r.word r.old heap c w x ok_trace.1 ok_trace.0
      (λ input. has w (ok_trace.2 input) input) run in
      let rest = run_part trace r (put heap w x) (λ u. (u ≡ w) ⊎ stored u)
      (apply c (Store (at C (Heap w)) x)) next
      (λ u before input. ⊎_elim (λ (e : u ≡ w).
      has u (subst stored (sym e) (ok_trace.2 (subst s.E e input))) input)
      (λ st. has u st input) before)
      ok_trace.3 in
      ((covered r.n r.word r.old c run.facts run.cover, rest.0), rest.1)
  run_part (Logged w x ∷ trace) r heap stored c run has ok_trace =
      let r' : Records = with_record r w (heap w) in
      let step = log_step r.n r.word r.old heap c w ok_trace.0 ok_trace.1 ok_trace.2 run in
      let c5 : Cache = logged r.n w (heap w) c in
      let fresh_one : HasRecord (found r'.word r'.old (suc r.n) w) =
      found_new r.word r.old r.n w (heap w) in
      let next : Holding r' (put heap w x) (apply c5 (Store (at C (Heap w)) x)) =
      plain_step (suc r.n) r'.word r'.old heap c5 w x ok_trace.1 ok_trace.0
      (λ input. fresh_one) step.1 in
      let rest = run_part trace r' (put heap w x) (λ u. (u ≡ w) ⊎ stored u)
      (apply c5 (Store (at C (Heap w)) x)) next
      (λ u before input. ⊎_elim (λ (e : u ≡ w).
      subst (λ (v : ℕ). HasRecord (found r'.word r'.old (suc r.n) v)) (sym e) fresh_one)
      (λ st. found_grows r.word r.old r.n (pos w) (heap w) u (has u st input)) before)
      ok_trace.3 in (
        step.0 (Store (at C (Heap w)) x ∷ run_events z a (suc r.n) (put heap w x) trace)
            (covered (suc r.n) r'.word r'.old c5 step.1.facts step.1.cover, rest.0),
        rest.1,
      )
