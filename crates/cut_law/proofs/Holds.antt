-- The records in the view of a cache, and the events that put their words back.
use Rattle.std.proofs.Common.{◌≡◌, ◌≢◌, ◌⊎◌, ⊎_elim, ℕ, zero, suc, ◌+◌, ◌^◌, ◌<◌, ◌≤◌, List, []}
use Rattle.std.proofs.Common.{◌∷◌, ◌++◌, Option, None, Some, Bool, cond, ℤ, pos, refl, sym, ap, ◌∙◌}
use Rattle.std.proofs.Common.{subst, arith, eq-eqb}
use Rattle.std.proofs.lemmas.Bool.{cases_eq}
use Rattle.cache_model.specs.Event.{CacheEvent, Store, Flush, Fence}
use Rattle.cache_model.specs.Cache.{Words, Cache, put, view}
use Rattle.cache_model.specs.Play.{apply, play}
use Rattle.cache_model.proofs.Versions.{put_same, put_other}
use Rattle.cache_model.proofs.Views.{view_same, view_other, view_flush, view_fence}
use Rattle.pool_layout.specs.declared.places.TheConstants.{LAST, DONE, ATTEMPT, SEAL}
use Rattle.pool_layout.specs.declared.limits.Sizes.{Sizes}
use Rattle.pool_layout.specs.declared.places.Layout.{Layout}
use Rattle.pool_layout.specs.declared.places.Place.TheVariants.{RecordWord, RecordOld, RecordStamp}
use Rattle.pool_layout.specs.declared.places.Place.TheVariants.{Heap}
use Rattle.pool_layout.specs.Sizes.{heap_words}
use Rattle.pool_layout.specs.Places.{at, pool_of}
use Rattle.pool_layout.specs.Log.{count}
use Rattle.pool_layout.proofs.Records.{count_is}
use Rattle.clobber_log.specs.Logs.{attempt_of, count_in}
use Rattle.clobber_log.specs.Restore.{as_heap_word, back_at, fence_after, back_events}
use Rattle.clobber_log.specs.Restore.{restore_events, word_in_record, old_in_record}
use Rattle.args_log.specs.Retire.{retire_events}
use Rattle.pm_machine.specs.declared.effect.Effect.{Effect}
use Rattle.pm_machine.specs.declared.effect.Effect.TheVariants.{Loads, Scans, Stores, Logs, Flushes}
use Rattle.pm_machine.specs.declared.effect.Effect.TheVariants.{Fences, Quiet}
use Rattle.pm_machine.specs.Effects.{records_end}
use Rattle.crash_law.specs.Due.{Entry, Plain, Logged, IsTrace, Records, with_record}
use Rattle.crash_law.specs.Due.{records_after, run_events, undo_events}
use Rattle.crash_law.specs.Effects.{IsPaired, trace_of}
use Rattle.run_law.specs.Seen.{seen_all}
use Rattle.run_law.proofs.Headers.{trace_headers, headers_pair}
use Rattle.tx_run.specs.Due.{retiring_still, due_undo}
use Rattle.cut_law.proofs.Misses.{view_missed}
use Rattle.cut_law.proofs.Numbers.{next_is, attempt_small}
use Rattle.cut_law.proofs.Backs.{misses_restore, restore_same}

module _ (z : Sizes) (a : ℕ) where
  abbrev C : Layout
  C = pool_of z

  -- the view has exactly these records
  pub record Holds (r : Records) (c : Cache) : Type 0 where
    pub room : r.n ≤ z.records
    pub in_heap : (j : ℕ) → j < r.n → (u : ℕ) × (r.word j ≡ pos u) × (u < heap_words z)
    pub words : (j : ℕ) → j < r.n → view c (at C (RecordWord j)) ≡ r.word j
    pub olds : (j : ℕ) → j < r.n → view c (at C (RecordOld j)) ≡ r.old j
    pub stamps : (j : ℕ) → j < r.n → view c (at C (RecordStamp j)) ≡ pos (suc a)
    pub others : (j : ℕ) → r.n ≤ j → j < z.records → view c (at C (RecordStamp j)) ≡ pos (suc a) → ⊥

  holds_store : (r : Records) (c : Cache) (w : ℕ) (x : ℤ) → Holds r c →
      Holds r (apply c (Store (at C (Heap w)) x))
  holds_store r c w x h =
      let room = h.room in
      record {
        room = h.room;
        in_heap = h.in_heap;
        words = λ j lt. view_other c (at C (Heap w)) (at C (RecordWord j)) x (omega arith)
            ∙ h.words j lt;
        olds = λ j lt. view_other c (at C (Heap w)) (at C (RecordOld j)) x (omega arith)
            ∙ h.olds j lt;
        stamps = λ j lt. view_other c (at C (Heap w)) (at C (RecordStamp j)) x (omega arith)
            ∙ h.stamps j lt;
        others = λ j ge lt e.
            h.others j ge lt
            (sym (view_other c (at C (Heap w)) (at C (RecordStamp j)) x (omega arith)) ∙ e);
      }

  module _ (r : Records) (c : Cache) (w : ℕ) (o : ℤ) (h : Holds r c) (below : r.n < z.records)
      (in_heap : w < heap_words z) where
    abbrev n : ℕ
    n = r.n

    abbrev c1 : Cache
    c1 = apply c (Store (at C (RecordWord n)) (pos w))

    abbrev c2 : Cache
    c2 = apply c1 (Store (at C (RecordOld n)) o)

    abbrev c3 : Cache
    c3 = apply c2 (Store (at C (RecordStamp n)) (pos (suc a)))

    abbrev c5 : Cache
    c5 = apply (apply c3 (Flush (6 + n))) Fence

    abbrev r' : Records
    r' = with_record r w o

    settled : (p : ℕ) → view c5 p ≡ view c3 p
    settled p = view_fence (apply c3 (Flush (6 + n))) p ∙ view_flush c3 (6 + n) p

    word_of : (j : ℕ) → view c5 (at C (RecordWord j)) ≡ view c1 (at C (RecordWord j))
    word_of j = settled (at C (RecordWord j))
        ∙ view_other c2 (at C (RecordStamp n)) (at C (RecordWord j)) (pos (suc a)) (omega arith)
        ∙ view_other c1 (at C (RecordOld n)) (at C (RecordWord j)) o (omega arith)

    old_of : (j : ℕ) → view c5 (at C (RecordOld j)) ≡ view c2 (at C (RecordOld j))
    old_of j = settled (at C (RecordOld j))
        ∙ view_other c2 (at C (RecordStamp n)) (at C (RecordOld j)) (pos (suc a)) (omega arith)

    new_word : (j : ℕ) → j < suc n → view c5 (at C (RecordWord j)) ≡ r'.word j
    new_word j lt = ⊎_elim
        (λ (e : j ≡ n). subst (λ (i : ℕ). view c5 (at C (RecordWord i)) ≡ r'.word i) (sym e)
        (word_of n ∙ view_same c (at C (RecordWord n)) (pos w)
        ∙ sym (put_same r.word n (pos w))))
        (λ (ne : j ≢ n). word_of j
        ∙ view_other c (at C (RecordWord n)) (at C (RecordWord j)) (pos w) (omega arith)
        ∙ h.words j (omega arith) ∙ sym (put_other r.word n j (pos w) ne))
        (cases_eq j n)

    new_old : (j : ℕ) → j < suc n → view c5 (at C (RecordOld j)) ≡ r'.old j
    new_old j lt = ⊎_elim
        (λ (e : j ≡ n). subst (λ (i : ℕ). view c5 (at C (RecordOld i)) ≡ r'.old i) (sym e)
        (old_of n ∙ view_same c1 (at C (RecordOld n)) o ∙ sym (put_same r.old n o)))
        (λ (ne : j ≢ n).
        old_of j ∙ view_other c1 (at C (RecordOld n)) (at C (RecordOld j)) o (omega arith)
        ∙ view_other c (at C (RecordWord n)) (at C (RecordOld j)) (pos w) (omega arith)
        ∙ h.olds j (omega arith) ∙ sym (put_other r.old n j o ne))
        (cases_eq j n)

    stamp_other : (j : ℕ) → j ≢ n → view c5 (at C (RecordStamp j)) ≡ view c (at C (RecordStamp j))
    stamp_other j ne =
        settled (at C (RecordStamp j))
        ∙ view_other c2 (at C (RecordStamp n)) (at C (RecordStamp j)) (pos (suc a))
        (omega arith)
        ∙ view_other c1 (at C (RecordOld n)) (at C (RecordStamp j)) o (omega arith)
        ∙ view_other c (at C (RecordWord n)) (at C (RecordStamp j)) (pos w) (omega arith)

    new_stamp : (j : ℕ) → j < suc n → view c5 (at C (RecordStamp j)) ≡ pos (suc a)
    new_stamp j lt = ⊎_elim
        (λ (e : j ≡ n). ap (λ (i : ℕ). view c5 (at C (RecordStamp i))) e
        ∙ settled (at C (RecordStamp n)) ∙ view_same c2 (at C (RecordStamp n)) (pos (suc a)))
        (λ (ne : j ≢ n). stamp_other j ne ∙ h.stamps j (omega arith))
        (cases_eq j n)

    new_heap : (j : ℕ) → j < suc n → (u : ℕ) × (r'.word j ≡ pos u) × (u < heap_words z)
    new_heap j lt = ⊎_elim
        (λ (e : j ≡ n). (w, ap r'.word e ∙ put_same r.word n (pos w), in_heap))
        (λ (ne : j ≢ n). let u = h.in_heap j (omega arith) in
        (u.0, put_other r.word n j (pos w) ne ∙ u.1, u.2))
        (cases_eq j n)

    holds_log : Holds r' c5
    holds_log = record {
      room = omega arith;
      in_heap = new_heap;
      words = new_word;
      olds = new_old;
      stamps = new_stamp;
      others = λ j ge lt e.
          h.others j (omega arith) lt (sym (stamp_other j (λ same. absurd (omega arith))) ∙ e);
    }

  pub holds_run : (E W : ℕ → Type 0) (trace : List Entry) (r : Records) (heap : ℕ → ℤ)
      (stored : ℕ → Type 0) (c : Cache) → Holds r c
      → IsTrace z.records (heap_words z) E W r.n stored trace →
      Holds (records_after r heap trace) (play c (run_events z a r.n heap trace))
  holds_run E W [] r heap stored c h is = h
  holds_run E W (Plain w x ∷ trace) r heap stored c h is =
      holds_run E W trace r (put heap w x) (λ u. (u ≡ w) ⊎ stored u)
      (apply c (Store (at C (Heap w)) x))
      (holds_store r c w x h) is.3
  holds_run E W (Logged w x ∷ trace) r heap stored c h is =
      let c5' : Cache =
      apply (apply (apply
      (apply (apply c (Store (at C (RecordWord r.n)) (pos w)))
      (Store (at C (RecordOld r.n)) (heap w))) (Store (at C (RecordStamp r.n)) (pos (suc a))))
      (Flush (6 + r.n))) Fence in
      holds_run E W trace (with_record r w (heap w)) (put heap w x) (λ u. (u ≡ w) ⊎ stored u)
      (apply c5' (Store (at C (Heap w)) x))
      (holds_store (with_record r w (heap w)) c5' w x (holds_log r c w (heap w) h is.2 is.1)) is.3

  -- restoring depends only on the first n records
  back_cong : (word old word' old' : ℕ → ℤ) (n : ℕ) →
      ((j : ℕ) → j < n → word j ≡ word' j) → ((j : ℕ) → j < n → old j ≡ old' j) →
      back_events z word old n ≡ back_events z word' old' n
  back_cong word old word' old' zero hw ho = refl
  back_cong word old word' old' (suc n) hw ho =
      let more = back_cong word old word' old' n (λ j lt. hw j (omega arith))
      (λ j lt. ho j (omega arith)) in
      let x = hw n (omega arith) in
      let o = ho n (omega arith) in
      λ i. back_at z (as_heap_word z (x i)) (o i) ++ more i

  -- the undo of a view with these records
  module _ (r : Records) (c : Cache) (h : Holds r c) (d : ℕ) (last : ℤ) (d_fits : d ≤ 2 ^ 62)
      (a_fits : a ≤ 2 ^ 62) (last_is : view c LAST ≡ last) (done : view c DONE ≡ pos d)
      (attempt : view c ATTEMPT ≡ pos a) where
    pub counted : count_in z (view c) ≡ r.n
    counted =
        ap (λ (b : ℕ). count C b (view c)) (ap attempt_of attempt ∙ attempt_small a a_fits)
        ∙ count_is C a r.n (view c) h.room h.stamps h.others

    abbrev back : List CacheEvent
    back = restore_events z (view c)

    low : (p : ℕ) → p ≤ SEAL → view (play c back) p ≡ view c p
    low p lt = view_missed back c p (misses_restore z p (view c) (omega arith))

    retiring_is : retiring_still (play c back)
        ≡ retire_events last (pos (suc d)) (pos (suc a))
    unfolding retire_events
    retiring_is =
        let v = low LAST (omega arith) ∙ last_is in
        let k = next_is (view (play c back) DONE) d (low DONE (omega arith) ∙ done) d_fits in
        let b = next_is (view (play c back) ATTEMPT) a (low ATTEMPT (omega arith) ∙ attempt)
        a_fits in
        λ i. Store LAST (v i) ∷ Store DONE (k i) ∷ Store ATTEMPT (b i) ∷ Flush 2 ∷ Fence ∷ []

    pub undo_is : due_undo z c ≡ undo_events z a (suc d) r last
    undo_is =
        let tail : List CacheEvent = retire_events last (pos (suc d)) (pos (suc a)) in
        ap (λ (rest : List CacheEvent). back ++ rest) retiring_is
        ∙ ap (λ (es : List CacheEvent). es ++ tail)
        (restore_same z (view c) r.n counted
        ∙ ap (λ (es : List CacheEvent). es ++ fence_after r.n)
        (back_cong (word_in_record z (view c)) (old_in_record z (view c)) r.word r.old r.n
        h.words h.olds))

-- The records after a run's trace are those that its effects append, if each LOG has its STORE.
-- the records, with that of a LOG whose STORE is yet to come
abbrev with_pending : Option ℕ → ℕ → ℕ
with_pending None n = n
with_pending (Some w) n = suc n

counts_trace : (es : List Effect) (last : Option ℕ) (r : Records) (heap : Words) →
    IsPaired last (seen_all es) →
    (records_after r heap (trace_of last (seen_all es))).n ≡ records_end (with_pending last r.n) es
counts_trace [] None r heap p = refl
counts_trace [] (Some v) r heap p = absurd p
counts_trace (Loads w ∷ es) None r heap p = counts_trace es None r heap p
counts_trace (Loads w ∷ es) (Some v) r heap p = counts_trace es (Some v) r heap p
counts_trace (Scans w apart m ∷ es) last r heap p =
    ap (λ (trace : List Entry). (records_after r heap trace).n)
    (trace_headers last w apart m (seen_all es))
    ∙ counts_trace es last r heap (headers_pair last w apart m (seen_all es) p)
counts_trace (Stores w x ∷ es) None r heap p = counts_trace es None r (put heap w x) p
counts_trace (Stores w x ∷ es) (Some v) r heap p =
    ap (λ (b : Bool).
    (records_after r heap (cond b (Logged w x) (Plain w x) ∷ trace_of None (seen_all es))).n)
    (eq-eqb v w p.0)
    ∙ counts_trace es None (with_record r w (heap w)) (put heap w x) p.1
counts_trace (Logs w ∷ es) None r heap p = counts_trace es (Some w) r heap p
counts_trace (Logs w ∷ es) (Some v) r heap p = absurd p
counts_trace (Flushes l ∷ es) None r heap p = counts_trace es None r heap p
counts_trace (Flushes l ∷ es) (Some v) r heap p = counts_trace es (Some v) r heap p
counts_trace (Fences ∷ es) None r heap p = counts_trace es None r heap p
counts_trace (Fences ∷ es) (Some v) r heap p = counts_trace es (Some v) r heap p
counts_trace (Quiet ∷ es) None r heap p = counts_trace es None r heap p
counts_trace (Quiet ∷ es) (Some v) r heap p = counts_trace es (Some v) r heap p

pub trace_records : (es : List Effect) (r : Records) (heap : Words) → IsPaired None (seen_all es) →
    (records_after r heap (trace_of None (seen_all es))).n ≡ records_end r.n es
trace_records es r heap p = counts_trace es None r heap p
