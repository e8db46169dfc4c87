-- After a call that is done, and after a recovery, each line has one version.
use Rattle.std.proofs.Common.{◌≡◌, ◌≢◌, ◌⊎◌, inl, inr, ⊎_elim, ℕ, zero, suc, ◌+◌, ◌/◌, ◌<◌, ◌≤◌}
use Rattle.std.proofs.Common.{List, [], ◌∷◌, ◌++◌, length, Some, None, Option, ℤ, pos, refl, sym}
use Rattle.std.proofs.Common.{ap, ◌∙◌, subst, arith, nat_abs}
use Rattle.std.proofs.lemmas.Bool.{cases_eq}
use Rattle.std.proofs.lemmas.List.{drop_all}
use Rattle.cache_model.specs.Event.{CacheEvent, Store, Flush, Fence}
use Rattle.cache_model.specs.Cache.{Words, Line, Cache, put}
use Rattle.cache_model.specs.Play.{apply, play, fence_at}
use Rattle.pool_layout.specs.declared.places.Place.TheVariants.{Last, Done, Attempt, Argument, Seal}
use Rattle.pool_layout.specs.declared.places.Place.TheVariants.{RecordWord, RecordOld, RecordStamp}
use Rattle.pool_layout.specs.declared.places.Place.TheVariants.{Heap}
use Rattle.pool_layout.specs.declared.places.Layout.{Layout}
use Rattle.pool_layout.specs.declared.limits.Sizes.{Sizes}
use Rattle.pool_layout.specs.Places.{at, line_of, pool_of}
use Rattle.pool_layout.specs.Restored.{restored}
use Rattle.crash_law.specs.Pools.{Call, call_word}
use Rattle.crash_law.specs.Due.{Entry, Plain, Logged, Result, Halted, Trapped, Undone, Records}
use Rattle.crash_law.specs.Due.{no_records, with_record, records_after, word_of_entry, IsTrace}
use Rattle.crash_law.specs.Due.{run_events, IsStored, lines_of, flush_all, end_events, undo_events}
use Rattle.crash_law.specs.Due.{due_run, due_seal, due_call, redo_events}
use Rattle.pool_layout.specs.Sizes.{heap_words}
use Rattle.pool_layout.specs.Good.{Pool}
use Rattle.crash_law.specs.Law.{IsRun, Retires}
use Rattle.cache_model.proofs.Versions.{put_same, put_other}
use Rattle.crash_law.proofs.Walks.{AreInHeap, restore_walk, backs_same}
use Rattle.crash_law.proofs.Inside.{all_inside}
use Rattle.crash_law.proofs.Walks.{store_words, flush_from, seal_walk, seal_same, reset_walk}
use Rattle.crash_law.proofs.Walks.{reset_same}
use Rattle.args_log.specs.Retire.{retire_events}
use Rattle.clobber_log.specs.Reset.{reset_events}
use Rattle.clobber_log.specs.Restore.{as_heap_word, back_at, back_events, word_in_record}
use Rattle.clobber_log.specs.Restore.{old_in_record, fence_after, first_events}
use Rattle.crash_law.specs.Law.{IsAtRest}
use Rattle.cache_model.specs.Play.{IsReady}
use Rattle.cache_model.proofs.Ready.{flush_ready}
use Rattle.cache_model.proofs.Versions.{store_other}
use Rattle.cache_model.proofs.During.{play_append}
use Rattle.crash_law.proofs.Finish.{IsIn, stored_listed}

-- after a fence each line has one version, except those of D
abbrev pub Clean : (ℕ → Type 0) → Cache → Type 0
Clean D c = (l : ℕ) → IsReady (c l) ⊎ D l

abbrev pub Nowhere : ℕ → Type 0
Nowhere l = ⊥

pub single_ready_of : (m : Option ℕ) (l : Line) → l.older ≡ [] → (fence_at m l).older ≡ []
single_ready_of None l e = e
single_ready_of (Some k) l e = drop_all k l.older (omega (arith, ap (length {A = Words}) e))

single_ready : (l : Line) → l.older ≡ [] → IsReady l
single_ready l e = single_ready_of l.mark l e

pub rest_clean : (c : Cache) → IsAtRest c → Clean Nowhere c
rest_clean c rest l = inl (single_ready (c l) (rest l))

pub clean_more : (D M : ℕ → Type 0) (c : Cache) → ((l : ℕ) → D l → M l) → Clean D c → Clean M c
clean_more D M c f clean l = ⊎_elim (λ r. inl r) (λ d. inr (f l d)) (clean l)

pub clean_store : (D : ℕ → Type 0) (c : Cache) (p : ℕ) (x : ℤ) → D (p / 8) → Clean D c
    → Clean D (apply c (Store p x))
clean_store D c p x there clean l = ⊎_elim
    (λ (e : l ≡ p / 8). inr (subst D (sym e) there))
    (λ (ne : l ≢ p / 8). ⊎_elim (λ r. inl (subst IsReady (sym (store_other c p l x ne)) r))
    (λ d. inr d) (clean l))
    (cases_eq l (p / 8))

pub clean_flush : (D M : ℕ → Type 0) (c : Cache) (k : ℕ) → ((l : ℕ) → D l → (l ≡ k) ⊎ M l)
    → Clean D c → Clean M (apply c (Flush k))
clean_flush D M c k f clean l = ⊎_elim
    (λ r. inl (flush_ready c k l (λ ne. r)))
    (λ d. ⊎_elim (λ (e : l ≡ k). inl (flush_ready c k l (λ ne. absurd (ne e))))
    (λ m. inr m) (f l d))
    (clean l)

fence_ready : (c : Cache) (l : ℕ) → IsReady (c l) → (apply c Fence l).older ≡ []
unfolding apply
fence_ready c l r = r

clean_fence : (D : ℕ → Type 0) (c : Cache) → Clean D c → Clean D (apply c Fence)
clean_fence D c clean l = ⊎_elim (λ r. inl (single_ready (apply c Fence l) (fence_ready c l r)))
    (λ d. inr d) (clean l)

pub fence_rest : (c : Cache) → Clean Nowhere c → IsAtRest (apply c Fence)
fence_rest c clean l = ⊎_elim (λ r. fence_ready c l r) (λ none. absurd none) (clean l)

-- stores to one line, its flush and a fence
close : (k : ℕ) (c : Cache) → Clean (λ l. l ≡ k) c → IsAtRest (apply (apply c (Flush k)) Fence)
close k c clean = fence_rest (apply c (Flush k))
    (clean_flush (λ l. l ≡ k) Nowhere c k (λ l e. inl e) clean)

module _ (z : Sizes) (a : ℕ) where
  abbrev C : Layout
  C = pool_of z

  -- the five events of LOG leave no further line with several versions
  log_clean : (D : ℕ → Type 0) (n w : ℕ) (o : ℤ) (c : Cache) → Clean D c
      → Clean D (apply (apply (apply
      (apply (apply c (Store (at C (RecordWord n)) (pos w))) (Store (at C (RecordOld n)) o))
      (Store (at C (RecordStamp n)) (pos (suc a)))) (Flush (6 + n))) Fence)
  log_clean D n w o c clean =
      let M : ℕ → Type 0 = λ l. (l ≡ 6 + n) ⊎ D l in
      let c1 : Cache = apply c (Store (at C (RecordWord n)) (pos w)) in
      let c2 : Cache = apply c1 (Store (at C (RecordOld n)) o) in
      let c3 : Cache = apply c2 (Store (at C (RecordStamp n)) (pos (suc a))) in
      let more : Clean M c = clean_more D M c (λ l d. inr d) clean in
      let m1 : Clean M c1 = clean_store M c (at C (RecordWord n)) (pos w)
      (inl (omega arith)) more in
      let m2 : Clean M c2 = clean_store M c1 (at C (RecordOld n)) o (inl (omega arith)) m1 in
      let m3 : Clean M c3 = clean_store M c2 (at C (RecordStamp n)) (pos (suc a))
      (inl (omega arith)) m2 in
      clean_fence D (apply c3 (Flush (6 + n))) (clean_flush M D c3 (6 + n) (λ l d. d) m3)

  pub run_clean : (D : ℕ → Type 0) (trace : List Entry) (n : ℕ) (heap : ℕ → ℤ) (c : Cache) →
      ((w : ℕ) → IsStored w trace → D (line_of C (Heap w))) → Clean D c →
      Clean D (play c (run_events z a n heap trace))
  run_clean D [] n heap c stored clean = clean
  run_clean D (Plain w x ∷ trace) n heap c stored clean =
      run_clean D trace n _ (apply c (Store (at C (Heap w)) x)) (λ u later. stored u (inr later))
      (clean_store D c (at C (Heap w)) x (stored w (inl refl)) clean)
  run_clean D (Logged w x ∷ trace) n heap c stored clean =
      let c5 : Cache = apply (apply (apply
      (apply (apply c (Store (at C (RecordWord n)) (pos w)))
      (Store (at C (RecordOld n)) (heap w))) (Store (at C (RecordStamp n)) (pos (suc a))))
      (Flush (6 + n))) Fence in
      run_clean D trace (suc n) _ (apply c5 (Store (at C (Heap w)) x)) (λ u later.
      stored u (inr later)) (clean_store D c5 (at C (Heap w)) x (stored w (inl refl))
      (log_clean D n w (heap w) c clean))

  flush_rest : (ls : List ℕ) (rest : List CacheEvent) (c : Cache) → Clean (λ l. IsIn l ls) c
      → ((d : Cache) → Clean Nowhere d → IsAtRest (play d rest))
      → IsAtRest (play c (flush_all ls rest))
  flush_rest [] rest c clean next = next c clean
  flush_rest (k ∷ ks) rest c clean next =
      flush_rest ks rest (apply c (Flush k))
      (clean_flush (λ l. IsIn l (k ∷ ks)) (λ l. IsIn l ks) c k (λ l h. h) clean) next

  pub retire_rest : (k : ℕ) (value : ℤ) (c : Cache) → IsAtRest c →
      IsAtRest (play c (retire_events value (pos k) (pos (suc a))))
  unfolding retire_events
  retire_rest k value c rest =
      let D : ℕ → Type 0 = λ l. l ≡ 2 in
      let c1 : Cache = apply c (Store (at C Last) value) in
      let c2 : Cache = apply c1 (Store (at C Done) (pos k)) in
      let c3 : Cache = apply c2 (Store (at C Attempt) (pos (suc a))) in
      let m0 : Clean D c = clean_more Nowhere D c (λ l none. absurd none) (rest_clean c rest) in
      let m1 : Clean D c1 = clean_store D c (at C Last) value refl m0 in
      let m2 : Clean D c2 = clean_store D c1 (at C Done) (pos k) refl m1 in
      close 2 c3 (clean_store D c2 (at C Attempt) (pos (suc a)) refl m2)

  pub run_rest : (k : ℕ) (heap : ℕ → ℤ) (value : ℤ) (trace : List Entry) (c : Cache) → IsAtRest c →
      IsAtRest (play c (due_run z a k heap (Halted value) trace))
  run_rest k heap value trace c rest =
      let D : ℕ → Type 0 = λ l. IsIn l (lines_of z [] trace) in
      let clean : Clean D c = clean_more Nowhere D c (λ l none. absurd none) (rest_clean c rest) in
      let ran : Clean D (play c (run_events z a 0 heap trace)) =
      run_clean D trace 0 heap c (λ w stored. stored_listed z trace w stored) clean in
      subst IsAtRest
      (sym (play_append c (run_events z a 0 heap trace)
      (end_events z a k heap (Halted value) trace)))
      (flush_rest (lines_of z [] trace) (Fence ∷ retire_events value (pos k) (pos (suc a)))
      (play c (run_events z a 0 heap trace)) ran
      (λ d clean_d. retire_rest k value (apply d Fence) (fence_rest d clean_d)))

  -- the seal

  words_clean : (D : ℕ → Type 0) (word : ℕ → ℤ) (n k m : ℕ) (rest : List CacheEvent) (c : Cache)
      → k + n ≡ m → ((j : ℕ) → j < m → D (line_of C (Argument j))) → Clean D c
      → ((d : Cache) → Clean D d → IsAtRest (play d rest))
      → IsAtRest (play c (store_words C word k n rest))
  words_clean D word zero k m rest c sum lines clean next = next c clean
  words_clean D word (suc n) k m rest c sum lines clean next =
      words_clean D word n (suc k) m rest (apply c (Store (at C (Argument k)) (word k)))
      (omega arith) lines (clean_store D c (at C (Argument k)) (word k) (lines k (omega arith))
      clean) next

  lines_clean : (n l : ℕ) (rest : List CacheEvent) (c : Cache)
      → Clean (λ k. (l ≤ k) × (k < l + n)) c
      → ((d : Cache) → Clean Nowhere d → IsAtRest (play d rest))
      → IsAtRest (play c (flush_from l n rest))
  lines_clean zero l rest c clean next =
      next c (clean_more (λ k. (l ≤ k) × (k < l + 0)) Nowhere c (λ k h. omega arith) clean)
  lines_clean (suc n) l rest c clean next =
      lines_clean n (suc l) rest (apply c (Flush l))
      (clean_flush (λ k. (l ≤ k) × (k < l + suc n)) (λ k. (suc l ≤ k) × (k < suc l + n)) c l
      (λ k h. ⊎_elim (λ (e : k ≡ l). inl e) (λ (ne : k ≢ l). inr (omega arith)) (cases_eq k l))
      clean)
      next

  pub seal_rest : (call : Call) (rest : List CacheEvent) (c : Cache) → IsAtRest c →
      ((d : Cache) → IsAtRest d → IsAtRest (play d rest)) →
      IsAtRest (play c (seal_walk C call rest))
  seal_rest call rest c at_rest next =
      let D : ℕ → Type 0 = λ k. (3 ≤ k) × (k < 3 + (length call.args / 8 + 1)) in
      let five : ℕ → Type 0 = λ l. l ≡ 5 in
      let tail : List CacheEvent = Fence ∷ Store (at C Seal) (pos (suc call.done)) ∷ Flush 5
      ∷ Fence ∷ rest in
      words_clean D (call_word call) (suc (length call.args)) 0 (suc (length call.args))
      (flush_from 3 (length call.args / 8 + 1) tail) c (omega arith) (λ j lt. omega arith)
      (clean_more Nowhere D c (λ l none. absurd none) (rest_clean c at_rest))
      (λ d clean. lines_clean (length call.args / 8 + 1) 3 tail d clean
      (λ e clean_e.
      let e1 : Cache = apply e Fence in
      let e2 : Cache = apply e1 (Store (at C Seal) (pos (suc call.done))) in
      let m1 : Clean five e1 = clean_more Nowhere five e1 (λ l none. absurd none)
      (rest_clean e1 (fence_rest e clean_e)) in
      next (apply (apply e2 (Flush 5)) Fence)
      (close 5 e2 (clean_store five e1 (at C Seal) (pos (suc call.done)) refl m1))))

  -- restore and reset

  pub reset_rest : (rest : List CacheEvent) (c : Cache) → IsAtRest c →
      ((d : Cache) → IsAtRest d → IsAtRest (play d rest)) → IsAtRest (play c (reset_walk C a rest))
  reset_rest rest c at_rest next =
      let D : ℕ → Type 0 = λ l. l ≡ 2 in
      let c1 : Cache = apply c (Store (at C Attempt) (pos (suc a))) in
      next (apply (apply c1 (Flush 2)) Fence)
      (close 2 c1 (clean_store D c (at C Attempt) (pos (suc a)) refl
      (clean_more Nowhere D c (λ l none. absurd none) (rest_clean c at_rest))))

  -- the logs' own lists

  pub due_seal_rest : (call : Call) (rest : List CacheEvent) (c : Cache) → IsAtRest c →
      ((d : Cache) → IsAtRest d → IsAtRest (play d rest)) →
      IsAtRest (play c (due_seal call ++ rest))
  due_seal_rest call rest c at_rest next =
      subst (λ (es : List CacheEvent). IsAtRest (play c es)) (sym (seal_same z call rest))
      (seal_rest call rest c at_rest next)

  back_clean : (o : Option ℕ) (x : ℤ) (c : Cache) → Clean Nowhere c →
      Clean Nowhere (play c (back_at z o x))
  back_clean None x c clean = clean
  back_clean (Some w) x c clean =
      let D : ℕ → Type 0 = λ l. l ≡ line_of C (Heap w) in
      clean_flush D Nowhere (apply c (Store (at C (Heap w)) x)) (line_of C (Heap w)) (λ l e. inl e)
      (clean_store D c (at C (Heap w)) x refl
      (clean_more Nowhere D c (λ l none. absurd none) clean))

  backs_clean : (word old : ℕ → ℤ) (n : ℕ) (c : Cache) → Clean Nowhere c →
      Clean Nowhere (play c (back_events z word old n))
  backs_clean word old zero c clean = clean
  backs_clean word old (suc n) c clean =
      let first : List CacheEvent = back_at z (as_heap_word z (word n)) (old n) in
      subst (Clean Nowhere) (sym (play_append c first (back_events z word old n)))
      (backs_clean word old n (play c first) (back_clean (as_heap_word z (word n)) (old n) c clean))

  -- the records put back, and the fence
  pub back_rest : (word old : ℕ → ℤ) (n : ℕ) (c : Cache) → IsAtRest c →
      IsAtRest (play c (back_events z word old n ++ fence_after n))
  back_rest word old zero c at_rest = at_rest
  back_rest word old (suc n) c at_rest =
      subst IsAtRest (sym (play_append c (back_events z word old (suc n)) (Fence ∷ [])))
      (fence_rest (play c (back_events z word old (suc n)))
      (backs_clean word old (suc n) c (rest_clean c at_rest)))

  pub reset_at_rest : (c : Cache) → IsAtRest c → IsAtRest (play c (reset_events z a))
  reset_at_rest c at_rest =
      subst (λ (es : List CacheEvent). IsAtRest (play c es)) (sym (reset_same z a []))
      (reset_rest [] c at_rest (λ d rest. rest))

-- one list after another
pub after_rest : (es fs : List CacheEvent) (c : Cache) → IsAtRest (play c es) →
    ((d : Cache) → IsAtRest d → IsAtRest (play d fs)) → IsAtRest (play c (es ++ fs))
after_rest es fs c first next = subst IsAtRest (sym (play_append c es fs)) (next (play c es) first)

-- the word has a record
abbrev Named : Records → ℕ → Type 0
Named r u = (j : ℕ) × (j < r.n) × (r.word j ≡ pos u)

named_more : (r : Records) (w u : ℕ) (o : ℤ) → Named r u → Named (with_record r w o) u
named_more r w u o h =
    (h.0, omega (arith, h.1), put_other r.word r.n h.0 (pos w) (let lt = h.1 in omega arith) ∙ h.2)

named_new : (r : Records) (w : ℕ) (o : ℤ) → Named (with_record r w o) w
named_new r w o = (r.n, omega arith, put_same r.word r.n (pos w))

-- each word that the run stores has a record, if it is in E
named_all : (C H : ℕ) (E W : ℕ → Type 0) (trace : List Entry) (r : Records) (heap : ℕ → ℤ)
    (stored : ℕ → Type 0) → ((w : ℕ) → W w → E w) →
    IsTrace C H E W r.n stored trace → ((u : ℕ) → stored u → Named r u) → (u : ℕ) → stored u
    ⊎ IsStored u trace → Named (records_after r heap trace) u
named_all C H E W [] r heap stored inputs is has u h =
    ⊎_elim (λ st. has u st) (λ none. absurd none) h
named_all C H E W (Plain w x ∷ trace) r heap stored inputs is has u h =
    named_all C H E W trace r (put heap w x)
    (λ v. (v ≡ w) ⊎ stored v) inputs is.3
    (λ v before. ⊎_elim (λ (e : v ≡ w). has v (subst stored (sym e) (is.2 (inputs w is.0))))
    (λ st. has v st) before)
    u (⊎_elim (λ st. inl (inr st))
    (λ there. ⊎_elim (λ e. inl (inl e)) (λ later. inr later) there) h)
named_all C H E W (Logged w x ∷ trace) r heap stored inputs is has u h =
    named_all C H E W trace (with_record r w (heap w)) (put heap w x) (λ v. (v ≡ w) ⊎ stored v)
    inputs is.3
    (λ v before. ⊎_elim
    (λ (e : v ≡ w). subst (λ (t : ℕ). Named (with_record r w (heap w)) t) (sym e)
    (named_new r w (heap w))) (λ st. named_more r w v (heap w) (has v st)) before)
    u (⊎_elim (λ st. inl (inr st))
    (λ there. ⊎_elim (λ e. inl (inl e)) (λ later. inr later) there) h)

module _ (z : Sizes) (a : ℕ) where
  abbrev L : Layout
  L = pool_of z

  -- the lines of the first m records
  abbrev Lines : (ℕ → ℤ) → ℕ → ℕ → Type 0
  Lines word m l = (j : ℕ) × (j < m) × (l ≡ line_of L (Heap (nat_abs (word j))))

  restore_clean : (word old : ℕ → ℤ) (n : ℕ) (rest : List CacheEvent) (c : Cache) →
      Clean (Lines word n) c → ((d : Cache) → Clean Nowhere d → IsAtRest (play d rest)) →
      IsAtRest (play c (restore_walk L word old n rest))
  restore_clean word old zero rest c clean next =
      next c (clean_more (Lines word 0) Nowhere c (λ l h. let lt = h.1 in omega arith) clean)
  restore_clean word old (suc n) rest c clean next =
      let p : ℕ = at L (Heap (nat_abs (word n))) in
      restore_clean word old n rest
      (apply (apply c (Store p (old n))) (Flush (line_of L (Heap (nat_abs (word n))))))
      (clean_flush (Lines word (suc n)) (Lines word n) (apply c (Store p (old n)))
      (line_of L (Heap (nat_abs (word n))))
      (λ l h. ⊎_elim
      (λ (e : h.0 ≡ n). inl (h.2 ∙ ap (λ (i : ℕ). line_of L (Heap (nat_abs (word i)))) e))
      (λ (ne : h.0 ≢ n). inr (h.0, (let lt = h.1 in omega arith), h.2))
      (cases_eq h.0 n))
      (clean_store (Lines word (suc n)) c p (old n) (n, omega arith, refl) clean))
      next

  -- the run of a trace that stores a word, and its undo
  some_rest : (E W : ℕ → Type 0) (k : ℕ) (heap : ℕ → ℤ) (trace : List Entry) (last : ℤ)
      (c : Cache) (first : ℕ) → IsStored first trace → ((w : ℕ) → W w → E w) →
      IsTrace z.records (heap_words z) E W 0 (λ w. ⊥) trace → IsAtRest c →
      IsAtRest (play c (due_run z a k heap (Undone last) trace))
  some_rest E W k heap trace last c first there inputs is rest =
      let r : Records = records_after no_records heap trace in
      let events : List CacheEvent = run_events z a 0 heap trace in
      let named : (u : ℕ) → IsStored u trace → Named r u =
      λ u there. named_all z.records (heap_words z) E W trace no_records heap (λ w. ⊥) inputs is
      (λ v none. absurd none) u (inr there) in
      let clean : Clean (Lines r.word r.n) c =
      clean_more Nowhere (Lines r.word r.n) c (λ l none. absurd none) (rest_clean c rest) in
      let ran : Clean (Lines r.word r.n) (play c events) =
      run_clean z a (Lines r.word r.n) trace 0 heap c
      (λ w there. let h = named w there in
      (h.0, h.1, sym (ap (λ (x : ℤ). line_of L (Heap (nat_abs x))) h.2))) clean in
      subst IsAtRest (sym (play_append c events (undo_events z a k r last)))
      (go r (named first there) (all_inside z E W trace heap is) r.n refl (play c events) ran)
    where
      tail : List CacheEvent
      tail = retire_events last (pos k) (pos (suc a))

      go : (r : Records) → Named r first → AreInHeap z r.word r.n → (m : ℕ) → r.n ≡ m →
          (d : Cache) →
          Clean (Lines r.word r.n) d →
          IsAtRest (play d ((back_events z r.word r.old m ++ fence_after m) ++ tail))
      go r has inside zero e d clean = let lt = has.1 in absurd (omega arith)
      go r has inside (suc m) e d clean =
          subst (λ (es : List CacheEvent). IsAtRest (play d es))
          (sym (backs_same z r.word r.old m tail (λ j lt. inside j (omega arith))))
          (restore_clean r.word r.old (suc m) (Fence ∷ tail) d
          (subst (λ (i : ℕ). Clean (Lines r.word i) d) e clean)
          (λ b at_fence. retire_rest z a k last (apply b Fence) (fence_rest b at_fence)))

  undone_rest : (E W : ℕ → Type 0) (k : ℕ) (heap : ℕ → ℤ) (trace : List Entry) (last : ℤ)
      (c : Cache) → ((w : ℕ) → W w → E w) →
      IsTrace z.records (heap_words z) E W 0 (λ w. ⊥) trace → IsAtRest c →
      IsAtRest (play c (due_run z a k heap (Undone last) trace))
  undone_rest E W k heap [] last c inputs is rest = retire_rest z a k last c rest
  undone_rest E W k heap (e ∷ trace) last c inputs is rest =
      some_rest E W k heap (e ∷ trace) last c (word_of_entry e) (inl refl) inputs is rest

-- the run and its end, where it retires the call
module _ (z : Sizes) (a k : ℕ) (E W : ℕ → Type 0) (heap : ℕ → ℤ) (trace : List Entry) where
  end_rest : (pool : Pool) → pool.sizes ≡ z → (result : Result) → IsRun pool E W result trace →
      Retires result → (c : Cache) → IsAtRest c →
      IsAtRest (play c (due_run z a k heap result trace))
  end_rest pool same (Halted value) is retires c rest = run_rest z a k heap value trace c rest
  end_rest pool same (Trapped trap) is retires c rest = absurd retires
  end_rest pool same (Undone last) is retires c rest =
      undone_rest z a E W k heap trace last c (is.undone_is last refl)
      (subst (λ (s : Sizes). IsTrace s.records (heap_words s) E W 0 (λ w. ⊥) trace) same
      is.trace_is) rest

module _ (pool : Pool) (E W : ℕ → Type 0) (result : Result) (trace : List Entry)
    (is : IsRun pool E W result trace) (retires : Retires result) where
  pub call_rest : (a : ℕ) (call : Call) (heap : ℕ → ℤ) (c : Cache) → IsAtRest c →
      IsAtRest (play c (due_call pool.sizes a call heap result trace))
  call_rest a call heap c at_rest =
      due_seal_rest pool.sizes a call (due_run pool.sizes a (suc call.done) heap result trace) c
      at_rest (λ d rest.
      end_rest pool.sizes a (suc call.done) E W heap trace pool refl result is retires d rest)

  pub redo_rest : (a k : ℕ) (image : Words) (n : ℕ) (c : Cache) → IsAtRest c →
      IsAtRest (play c (redo_events pool.sizes a k image n result trace))
  redo_rest a k image zero c at_rest =
      end_rest pool.sizes a k E W (restored (pool_of pool.sizes) a image) trace pool refl result is
      retires c at_rest
  redo_rest a k image (suc n) c at_rest =
      let z : Sizes = pool.sizes in
      let h : ℕ → ℤ = restored (pool_of z) a image in
      let again : List CacheEvent = due_run z (suc a) k h result trace in
      after_rest (first_events z image (suc n)) (reset_events z a ++ again) c
      (back_rest z a (word_in_record z image) (old_in_record z image) (suc n) c at_rest)
      (λ d rest.
      after_rest (reset_events z a) again d (reset_at_rest z a d rest)
      (λ e rest_e. end_rest z (suc a) k E W h trace pool refl result is retires e rest_e))
