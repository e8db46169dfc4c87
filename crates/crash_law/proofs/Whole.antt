-- The whole call, and the whole recovery.
use Rattle.std.proofs.Common.{length, ◌≡◌, ◌≢◌, ◌⊎◌, inl, inr, ⊎_elim, ℕ, suc, ◌^◌, ◌≤◌, List}
use Rattle.std.proofs.Common.{[], ◌∷◌, ℤ, pos, refl, sym, ◌∙◌, subst, arith}
use Rattle.std.proofs.lemmas.Bool.{cases_eq}
use Rattle.cache_model.specs.Cache.{Words, Cache, put}
use Rattle.cache_model.specs.Event.{CacheEvent}
use Rattle.cache_model.specs.Play.{play}
use Rattle.cache_model.specs.During.{during}
use Rattle.cache_model.specs.Image.{Images, HasOne}
use Rattle.pool_layout.specs.declared.places.Place.TheVariants.{Last}
use Rattle.pool_layout.specs.declared.limits.Sizes.{Sizes}
use Rattle.pool_layout.specs.declared.places.TheConstants.{ARGUMENTS}
use Rattle.pool_layout.specs.Places.{at, pool_of}
use Rattle.pool_layout.specs.Log.{count}
use Rattle.pool_layout.specs.Good.{Pool, Good}
use Rattle.crash_law.specs.Pools.{Call, Owed, IsBefore}
use Rattle.crash_law.specs.Due.{Entry, Plain, Logged, Result, Halted, Trapped, Undone, IsStored}
use Rattle.crash_law.specs.Due.{Records, no_records, records_after, run_events, heap_after}
use Rattle.crash_law.specs.Due.{word_of_entry, IsTrace, lines_of, end_events, due_run, due_call}
use Rattle.crash_law.specs.Law.{IsRun, IsEnd, IsEnded, IsCut, KeepsLast}
use Rattle.cache_model.proofs.Versions.{put_same, put_other}
use Rattle.cache_model.specs.inside.During.{Through}
use Rattle.cache_model.proofs.During.{through_append, through_more, through_of, through_during}
use Rattle.cache_model.proofs.During.{through_end}
use Rattle.crash_law.proofs.Held.{Cover}
use Rattle.crash_law.proofs.Records.{nothing}
use Rattle.crash_law.proofs.Fine.{ok, Setting, IsFine, at_rest}
use Rattle.crash_law.proofs.Run.{Running, Holding, run_part}
use Rattle.crash_law.proofs.Finish.{stored_listed, finish_part, trap_part}
use Rattle.crash_law.proofs.Undoing.{undo_part}
use Rattle.crash_law.proofs.Seal.{one_cover, good_fine, unsealed, due_seal_part}

-- heaps that differ only in stored words are equal after the trace
same_put : (h r : ℕ → ℤ) (u w : ℕ) (x : ℤ) → (w ≢ u → h w ≡ r w) → put h u x w ≡ put r u x w
same_put h r u w x agree = ⊎_elim
    (λ (e : w ≡ u). subst (λ (v : ℕ). put h u x v ≡ put r u x v) (sym e)
    (put_same h u x ∙ sym (put_same r u x)))
    (λ (ne : w ≢ u). put_other h u w x ne ∙ agree ne ∙ sym (put_other r u w x ne))
    (cases_eq w u)

pub same_after : (trace : List Entry) (h r : ℕ → ℤ) (w : ℕ) → ((IsStored w trace → ⊥) → h w ≡ r w)
    → heap_after h trace w ≡ heap_after r trace w
same_after [] h r w agree = agree (λ n. n)
same_after (Plain u x ∷ trace) h r w agree =
    same_after trace (put h u x) (put r u x) w (λ absent.
    same_put h r u w x (λ ne. agree (λ st. ⊎_elim ne absent st)))
same_after (Logged u x ∷ trace) h r w agree =
    same_after trace (put h u x) (put r u x) w (λ absent.
    same_put h r u w x (λ ne. agree (λ st. ⊎_elim ne absent st)))

-- a word is stored by the trace, or it isn't
pub stored_or_not : (trace : List Entry) (w : ℕ) → IsStored w trace ⊎ (IsStored w trace → ⊥)
stored_or_not [] w = inr (λ none. none)
stored_or_not (e ∷ trace) w = ⊎_elim (λ (same : w ≡ word_of_entry e). inl (inl same))
    (λ (ne : w ≢ word_of_entry e). ⊎_elim (λ later. inl (inr later))
    (λ absent. inr (λ h. ⊎_elim ne absent h)) (stored_or_not trace w))
    (cases_eq w (word_of_entry e))

pub stored_is : (C H : ℕ) (E W : ℕ → Type 0) (trace : List Entry) (n : ℕ) (stored : ℕ → Type 0) →
    IsTrace C H E W n stored trace → (w : ℕ) → IsStored w trace → W w
stored_is C H E W [] n stored is w none = absurd none
stored_is C H E W (Plain u x ∷ trace) n stored is w h = ⊎_elim
    (λ (same : w ≡ u). subst W (sym same) is.0)
    (λ later. stored_is C H E W trace n (λ v. (v ≡ u) ⊎ stored v) is.3 w later) h
stored_is C H E W (Logged u x ∷ trace) n stored is w h = ⊎_elim
    (λ (same : w ≡ u). subst W (sym same) is.0)
    (λ later. stored_is C H E W trace (suc n) (λ v. (v ≡ u) ⊎ stored v) is.3 w later) h

module _ (s : Setting) (a : ℕ) (a_fits : a ≤ 2 ^ 62) (result : Result)
    (keeps : (x : ℤ) → KeepsLast result x → s.kept x) where
  abbrev z : Sizes
  z = s.pool.sizes

  -- the end in the law of the run: owed, or the end from the heap that the run started with
  abbrev pub OwedOrEnd : (ℕ → ℤ) → Words → Type 0
  OwedOrEnd h' image = Owed s.pool s.call s.E s.W s.h s.kept image
      ⊎ IsEnd s.pool s.call s.r h' result image

-- the end of the run
end_part : (s : Setting) (a : ℕ) (a_fits : a ≤ 2 ^ 62) (result : Result)
    (keeps : (x : ℤ) → KeepsLast result x → s.kept x) (trace : List Entry) (c : Cache) →
    IsRun s.pool s.E s.W result trace →
    Holding s a a_fits (records_after no_records s.r trace) (heap_after s.r trace) c →
    Through (Images (OwedOrEnd s a a_fits result keeps (heap_after s.r trace)))
    (Images (IsEnded s.pool s.call s.r (heap_after s.r trace) result)) c
    (end_events s.pool.sizes a (suc s.call.done) s.r result trace)
end_part s a a_fits (Halted value) keeps trace c is run =
    let r : Records = records_after no_records s.r trace in
    finish_part s a a_fits r.n r.word r.old (heap_after s.r trace) value (keeps value tt) c
    (lines_of s.pool.sizes [] trace) run
    (λ w over. stored_listed s.pool.sizes trace w (is.all_stored w over))
end_part s a a_fits (Trapped trap) keeps trace c is run =
    let r : Records = records_after no_records s.r trace in
    trap_part s a a_fits r.n r.word r.old (heap_after s.r trace) trap c (is.trap_is trap refl) run
end_part s a a_fits (Undone last) keeps trace c is run =
    let r : Records = records_after no_records s.r trace in
    undo_part s a a_fits (is.undone_is last refl) r.n r.word r.old (heap_after s.r trace) last
    (keeps last refl) c run

module _ (s : Setting) (a : ℕ) (a_fits : a ≤ 2 ^ 62) (result : Result)
    (keeps : (x : ℤ) → KeepsLast result x → s.kept x) where
  -- the run and its end, from a cache with no valid record and with the heap r in view
  pub due_run_part : (trace : List Entry) (c : Cache) →
      IsRun s.pool s.E s.W result trace → Running s a a_fits 0 nothing nothing s.r c →
      Through (Images (OwedOrEnd s a a_fits result keeps (heap_after s.r trace)))
      (Images (IsEnded s.pool s.call s.r (heap_after s.r trace) result)) c
      (due_run s.pool.sizes a (suc s.call.done) s.r result trace)
  due_run_part trace c is run =
      let z : Sizes = s.pool.sizes in
      let events : List CacheEvent = run_events z a 0 s.r trace in
      let done = run_part s a a_fits trace no_records s.r (λ w. ⊥) c run (λ u none input.
      absurd none) is.trace_is in
      let O : Cache → Type 0 = Images (Owed s.pool s.call s.E s.W s.h s.kept) in
      let Q : Cache → Type 0 = Images (OwedOrEnd s a a_fits result keeps (heap_after s.r trace)) in
      let R : Cache → Type 0 =
      Holding s a a_fits (records_after no_records s.r trace) (heap_after s.r trace) in
      let ran : Through Q R c events =
      through_more O Q R R c events (λ d q image im. inl (q image im)) (λ d r. r)
      (through_of O R c events done.0 done.1) in
      through_append Q R (Images (IsEnded s.pool s.call s.r (heap_after s.r trace) result)) c
      events (end_events z a (suc s.call.done) s.r result trace) ran
      (λ d r. end_part s a a_fits result keeps trace d is r)

-- the whole call
module _ (pool : Pool) (call : Call) (E W : ℕ → Type 0) (h : ℕ → ℤ) (result : Result)
    (trace : List Entry) (done_fits : call.done ≤ 2 ^ 62)
    (given_fits : length call.args ≤ ARGUMENTS) (is : IsRun pool E W result trace) (last : ℤ)
    (keeps : KeepsLast result last) where
  setting : Setting
  setting = record {
    pool = pool;
    call = call;
    E = E;
    W = W;
    h = h;
    r = h;
    kept = KeepsLast result;
    done_fits = done_fits;
    given_fits = given_fits;
    from = λ w lt kept. refl;
  }

  abbrev Cut : Words → Type 0
  Cut = IsCut pool call E W h (heap_after h trace) last result

  seal_cut : (image : Words) → IsBefore pool call.done h last image
      ⊎ Owed pool call E W h (KeepsLast result) image → Cut image
  seal_cut image (inl before) = inl before
  seal_cut image (inr owed) = inr (inl owed)

  pub cut_call : (c : Cache) (one : Words) → one (at (pool_of pool.sizes) Last) ≡ last
      → HasOne c one → (g : Good pool call.done h one)
      → g.attempt ≤ 2 ^ 62 → count (pool_of pool.sizes) g.attempt one ≡ 0
      → during c (due_call pool.sizes g.attempt call h result trace) (Images Cut)
      × Images (IsEnded pool call h (heap_after h trace) result)
      (play c (due_call pool.sizes g.attempt call h result trace))
  unfolding setting
  cut_call c one is_last only g a_fits empty =
      let z = pool.sizes in
      let C = pool_of z in
      let a = g.attempt in
      let h' = heap_after h trace in
      let events = due_call z a call h result trace in
      let End : Words → Type 0 = IsEnded pool call h h' result in
      let start : Cover C (ok (unsealed setting a a_fits last keeps (λ w lt. refl))) c =
      one_cover C (unsealed setting a a_fits last keeps (λ w lt. refl)) c one only
      (subst (λ (x : ℤ). IsFine C (at_rest pool call.done h (omega arith) a 0 (λ y. y ≡ x)
      (λ y. y ≡ pos (suc call.done) → ⊥)) one) is_last
      (good_fine pool call.done h (omega arith) one g 0 empty)) in
      let all : Through (Images Cut) (Images End) c events =
      due_seal_part setting a a_fits last keeps (λ w lt. refl) (Images Cut) (Images End)
      (λ d q image im. seal_cut image (q image im)) c
      (due_run z a (suc call.done) h result trace) start
      (λ d run.
      through_more (Images (OwedOrEnd setting a a_fits result (λ x k. k) h')) (Images Cut)
      (Images End) (Images End) d (due_run z a (suc call.done) h result trace)
      (λ e q image im. inr (q image im)) (λ e q. q)
      (due_run_part setting a a_fits result (λ x k. k) trace d is run)) in (
        through_during (Images Cut) (Images End) c events all,
        through_end (Images Cut) (Images End) c events all,
      )
