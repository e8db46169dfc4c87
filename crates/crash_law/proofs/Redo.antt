-- The whole recovery of an image in which a call is owed.
use Rattle.pool_layout.specs.Sizes.{heap_words}
use Rattle.std.proofs.Common.{length, ◌≡◌, ◌⊎◌, inl, inr, ⊎_elim, ℕ, zero, suc, ◌^◌, ◌<◌, ◌≤◌, List}
use Rattle.std.proofs.Common.{◌∷◌, ◌++◌, Option, Some, None, ℤ, pos, refl, sym, ap, ◌∙◌, subst}
use Rattle.std.proofs.Common.{arith, unwrap_or}
use Rattle.cache_model.specs.Event.{CacheEvent, Fence}
use Rattle.cache_model.specs.Cache.{Words, Cache, view}
use Rattle.cache_model.specs.Image.{Images, HasOne}
use Rattle.pool_layout.specs.declared.places.Place.{Place}
use Rattle.pool_layout.specs.declared.places.Place.TheVariants.{Super, Last, Done, Attempt, Mark}
use Rattle.pool_layout.specs.declared.places.Place.TheVariants.{Argument, Seal, RecordWord}
use Rattle.pool_layout.specs.declared.places.Place.TheVariants.{RecordOld, RecordStamp, Heap, Spare}
use Rattle.pool_layout.specs.declared.places.Place.TheVariants.{RecordSpare}
use Rattle.pool_layout.specs.declared.limits.Sizes.{Sizes}
use Rattle.pool_layout.specs.declared.places.Layout.{Layout}
use Rattle.pool_layout.specs.declared.places.TheConstants.{ARGUMENTS}
use Rattle.pool_layout.specs.Places.{at, IsPlace, pool_of}
use Rattle.pool_layout.specs.Log.{count}
use Rattle.pool_layout.specs.Restored.{restored, undone}
use Rattle.crash_law.specs.Pools.{Call, Owed, IsDone}
use Rattle.crash_law.specs.Due.{Entry, Result, Halted, Trapped, Undone, heap_after, due_run}
use Rattle.crash_law.specs.Due.{redo_events}
use Rattle.clobber_log.specs.Reset.{reset_events}
use Rattle.clobber_log.specs.Restore.{first_events}
use Rattle.clobber_log.proofs.Backwards.{undone_same}
use Rattle.crash_law.proofs.Walks.{restore_walk, reset_walk, reset_same, first_same}
use Rattle.crash_law.specs.Law.{IsRun, IsEnd, IsEnded, KeepsLast, CutRedo}
use Rattle.cache_model.specs.inside.During.{Through}
use Rattle.cache_model.proofs.During.{through_more, through_during, through_end}
use Rattle.crash_law.proofs.Held.{cover_more, cover_view}
use Rattle.pool_layout.proofs.Records.{LogIs, log_is}
use Rattle.pool_layout.specs.Good.{Pool, Good}
use Rattle.crash_law.proofs.Records.{found, found_zero, nothing, undone_found}
use Rattle.crash_law.proofs.Fine.{Fine, ok, Setting, owing, IsFine, StampIs}
use Rattle.crash_law.proofs.Run.{Running, Recorded, running}
use Rattle.crash_law.proofs.Seal.{one_cover}
use Rattle.crash_law.proofs.Restore.{restoring, restore_part, reset_part}
use Rattle.crash_law.proofs.Whole.{same_after, stored_or_not, stored_is, OwedOrEnd, due_run_part}

good_same : (pool : Pool) (d : ℕ) (h h' : ℕ → ℤ) (image : Words)
    → ((w : ℕ) → w < heap_words pool.sizes → h w ≡ h' w) → Good pool d h image
    → Good pool d h' image
good_same pool d h h' image same g = record {
  super = g.super;
  mark = g.mark;
  done = g.done;
  done_fits = g.done_fits;
  unsealed = g.unsealed;
  attempt = g.attempt;
  attempt_is = g.attempt_is;
  attempt_fits = g.attempt_fits;
  log = g.log;
  heap = λ w lt. g.heap w lt ∙ same w lt;
}

done_same : (pool : Pool) (d : ℕ) (h h' : ℕ → ℤ) (x : ℤ) (image : Words)
    → ((w : ℕ) → w < heap_words pool.sizes → h w ≡ h' w) → IsDone pool d h x image
    → IsDone pool d h' x image
done_same pool d h h' x image same is = record {
  good = good_same pool d h h' image same is.good;
  last_is = is.last_is;
  seal_is = is.seal_is;
}

-- Heaps that agree in the pool have the same end: those after the run, and where it is undone those
-- before it.
module _ (pool : Pool) (call : Call) (g g' h h' : ℕ → ℤ)
    (same : (w : ℕ) → w < heap_words pool.sizes → h w ≡ h' w) where
  end_same : (result : Result) (image : Words)
      → ((last : ℤ) → result ≡ Undone last → (w : ℕ) → w < heap_words pool.sizes → g w ≡ g' w)
      → IsEnd pool call g h result image → IsEnd pool call g' h' result image
  end_same (Halted value) image before is =
      done_same pool (suc call.done) h h' value image same is
  end_same (Trapped trap) image before is = is
  end_same (Undone last) image before is =
      done_same pool (suc call.done) g g' last image (before last refl) is

  ended_same : (result : Result) (image : Words)
      → ((last : ℤ) → result ≡ Undone last → (w : ℕ) → w < heap_words pool.sizes → g w ≡ g' w)
      → IsEnded pool call g h result image → IsEnded pool call g' h' result image
  ended_same (Halted value) image before is = record {
    done = done_same pool (suc call.done) h h' value image same is.done;
    empty = is.empty;
  }
  ended_same (Trapped trap) image before is = is
  ended_same (Undone last) image before is = record {
    done = done_same pool (suc call.done) g g' last image (before last refl) is.done;
    empty = is.empty;
  }

-- the whole recovery of an image in which a call is owed
module _ (pool : Pool) (call : Call) (E W : ℕ → Type 0) (h : ℕ →
    ℤ) (result : Result) (trace : List Entry) (given_fits : length call.args ≤ ARGUMENTS)
    (is : IsRun pool E W result trace) (one : Words)
    (owed : Owed pool call E W h (KeepsLast result) one) (n : ℕ)
    (counted : count (pool_of pool.sizes) owed.attempt one ≡ n) where
  abbrev z : Sizes
  z = pool.sizes

  abbrev C : Layout
  C = pool_of pool.sizes

  abbrev H : ℕ
  H = heap_words pool.sizes

  abbrev a : ℕ
  a = owed.attempt

  abbrev r : ℕ → ℤ
  r = restored C a one

  abbrev words : ℕ → ℤ
  words = λ j. one (at C (RecordWord j))

  abbrev olds : ℕ → ℤ
  olds = λ j. one (at C (RecordOld j))

  abbrev heap_now : ℕ → ℤ
  heap_now = λ w. one (at C (Heap w))

  abbrev redo : Setting
  redo = record {
    pool = pool;
    call = call;
    E = E;
    W = W;
    h = h;
    r = r;
    kept = KeepsLast result;
    done_fits = owed.done_fits;
    given_fits = given_fits;
    from = owed.restores;
  }

  log : LogIs C a n one
  log = log_is C a n one owed.log counted

  r_undone : (w : ℕ) → r w ≡ undone words olds n heap_now w
  unfolding restored
  r_undone w = ap (λ (m : ℕ). undone words olds m heap_now w) counted

  r_is : (w : ℕ) → r w ≡ unwrap_or (found words olds n w) (heap_now w)
  r_is w = r_undone w ∙ undone_found words olds n heap_now w

  abbrev start : Fine
  start = owing redo a n words olds (λ w x. w < H → x ≡ heap_now w)

  start_fine : IsFine C start one
  start_fine (Super k) place = λ lt. owed.super k lt
  start_fine Last place = owed.last_is
  start_fine Done place = owed.done
  start_fine Attempt place = owed.attempt_is
  start_fine Mark place = owed.mark
  start_fine (Spare k) place = tt
  start_fine (Argument k) place = λ le. owed.call_is k le
  start_fine Seal place = owed.sealed
  start_fine (RecordWord j) place = λ lt. refl
  start_fine (RecordOld j) place = λ lt. refl
  start_fine (RecordStamp j) place = (λ lt. log.valid_stamp j lt, λ ge. log.other_stamp j place ge)
  start_fine (RecordSpare j k) place = tt
  start_fine (Heap w) place = λ lt. refl

  no_record : (w : ℕ) → found words olds n w ≡ None → heap_now w ≡ r w
  no_record w absent = sym (r_is w ∙ ap (λ (o : Option ℤ). unwrap_or o (heap_now w)) absent)

  recorded : (w : ℕ) → w < H → (y : ℤ) → found words olds n w ≡ Some y → y ≡ r w
  recorded w lt y there = sym (r_is w ∙ ap (λ (o : Option ℤ). unwrap_or o (heap_now w)) there)

  in_heap : (j : ℕ) → j < n → (u : ℕ) × (words j ≡ pos u) × (u < H)
  in_heap j lt = owed.in_heap j (let e = counted in omega arith)

  abbrev after_r : ℕ → ℤ
  after_r = heap_after r trace

  abbrev after_h : ℕ → ℤ
  after_h = heap_after h trace

  agree : (w : ℕ) → w < H → after_r w ≡ after_h w
  agree w lt = same_after trace r h w (λ absent.
      owed.restores w lt (inl (λ over. absent (is.all_stored w over))))

  -- where the run is undone each word is restored
  agree_first : (last : ℤ) → result ≡ Undone last → (w : ℕ) → w < H → r w ≡ h w
  agree_first last undone w lt = owed.restores w lt (⊎_elim
      (λ there. inr (is.undone_is last undone w
      (stored_is z.records H E W trace 0 (λ u. ⊥) is.trace_is w there)))
      (λ absent. inl (λ over. absurd (absent (is.all_stored w over))))
      (stored_or_not trace w))

  abbrev OwedOrEnd' : Words → Type 0
  OwedOrEnd' image = Owed pool call E W h (KeepsLast result) image
      ⊎ IsEnd pool call h after_h result image

  abbrev Ended : Words → Type 0
  Ended = IsEnded pool call h after_h result

  from_there : (image : Words) → Owed pool call E W h (KeepsLast result) image
      ⊎ IsEnd pool call r after_r result image → OwedOrEnd' image
  from_there image (inl o) = inl o
  from_there image (inr e) =
      inr (end_same pool call r h after_r after_h agree result image agree_first e)

  -- after restoring and reset, or if there is nothing to restore
  pub run_again : (b : ℕ) (b_fits : b ≤ 2 ^ 62) (c : Cache) →
      Running redo b b_fits 0 nothing nothing r c →
      Through (Images OwedOrEnd') (Images Ended) c
      (due_run z b (suc call.done) r result trace)
  run_again b b_fits c run =
      through_more (Images (OwedOrEnd redo b b_fits result (λ x k. k) after_r))
      (Images OwedOrEnd') (Images (IsEnded pool call r after_r result)) (Images Ended) c
      (due_run z b (suc call.done) r result trace)
      (λ d q image im. from_there image (q image im)) (λ d q image im.
      ended_same pool call r h after_r after_h agree result image agree_first (q image im))
      (due_run_part redo b b_fits result (λ x k. k) trace c is run)

  one_heap : (c : Cache) → HasOne c one → (w : ℕ) → w < H → view c (at C (Heap w)) ≡ heap_now w
  one_heap c only w lt = cover_view C (ok start) c (one_cover C start c one only start_fine)
      (Heap w) lt lt

  -- no record

  to_running : (a_fits : a ≤ 2 ^ 62) → n ≡ 0 → (q : Place) → IsPlace C q → (x : ℤ) → ok start q x
      → ok (running redo a a_fits 0 nothing nothing) q x
  to_running a_fits e (RecordWord j) place x fine = λ lt. absurd (omega arith)
  to_running a_fits e (RecordOld j) place x fine = λ lt. absurd (omega arith)
  to_running a_fits e (RecordStamp j) place x fine = subst (λ (m : ℕ). StampIs a m j x) e fine
  to_running a_fits e (Heap w) place x fine =
      λ lt. inl (fine lt ∙ no_record w (found_zero words olds n w e))
  to_running a_fits e q place x fine = fine

  no_facts : (a_fits : a ≤ 2 ^ 62) → Recorded redo a a_fits 0 nothing nothing
  no_facts a_fits = record {
    room = omega arith;
    words = λ j lt. absurd (omega arith);
    oldest = λ w lt input y there. absurd (cc (there, found_zero nothing nothing 0 w refl));
  }

  pub nothing_to_restore : (c : Cache) → HasOne c one → n ≡ 0 →
      Through (Images OwedOrEnd') (Images Ended) c
      (due_run z a (suc call.done) r result trace)
  nothing_to_restore c only e =
      let a_fits : a ≤ 2 ^ 62 = owed.attempt_fits in
      run_again a a_fits c (record {
        facts = no_facts a_fits;
        cover = cover_more C (ok start) (ok (running redo a a_fits 0 nothing nothing)) c
            (to_running a_fits e) (one_cover C start c one only start_fine);
        heap_is = λ w lt. one_heap c only w lt ∙ no_record w (found_zero words olds n w e);
      })

  -- some records

  to_restoring : (q : Place) → IsPlace C q → (x : ℤ) → ok start q x
      → ok (restoring redo a owed.attempt_fits n words olds log.room in_heap recorded) q x
  to_restoring (Heap w) place x fine = λ lt absent. fine lt ∙ no_record w absent
  to_restoring q place x fine = fine

  pub restore_first : (c : Cache) → HasOne c one → a < 2 ^ 62 →
      Through (Images OwedOrEnd') (Images Ended) c
      (restore_walk C words olds n
      (Fence ∷ reset_walk C a (due_run z (suc a) (suc call.done) r result trace)))
  restore_first c only lt62 =
      let a_fits : a ≤ 2 ^ 62 = owed.attempt_fits in
      let Q : Cache → Type 0 = Images OwedOrEnd' in
      let F : Cache → Type 0 = Images Ended in
      let inside : (d : Cache) → Images (Owed pool call E W h (KeepsLast result)) d → Q d =
      λ d q image im. inl (q image im) in
      let rest : List CacheEvent = due_run z (suc a) (suc call.done) r result trace in
      let next_fits : suc a ≤ 2 ^ 62 = omega arith in
      restore_part redo a a_fits n words olds log.room in_heap recorded Q F inside n
      (Fence ∷ reset_walk C a rest) c (omega arith)
      (cover_more C (ok start) (ok (restoring redo a a_fits n words olds log.room in_heap recorded))
      c to_restoring (one_cover C start c one only start_fine))
      (λ w lt. undone_same words olds n (λ u. view c (at C (Heap u))) heap_now w
      (one_heap c only w lt) ∙ sym (r_undone w))
      (λ j low high. absurd (omega arith))
      (λ d cover new ready. reset_part redo a a_fits n words olds log.room in_heap recorded
      next_fits Q F inside rest d cover new ready
      (λ e run. run_again (suc a) next_fits e run))

  -- the same by the log's own lists
  pub back_first : (c : Cache) → HasOne c one → (m : ℕ) → n ≡ suc m → a < 2 ^ 62 →
      Through (Images OwedOrEnd') (Images Ended) c
      (first_events z one (suc m)
      ++ (reset_events z a ++ due_run z (suc a) (suc call.done) r result trace))
  back_first c only m e lt62 =
      let again : List CacheEvent = due_run z (suc a) (suc call.done) r result trace in
      subst (λ (es : List CacheEvent).
      Through (Images OwedOrEnd') (Images Ended) c es)
      (ap (λ (k : ℕ). restore_walk C words olds k (Fence ∷ reset_walk C a again)) e
      ∙ sym (first_same z one m (reset_walk C a again) (λ j lt. in_heap j (omega arith)))
      ∙ ap (λ (es : List CacheEvent). first_events z one (suc m) ++ es)
      (sym (reset_same z a again)))
      (restore_first c only lt62)

-- the recovery of a sealed image
pub cut_redo : (pool : Pool) (call : Call) (E W : ℕ → Type 0) (h : ℕ →
    ℤ) (result : Result) (trace : List Entry) → length call.args ≤ ARGUMENTS →
    IsRun pool E W result trace → (one : Words)
    (owed : Owed pool call E W h (KeepsLast result) one) (n : ℕ) →
    count (pool_of pool.sizes) owed.attempt one ≡ n → (0 < n → owed.attempt < 2 ^ 62) →
    (c : Cache) → HasOne c one → CutRedo pool call E W h result trace c one owed.attempt n
cut_redo pool call E W h result trace given_fits is one owed zero counted room c only =
    let all = nothing_to_restore pool call E W h result trace given_fits is one owed zero counted c
    only refl in
    let Q : Words → Type 0 = λ image. Owed pool call E W h (KeepsLast result) image
    ⊎ IsEnd pool call h (heap_after h trace) result image in
    let F : Words → Type 0 = IsEnded pool call h (heap_after h trace) result in
    let events = redo_events pool.sizes owed.attempt (suc call.done) one zero result trace in (
      through_during (Images Q) (Images F) c events all,
      through_end (Images Q) (Images F) c events all,
    )
cut_redo pool call E W h result trace given_fits is one owed (suc m) counted room c only =
    let all =
    back_first pool call E W h result trace given_fits is one owed (suc m) counted c only m refl
    (room (omega arith)) in
    let Q : Words → Type 0 = λ image. Owed pool call E W h (KeepsLast result) image
    ⊎ IsEnd pool call h (heap_after h trace) result image in
    let F : Words → Type 0 = IsEnded pool call h (heap_after h trace) result in
    let events = redo_events pool.sizes owed.attempt (suc call.done) one (suc m) result trace in (
      through_during (Images Q) (Images F) c events all,
      through_end (Images Q) (Images F) c events all,
    )
