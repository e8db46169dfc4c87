-- The number of events of a call that is undone.
use Rattle.std.proofs.Common.{◌∙◌, Option, ◌++◌, ◌≡◌, ℕ, zero, suc, ◌+◌, ◌*◌, List, [], ◌∷◌, length}
use Rattle.std.proofs.Common.{ℤ, pos, refl, true, IsTrue}
use Rattle.std.proofs.Common.{ap, arith, length-append}
use Rattle.cache_model.specs.Event.{CacheEvent}
use Rattle.cache_model.specs.Cache.{put}
use Rattle.pool_layout.specs.declared.limits.Sizes.{Sizes}
use Rattle.clobber_log.specs.Restore.{back_at, back_events, fence_after}
use Rattle.args_log.specs.Retire.{retire_events}
use Rattle.args_log.proofs.Lengths.{seal_length, retire_length}
use Rattle.crash_law.specs.Due.{Entry, Plain, Logged, Undone, Records, no_records, with_record}
use Rattle.crash_law.specs.Due.{records_after, run_events, undo_events, due_seal, due_run, due_call}
use Rattle.crash_law.specs.Law.{logged_in, fences_of, UndoneCountLaw}
use Rattle.crash_law.proofs.Walks.{AreInHeap, found_word}
use Rattle.crash_law.proofs.Inside.{all_inside}

count_run : (z : Sizes) (a : ℕ) (trace : List Entry) (n : ℕ) (heap : ℕ → ℤ) →
    length (run_events z a n heap trace) ≡ length trace + 5 * logged_in trace
count_run z a [] n heap = omega arith
count_run z a (Plain w x ∷ trace) n heap = let e = count_run z a trace n (put heap w x) in
    omega arith
count_run z a (Logged w x ∷ trace) n heap = let e = count_run z a trace (suc n) (put heap w x) in
    omega arith

count_records : (trace : List Entry) (r : Records) (heap : ℕ → ℤ) →
    (records_after r heap trace).n ≡ r.n + logged_in trace
count_records [] r heap = omega arith
count_records (Plain w x ∷ trace) r heap = count_records trace r (put heap w x)
count_records (Logged w x ∷ trace) r heap = let e =
    count_records trace (with_record r w (heap w)) (put heap w x) in omega arith

count_backs : (z : Sizes) (word old : ℕ → ℤ) (n : ℕ) → AreInHeap z word n →
    length (back_events z word old n) ≡ 2 * n
count_backs z word old zero inside = omega arith
count_backs z word old (suc n) inside =
    let u = inside n (omega arith) in
    let e = count_backs z word old n (λ j lt. inside j (omega arith)) in
    ap (λ (o : Option ℕ). length (back_at z o (old n) ++ back_events z word old n))
    (found_word z word n u.0 u.1 u.2) ∙ omega arith

count_fence : (n : ℕ) → length (fence_after n) ≡ fences_of n
count_fence zero = refl
count_fence (suc n) = refl

pub count_undone : UndoneCountLaw
count_undone z E W a call heap trace last is =
    let r : Records = records_after no_records heap trace in
    let back : List CacheEvent = back_events z r.word r.old r.n in
    let tail : List CacheEvent = retire_events last (pos (suc call.done)) (pos (suc a)) in
    let e1 = seal_length call.function call.args (pos (suc call.done)) in
    let e2 = length-append (due_seal call) (due_run z a (suc call.done) heap (Undone last) trace) in
    let e3 = length-append (run_events z a 0 heap trace) (undo_events z a (suc call.done) r last) in
    let e4 = count_run z a trace 0 heap in
    let e5 = length-append (back ++ fence_after r.n) tail in
    let e6 = length-append back (fence_after r.n) in
    let e7 = count_backs z r.word r.old r.n
    (all_inside z (λ w. IsTrue (E w)) (λ w. IsTrue (W w)) trace heap is) in
    let e8 = count_fence r.n in
    let e9 = retire_length last (pos (suc call.done)) (pos (suc a)) in
    let e10 : r.n ≡ logged_in trace = let e = count_records trace no_records heap in omega arith in
    let e11 : fences_of r.n ≡ fences_of (logged_in trace) = ap fences_of e10 in
    omega arith

abbrev sizes_72 : Sizes
sizes_72 =
    record {
      slots = 1;
      records = 2;
      root_words = 2;
      slot_lines = 2;
      ticks = 1;
      slots_fit = omega arith;
      records_fit = omega arith;
      root_words_fit = omega arith;
      slot_fits = omega arith;
      ticks_fit = omega arith;
    }

-- Row 72: one argument, and two stores, each the first to its word.
row_72 : (a : ℕ) (f y0 : ℤ) (heap : ℕ → ℤ) (x y last : ℤ) →
    length (due_call sizes_72 a (record { done = 1; function = f; args = y0 ∷ [] }) heap
    (Undone last) (Logged 0 x ∷ Logged 1 y ∷ [])) ≡ 29
row_72 a f y0 heap x y last =
    count_undone sizes_72 (λ w. true) (λ w. true) a
    (record { done = 1; function = f; args = y0 ∷ [] }) heap
    (Logged 0 x ∷ Logged 1 y ∷ []) last
    (refl, omega arith, omega arith, (refl, omega arith, omega arith, tt))
