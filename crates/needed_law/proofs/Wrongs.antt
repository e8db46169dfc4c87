-- Each image that the laws name: its words, and why the crash law doesn't allow it.
use Rattle.std.proofs.Common.{◌≡◌, ⊎_elim, inr, ℕ, suc, Bool, false, IsTrue, List, []}
use Rattle.std.proofs.Common.{◌∷◌, ℤ, pos, negsuc, nat_abs, refl, ap, arith, Option, Some}
use Rattle.std.proofs.Common.{None}
use Rattle.cache_model.specs.Event.{CacheEvent}
use Rattle.cache_model.specs.Cache.{Words, put}
use Rattle.cache_model.specs.Play.{apply, fence_line}
use Rattle.cache_model.specs.declared.choice.Rest.TheVariants.{Old}
use Rattle.cache_model.specs.declared.choice.Pick.{Pick}
use Rattle.pool_layout.specs.declared.places.Place.TheVariants.{RecordStamp}
use Rattle.pool_layout.specs.declared.places.TheConstants.{DONE, ATTEMPT, MARK}
use Rattle.pool_layout.specs.declared.places.TheConstants.{SEAL}
use Rattle.pool_layout.specs.Places.{pool_of}
use Rattle.pool_layout.specs.Log.{count}
use Rattle.pool_layout.specs.Restored.{restored}
use Rattle.args_log.specs.Seal.{payload_events, unsealed_events, sealing_events, seal_events}
use Rattle.args_log.specs.Retire.{retire_events, mark_events}
use Rattle.crash_law.specs.Pools.{Call, Owed, last_of}
use Rattle.crash_law.specs.Due.{Result, Halted, Undone, Entry, Plain, Logged, heap_after}
use Rattle.crash_law.specs.Law.{KeepsLast, IsEnd}
use Rattle.needed_law.specs.SmallPool.{small_sizes, small_word, small_pool, small_heap, is_counter}
use Rattle.needed_law.specs.SmallPool.{counter, after_inc, owed_once, owed_twice}
use Rattle.needed_law.specs.Trials.{call_trial, redo_trial, second_call, trapping}
use Rattle.needed_law.specs.Trials.{redo, tidy_up}
use Rattle.needed_law.specs.Wrong.{lacking, keeps, ShowsWords, IsWrong}
use Rattle.needed_law.specs.Needed.{PayloadLaw, SealLaw, RecordLaw, RunEndLaw, RetireLaw, MarkLaw}
use Rattle.needed_law.specs.Needed.{UndoLaw, BackLaw, AttemptLaw, TidyUpLaw, MarkAloneLaw}
use Rattle.needed_law.specs.Needed.{IdleFenceLaw}
use Rattle.needed_law.proofs.Lines.{left_words, wrong_is, wrong_end_is}
use Rattle.needed_law.proofs.Refuting.{clash, sealed_not, unsealed_not, retired_not}
use Rattle.needed_law.proofs.Refuting.{restored_not}

-- a cut of a call
module _ (call : Call) (E : ℕ → Bool) (result : Result) (trace : List Entry) where
  abbrev pub OwesAt : Words → Type 0
  OwesAt image = Owed (small_pool after_inc) call (λ w. IsTrue (E w)) (λ w. IsTrue (is_counter w))
      (small_heap after_inc) (KeepsLast result) image

  abbrev pub EndsAt : Words → Type 0
  EndsAt image = IsEnd (small_pool after_inc) call (small_heap after_inc)
      (heap_after (small_heap after_inc) trace) result image

  pub sealed_call : {events : List CacheEvent} {n : ℕ} {picks : List Pick} {words : List (ℕ × ℤ)}
      → ShowsWords words (left_words after_inc events n Old picks)
      → left_words after_inc events n Old picks SEAL ≡ pos (suc call.done)
      → (OwesAt (left_words after_inc events n Old picks) → ⊥)
      → (EndsAt (left_words after_inc events n Old picks) → ⊥)
      → IsWrong (call_trial call E result trace) events n Old picks words
  sealed_call {events} {n} {picks} {words} has seal no_owed no_end =
      wrong_is (call_trial call E result trace) events n Old picks words has
      (sealed_not (small_pool after_inc) call (λ w. IsTrue (E w)) (λ w. IsTrue (is_counter w))
      (small_heap after_inc) (heap_after (small_heap after_inc) trace)
      (last_of (small_pool after_inc) after_inc) result
      (left_words after_inc events n Old picks) seal no_owed no_end)

  pub unsealed_call : {events : List CacheEvent} {n : ℕ} {picks : List Pick}
      {words : List (ℕ × ℤ)}
      → ShowsWords words (left_words after_inc events n Old picks)
      → (left_words after_inc events n Old picks counter ≡ small_heap after_inc 0 → ⊥)
      → (left_words after_inc events n Old picks SEAL ≡ pos (suc call.done) → ⊥)
      → (EndsAt (left_words after_inc events n Old picks) → ⊥)
      → IsWrong (call_trial call E result trace) events n Old picks words
  unsealed_call {events} {n} {picks} {words} has other no_seal no_end =
      wrong_is (call_trial call E result trace) events n Old picks words has
      (unsealed_not (small_pool after_inc) call (λ w. IsTrue (E w)) (λ w. IsTrue (is_counter w))
      (small_heap after_inc) (heap_after (small_heap after_inc) trace)
      (last_of (small_pool after_inc) after_inc) result
      (left_words after_inc events n Old picks) 0 (omega arith) other no_seal no_end)

  pub retired_call : {events : List CacheEvent} {n : ℕ} {picks : List Pick}
      {words : List (ℕ × ℤ)}
      → ShowsWords words (left_words after_inc events n Old picks)
      → (left_words after_inc events n Old picks DONE ≡ pos call.done → ⊥)
      → (EndsAt (left_words after_inc events n Old picks) → ⊥)
      → IsWrong (call_trial call E result trace) events n Old picks words
  retired_call {events} {n} {picks} {words} has done no_end =
      wrong_is (call_trial call E result trace) events n Old picks words has
      (retired_not (small_pool after_inc) call (λ w. IsTrue (E w)) (λ w. IsTrue (is_counter w))
      (small_heap after_inc) (heap_after (small_heap after_inc) trace)
      (last_of (small_pool after_inc) after_inc) result
      (left_words after_inc events n Old picks) done no_end)

  -- the log doesn't restore the counter
  pub lost_call : {image : Words} (a : ℕ) → image ATTEMPT ≡ pos a → IsTrue (E 0)
      → (restored (pool_of small_sizes) a image 0 ≡ small_heap after_inc 0 → ⊥)
      → OwesAt image → ⊥
  lost_call {image} a attempt is other owed =
      restored_not (small_pool after_inc) call (λ w. IsTrue (E w)) (λ w. IsTrue (is_counter w))
      (small_heap after_inc) (KeepsLast result) image a 0 attempt (omega arith) (inr is) other owed

-- a cut of a recovery
module _ (found : Words) (k : ℕ) (result : Result) (trace : List Entry) where
  abbrev pub OwesAgain : Words → Type 0
  OwesAgain image = Owed (small_pool found) (second_call (pos 1)) (λ w. IsTrue (is_counter w))
      (λ w. IsTrue (is_counter w)) (small_heap after_inc) (KeepsLast result) image

  pub wrong_redo : {events : List CacheEvent} {n : ℕ} {picks : List Pick} {words : List (ℕ × ℤ)}
      → ShowsWords words (left_words found events n Old picks)
      → (OwesAgain (left_words found events n Old picks) → ⊥)
      → (IsEnd (small_pool found) (second_call (pos 1)) (small_heap after_inc)
      (heap_after (small_heap after_inc) trace) result (left_words found events n Old picks) → ⊥)
      → IsWrong (redo_trial found k result trace) events n Old picks words
  wrong_redo {events} {n} {picks} {words} has no_owed no_end =
      wrong_is (redo_trial found k result trace) events n Old picks words has
      (λ cut. ⊎_elim no_owed no_end cut)

  pub lost_redo : {image : Words} (a : ℕ) → image ATTEMPT ≡ pos a
      → (restored (pool_of small_sizes) a image 0 ≡ small_heap after_inc 0 → ⊥)
      → OwesAgain image → ⊥
  lost_redo {image} a attempt other owed =
      restored_not (small_pool found) (second_call (pos 1)) (λ w. IsTrue (is_counter w))
      (λ w. IsTrue (is_counter w)) (small_heap after_inc) (KeepsLast result) image a 0 attempt
      (omega arith) (inr refl) other owed

pub payload : PayloadLaw
unfolding put seal_events unsealed_events payload_events sealing_events retire_events mark_events
    restored count
payload = record {
  flush = sealed_call (second_call (pos 1)) is_counter (Halted (pos 8))
      (Logged 0 (pos 8) ∷ []) (refl, (refl, tt)) refl
      (λ owed. clash (pos 3) (pos 5) (owed.call_is 1 (omega arith)) tt)
      (λ end. clash (pos 1) (pos 2) end.good.done tt);
  fence = sealed_call (second_call (pos 1)) is_counter (Halted (pos 8))
      (Logged 0 (pos 8) ∷ []) (refl, (refl, tt)) refl
      (λ owed. clash (pos 3) (pos 5) (owed.call_is 1 (omega arith)) tt)
      (λ end. clash (pos 1) (pos 2) end.good.done tt);
  order = sealed_call (second_call (pos 1)) is_counter (Halted (pos 8))
      (Logged 0 (pos 8) ∷ []) (refl, (refl, tt)) refl
      (λ owed. clash (pos 3) (pos 5) (owed.call_is 1 (omega arith)) tt)
      (λ end. clash (pos 1) (pos 2) end.good.done tt);
}

pub seal : SealLaw
unfolding put seal_events unsealed_events payload_events sealing_events retire_events mark_events
    restored count
seal = record {
  flush = unsealed_call (second_call (pos 1)) is_counter (Halted (pos 8))
      (Logged 0 (pos 8) ∷ []) (refl, (refl, tt))
      (λ e. clash (pos 8) (pos 3) e tt) (λ e. clash (pos 1) (pos 2) e tt)
      (λ end. clash (pos 1) (pos 2) end.good.done tt);
  fence = unsealed_call (second_call (pos 2)) (λ w. false) (Halted (pos 5))
      (Plain 0 (pos 5) ∷ []) (refl, (refl, tt))
      (λ e. clash (pos 5) (pos 3) e tt) (λ e. clash (pos 1) (pos 2) e tt)
      (λ end. clash (pos 1) (pos 2) end.good.done tt);
}

pub log : RecordLaw
unfolding put seal_events unsealed_events payload_events sealing_events retire_events mark_events
    restored count
log = record {
  flush = sealed_call (second_call (pos 1)) is_counter (Halted (pos 8))
      (Logged 0 (pos 8) ∷ []) (refl, (refl, (refl, tt))) refl
      (lost_call (second_call (pos 1)) is_counter (Halted (pos 8))
      (Logged 0 (pos 8) ∷ []) 1 refl refl
      (λ e. clash (pos 8) (pos 3) e tt))
      (λ end. clash (pos 1) (pos 2) end.good.done tt);
  fence = sealed_call (second_call (pos 1)) is_counter (Halted (pos 8))
      (Logged 0 (pos 8) ∷ []) (refl, (refl, (refl, tt))) refl
      (lost_call (second_call (pos 1)) is_counter (Halted (pos 8))
      (Logged 0 (pos 8) ∷ []) 1 refl refl
      (λ e. clash (pos 8) (pos 3) e tt))
      (λ end. clash (pos 1) (pos 2) end.good.done tt);
  store_last = sealed_call (second_call (pos 1)) is_counter (Halted (pos 8))
      (Logged 0 (pos 8) ∷ []) (refl, (refl, (refl, tt))) refl
      (lost_call (second_call (pos 1)) is_counter (Halted (pos 8))
      (Logged 0 (pos 8) ∷ []) 1 refl refl
      (λ e. clash (pos 8) (pos 3) e tt))
      (λ end. clash (pos 1) (pos 2) end.good.done tt);
  stamp_last = sealed_call (second_call (pos 1)) is_counter (Halted (pos 8))
      (Logged 0 (pos 8) ∷ []) (refl, (refl, (refl, (refl, tt)))) refl
      (lost_call (second_call (pos 1)) is_counter (Halted (pos 8))
      (Logged 0 (pos 8) ∷ []) 1 refl refl
      (λ e. clash (pos 0) (pos 3) e tt))
      (λ end. clash (pos 1) (pos 2) end.good.done tt);
}

pub run : RunEndLaw
unfolding put seal_events unsealed_events payload_events sealing_events retire_events mark_events
    restored count
run = record {
  flush = retired_call (second_call (pos 1)) is_counter (Halted (pos 8))
      (Logged 0 (pos 8) ∷ []) (refl, (refl, tt))
      (λ e. clash (pos 2) (pos 1) e tt)
      (λ end. clash (pos 3) (pos 8) (end.good.heap 0 (omega arith)) tt);
  fence = retired_call (second_call (pos 1)) is_counter (Halted (pos 8))
      (Logged 0 (pos 8) ∷ []) (refl, (refl, tt))
      (λ e. clash (pos 2) (pos 1) e tt)
      (λ end. clash (pos 3) (pos 8) (end.good.heap 0 (omega arith)) tt);
  order = retired_call (second_call (pos 1)) is_counter (Halted (pos 8))
      (Logged 0 (pos 8) ∷ []) (refl, (refl, tt))
      (λ e. clash (pos 2) (pos 1) e tt)
      (λ end. clash (pos 3) (pos 8) (end.good.heap 0 (omega arith)) tt);
}

pub retirement : RetireLaw
unfolding put seal_events unsealed_events payload_events sealing_events retire_events mark_events
    restored count
retirement = record {
  flush = sealed_call (second_call (pos 1)) is_counter (Halted (pos 8))
      (Logged 0 (pos 8) ∷ []) (refl, (refl, (refl, tt))) refl
      (λ owed. clash (pos 7) (pos 5) (owed.call_is 1 (omega arith)) tt)
      (λ end. clash (pos 1) (pos 2) end.good.done tt);
  fence = sealed_call (second_call (pos 1)) is_counter (Halted (pos 8))
      (Logged 0 (pos 8) ∷ []) (refl, (refl, (refl, tt))) refl
      (λ owed. clash (pos 7) (pos 5) (owed.call_is 1 (omega arith)) tt)
      (λ end. clash (pos 1) (pos 2) end.good.done tt);
  last_first = retired_call (second_call (pos 1)) is_counter (Halted (pos 8))
      (Logged 0 (pos 8) ∷ []) (refl, (refl, tt))
      (λ e. clash (pos 2) (pos 1) e tt)
      (λ end. clash (pos 3) (pos 8) end.last_is tt);
  done_first = sealed_call (second_call (pos 1)) is_counter (Halted (pos 8))
      (Logged 0 (pos 8) ∷ []) (refl, (refl, (refl, tt))) refl
      (lost_call (second_call (pos 1)) is_counter (Halted (pos 8))
      (Logged 0 (pos 8) ∷ []) 2 refl refl
      (λ e. clash (pos 8) (pos 3) e tt))
      (λ end. clash (pos 1) (pos 2) end.good.done tt);
}

pub mark : MarkLaw
unfolding put seal_events unsealed_events payload_events sealing_events retire_events mark_events
    restored count
mark = record {
  flush = wrong_end_is trapping (lacking 9 trapping.events) Old []
      ((SEAL, pos 2) ∷ (MARK, pos 0) ∷ [])
      (refl, (refl, tt)) (λ lost. clash (pos 0) (pos 4) lost.0 tt);
  fence = wrong_end_is trapping (lacking 10 trapping.events) Old []
      ((SEAL, pos 2) ∷ (MARK, pos 0) ∷ [])
      (refl, (refl, tt)) (λ lost. clash (pos 0) (pos 4) lost.0 tt);
}

pub undo : UndoLaw
unfolding put seal_events unsealed_events payload_events sealing_events retire_events mark_events
    restored count
undo = record {
  flush = retired_call (second_call (pos 4)) is_counter (Undone (pos 3))
      (Logged 0 (negsuc 1) ∷ []) (refl, (refl, tt))
      (λ e. clash (pos 2) (pos 1) e tt)
      (λ end. clash (negsuc 1) (pos 3) (end.good.heap 0 (omega arith)) tt);
  fence = retired_call (second_call (pos 4)) is_counter (Undone (pos 3))
      (Logged 0 (negsuc 1) ∷ []) (refl, (refl, tt))
      (λ e. clash (pos 2) (pos 1) e tt)
      (λ end. clash (negsuc 1) (pos 3) (end.good.heap 0 (omega arith)) tt);
  order = retired_call (second_call (pos 4)) is_counter (Undone (pos 3))
      (Logged 0 (negsuc 1) ∷ []) (refl, (refl, tt))
      (λ e. clash (pos 2) (pos 1) e tt)
      (λ end. clash (negsuc 1) (pos 3) (end.good.heap 0 (omega arith)) tt);
}

pub back : BackLaw
unfolding put seal_events unsealed_events payload_events sealing_events retire_events mark_events
    restored count
back = record {
  flush = wrong_redo owed_once 1 (Halted (pos 8)) (Logged 0 (pos 8) ∷ []) (refl, (refl, tt))
      (lost_redo owed_once 1 (Halted (pos 8)) (Logged 0 (pos 8) ∷ []) 2 refl
      (λ e. clash (pos 8) (pos 3) e tt))
      (λ end. clash (pos 1) (pos 2) end.good.done tt);
  fence = wrong_redo owed_once 1 (Halted (pos 8)) (Logged 0 (pos 8) ∷ []) (refl, (refl, tt))
      (lost_redo owed_once 1 (Halted (pos 8)) (Logged 0 (pos 8) ∷ []) 2 refl
      (λ e. clash (pos 8) (pos 3) e tt))
      (λ end. clash (pos 1) (pos 2) end.good.done tt);
  order = wrong_redo owed_once 1 (Halted (pos 8)) (Logged 0 (pos 8) ∷ []) (refl, (refl, tt))
      (lost_redo owed_once 1 (Halted (pos 8)) (Logged 0 (pos 8) ∷ []) 2 refl
      (λ e. clash (pos 8) (pos 3) e tt))
      (λ end. clash (pos 1) (pos 2) end.good.done tt);
  oldest_last = wrong_redo owed_twice 2 (Halted (pos 13))
      (Logged 0 (pos 8) ∷ Logged 0 (pos 13) ∷ []) (refl, (refl, tt))
      (lost_redo owed_twice 2 (Halted (pos 13))
      (Logged 0 (pos 8) ∷ Logged 0 (pos 13) ∷ []) 2 refl
      (λ e. clash (pos 8) (pos 3) e tt))
      (λ end. clash (pos 1) (pos 2) end.good.done tt);
}

-- no record of this attempt has the stamp 3
high_stamp : OwesAgain owed_once 1 (Halted (pos 8)) (Logged 0 (pos 8) ∷ [])
    (left_words owed_once (lacking 5 redo.events) 8 Old (keeps 6 3 ∷ [])) → ⊥
unfolding put seal_events unsealed_events payload_events sealing_events retire_events mark_events
    restored count
high_stamp owed =
    let stamp = owed.log.stamps 0 (omega arith) in
    let one : 1 ≡ owed.attempt = ap nat_abs owed.attempt_is in
    let three : 3 ≡ stamp.0 = ap nat_abs stamp.2 in
    let le = stamp.1 in
    omega arith

pub attempt : AttemptLaw
unfolding put seal_events unsealed_events payload_events sealing_events retire_events mark_events
    restored count
attempt = record {
  flush = wrong_redo owed_once 1 (Halted (pos 8)) (Logged 0 (pos 8) ∷ [])
      (refl, (refl, (refl, tt)))
      (lost_redo owed_once 1 (Halted (pos 8)) (Logged 0 (pos 8) ∷ []) 1 refl
      (λ e. clash (pos 8) (pos 3) e tt))
      (λ end. clash (pos 1) (pos 2) end.good.done tt);
  fence = wrong_redo owed_once 1 (Halted (pos 8)) (Logged 0 (pos 8) ∷ [])
      (refl, (refl, tt)) high_stamp
      (λ end. clash (pos 1) (pos 2) end.good.done tt);
}

pub tidy : TidyUpLaw
unfolding put seal_events unsealed_events payload_events sealing_events retire_events mark_events
    restored count
tidy = record {
  flush = wrong_end_is tidy_up (lacking 1 tidy_up.events) Old []
      ((ATTEMPT, pos 1) ∷ (small_word (RecordStamp 0), pos 2) ∷ []) (refl, (refl, tt))
      (λ clean. let e : 1 ≡ 0 = clean.empty 1 refl in omega arith);
  fence = wrong_end_is tidy_up (lacking 2 tidy_up.events) Old []
      ((ATTEMPT, pos 1) ∷ (small_word (RecordStamp 0), pos 2) ∷ []) (refl, (refl, tt))
      (λ clean. let e : 1 ≡ 0 = clean.empty 1 refl in omega arith);
}

-- a fence takes every mark away, so the next one finds none
idle_of : (older : List Words) (newest : Words) (mark : Option ℕ)
    → fence_line (fence_line (record { older = older; newest = newest; mark = mark }))
    ≡ fence_line (record { older = older; newest = newest; mark = mark })
idle_of older newest None = refl
idle_of older newest (Some k) = refl

pub idle_fence : IdleFenceLaw
unfolding apply
idle_fence c = λ i l. idle_of (c l).older (c l).newest (c l).mark i

pub mark_alone : MarkAloneLaw
mark_alone image is = inr (inr (is, omega arith))
