-- Calls and recoveries of the small pool: the image on which each begins, its events in the
-- protocol, and what the crash law says of each image that a power cut may leave, and of each one
-- after the last event.
use Rattle.std.specs.Prelude.{ℕ, Bool, false, IsTrue, List, [], ◌∷◌, ◌⊎◌, ℤ, pos, negsuc}
use Rattle.cache_model.specs.Event.{CacheEvent}
use Rattle.cache_model.specs.Cache.{Words}
use Rattle.pool_layout.specs.Good.{Good}
use Rattle.crash_law.specs.Pools.{Call, Owed, last_of}
use Rattle.crash_law.specs.Due.{Entry, Plain, Logged, Result, Halted, Trapped, Undone}
use Rattle.crash_law.specs.Due.{heap_after, due_call, redo_events, clean_events}
use Rattle.crash_law.specs.Law.{Leaves, KeepsLast, IsCut, IsEnd, IsEnded, IsClean, collapsed}
use Rattle.needed_law.specs.SmallPool.{small_sizes, is_counter, small_pool, small_heap}
use Rattle.needed_law.specs.SmallPool.{after_inc, owed_once, owed_twice, retired_once}

pub record Trial : Type 1 where
  pub found : Words
  pub events : List CacheEvent
  pub cut : Words → Type 0
  pub ended : Words → Type 0

-- a call after `inc 3`; its inputs are the words of E, and it stores to the counter
abbrev pub call_trial : Call → (E : ℕ → Bool) → Result → List Entry → Trial
call_trial call E result trace = record {
  found = after_inc;
  events = due_call small_sizes 1 call (small_heap after_inc) result trace;
  cut = IsCut (small_pool after_inc) call (λ w. IsTrue (E w)) (λ w. IsTrue (is_counter w))
      (small_heap after_inc) (heap_after (small_heap after_inc) trace)
      (last_of (small_pool after_inc) after_inc) result;
  ended = IsEnded (small_pool after_inc) call (small_heap after_inc)
      (heap_after (small_heap after_inc) trace) result;
}

-- the second call of the pool, of this function with the argument 5
abbrev pub second_call : ℤ → Call
second_call function = record { done = 1; function = function; args = pos 5 ∷ [] }

-- `inc 5`, function 1: the counter is read, and is 8 then
abbrev pub inc : Trial
inc = call_trial (second_call (pos 1)) is_counter (Halted (pos 8)) (Logged 0 (pos 8) ∷ [])

-- `set 5`, function 2: the counter isn't read, so its store has no record
abbrev pub set : Trial
set = call_trial (second_call (pos 2)) (λ w. false) (Halted (pos 5)) (Plain 0 (pos 5) ∷ [])

-- `trapping 5`, function 3: it stores 5 to the counter and traps, which marks the pool
abbrev pub trapping : Trial
trapping = call_trial (second_call (pos 3)) (λ w. false) (Trapped 4) (Plain 0 (pos 5) ∷ [])

-- `take 5`, function 4, is marked `abort`: the counter is -2 then, and the call is undone
abbrev pub take_back : Trial
take_back = call_trial (second_call (pos 4)) is_counter (Undone (pos 3)) (Logged 0 (negsuc 1) ∷ [])

-- the recovery of the second call from this image, with n valid records
abbrev pub redo_trial : Words → (n : ℕ) → Result → List Entry → Trial
redo_trial found n result trace = record {
  found = found;
  events = redo_events small_sizes 1 2 found n result trace;
  cut = λ image. Owed (small_pool found) (second_call (pos 1)) (λ w. IsTrue (is_counter w))
      (λ w. IsTrue (is_counter w)) (small_heap after_inc) (KeepsLast result) image
      ⊎ IsEnd (small_pool found) (second_call (pos 1)) (small_heap after_inc)
      (heap_after (small_heap after_inc) trace) result image;
  ended = IsEnded (small_pool found) (second_call (pos 1)) (small_heap after_inc)
      (heap_after (small_heap after_inc) trace) result;
}

-- the recovery of `inc 5`
abbrev pub redo : Trial
redo = redo_trial owed_once 1 (Halted (pos 8)) (Logged 0 (pos 8) ∷ [])

-- and of a call that adds 5 twice
abbrev pub redo_twice : Trial
redo_twice = redo_trial owed_twice 2 (Halted (pos 13)) (Logged 0 (pos 8) ∷ Logged 0 (pos 13) ∷ [])

-- the recovery of a pool that owes nothing and has a valid record
abbrev pub tidy_up : Trial
tidy_up = record {
  found = retired_once;
  events = clean_events small_sizes 1 1;
  cut = Good (small_pool retired_once) 2 (small_heap retired_once);
  ended = IsClean (small_pool retired_once) 2 (small_heap retired_once);
}

-- With its own events the trial keeps what its law says.
abbrev pub KeepsTrial : Trial → Type 0
KeepsTrial trial = Leaves (collapsed trial.found) trial.events trial.cut trial.ended
