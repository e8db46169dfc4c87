-- The premises of the crash law's laws are met by the trials, and so the trials keep what these
-- laws say, with the events of the protocol.
use Rattle.std.specs.Prelude.{ℕ, ◌^◌, ◌<◌, ◌≤◌, ◌≡◌, Bool, false, IsTrue, List, [], ◌∷◌, length}
use Rattle.std.specs.Prelude.{pos, negsuc}
use Rattle.cache_model.specs.Cache.{Words}
use Rattle.cache_model.specs.Image.{HasOne}
use Rattle.pool_layout.specs.declared.places.TheConstants.{ARGUMENTS}
use Rattle.pool_layout.specs.Places.{pool_of}
use Rattle.pool_layout.specs.Log.{count}
use Rattle.pool_layout.specs.Good.{Good}
use Rattle.crash_law.specs.Pools.{Call, Owed, last_of}
use Rattle.crash_law.specs.Due.{Entry, Plain, Logged, Result, Halted, Trapped, Undone}
use Rattle.crash_law.specs.Law.{IsRun, KeepsLast, collapsed}
use Rattle.needed_law.specs.SmallPool.{small_sizes, small_pool, small_heap, is_counter, after_inc}
use Rattle.needed_law.specs.SmallPool.{owed_once, owed_twice, retired_once}
use Rattle.needed_law.specs.Trials.{second_call, KeepsTrial}
use Rattle.needed_law.specs.Trials as trial

-- what `CallLaw` asks, of a call after `inc 3`
pub record MeetsCall (call : Call) (E : ℕ → Bool) (result : Result) (trace : List Entry) :
    Type 0 where
  pub few : length call.args ≤ ARGUMENTS
  pub number : call.done < 2 ^ 62
  pub run : IsRun (small_pool after_inc) (λ w. IsTrue (E w)) (λ w. IsTrue (is_counter w)) result
      trace
  pub last : KeepsLast result (last_of (small_pool after_inc) after_inc)
  pub only : HasOne (collapsed after_inc) after_inc
  pub good : Good (small_pool after_inc) call.done (small_heap after_inc) after_inc
  pub attempt : good.attempt < 2 ^ 62
  pub empty : count (pool_of small_sizes) good.attempt after_inc ≡ 0

-- what `RedoLaw` asks, of the recovery of the second call from this image
pub record MeetsRedo (found : Words) (n : ℕ) (result : Result) (trace : List Entry) :
    Type 0 where
  pub run : IsRun (small_pool found) (λ w. IsTrue (is_counter w)) (λ w. IsTrue (is_counter w))
      result trace
  pub only : HasOne (collapsed found) found
  pub owed : Owed (small_pool found) (second_call (pos 1)) (λ w. IsTrue (is_counter w))
      (λ w. IsTrue (is_counter w)) (small_heap after_inc) (KeepsLast result) found
  pub counted : count (pool_of small_sizes) owed.attempt found ≡ n
  pub attempt : owed.attempt < 2 ^ 62

-- what `CleanLaw` asks
pub record MeetsClean (found : Words) (d n : ℕ) : Type 0 where
  pub only : HasOne (collapsed found) found
  pub good : Good (small_pool found) d (small_heap found) found
  pub counted : count (pool_of small_sizes) good.attempt found ≡ n
  pub attempt : good.attempt < 2 ^ 62

-- each premise of these laws is met, for each end of a call, and with none, one and two records
pub record MetLaw : Type 0 where
  pub inc : MeetsCall (second_call (pos 1)) is_counter (Halted (pos 8)) (Logged 0 (pos 8) ∷ [])
  pub set : MeetsCall (second_call (pos 2)) (λ w. false) (Halted (pos 5)) (Plain 0 (pos 5) ∷ [])
  pub bad : MeetsCall (second_call (pos 3)) (λ w. false) (Trapped 4) (Plain 0 (pos 5) ∷ [])
  pub take_back : MeetsCall (second_call (pos 4)) is_counter (Undone (pos 3))
      (Logged 0 (negsuc 1) ∷ [])
  pub redo : MeetsRedo owed_once 1 (Halted (pos 8)) (Logged 0 (pos 8) ∷ [])
  pub redo_twice : MeetsRedo owed_twice 2 (Halted (pos 13))
      (Logged 0 (pos 8) ∷ Logged 0 (pos 13) ∷ [])
  pub tidy_up : MeetsClean retired_once 2 1

-- with all events, in their order, no image is wrong
pub record TrialsLaw : Type 0 where
  pub inc : KeepsTrial trial.inc
  pub set : KeepsTrial trial.set
  pub bad : KeepsTrial trial.trapping
  pub take_back : KeepsTrial trial.take_back
  pub redo : KeepsTrial trial.redo
  pub redo_twice : KeepsTrial trial.redo_twice
  pub tidy_up : KeepsTrial trial.tidy_up
