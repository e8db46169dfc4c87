use Rattle.std.proofs.Common.{inl, suc, None, IsTrue, refl, arith}
use Rattle.crash_law.specs.Pools.{last_of}
use Rattle.crash_law.proofs.Whole.{cut_call}
use Rattle.crash_law.proofs.Redo.{cut_redo}
use Rattle.crash_law.proofs.Clean.{cut_clean}
use Rattle.crash_law.proofs.Rest.{call_rest, redo_rest}
use Rattle.crash_law.proofs.Again.{cut_again}
use Rattle.crash_law.proofs.Fences.{fences_add_none}
use Rattle.crash_law.proofs.Effects.{sound_trace, step_events, stored_of}
use Rattle.crash_law.proofs.EventCounts.{count_undone}
use Rattle.crash_law.proofs.law.Goals as goal

pub returns-clause-call : goal.returns-clause-call
returns-clause-call c = λ pool call E W h result trace c one given_fits done_fits is keeps only
    good a_fits empty.
    cut_call pool call (λ w. IsTrue (E w)) (λ w. IsTrue (W w)) h result trace (omega arith)
    given_fits is (last_of pool one) keeps c one refl only good (omega arith) empty

pub returns-clause-redo : goal.returns-clause-redo
returns-clause-redo c = λ pool call E W h result trace c one given_fits is only owed n counted room.
    cut_redo pool call (λ w. IsTrue (E w)) (λ w. IsTrue (W w)) h result trace given_fits is one owed
    n counted room c only

pub returns-clause-clean : goal.returns-clause-clean
returns-clause-clean c = λ pool d h c one only good n counted room.
    cut_clean pool d h c one only good n counted room

pub returns-clause-rest : goal.returns-clause-rest
returns-clause-rest c = λ pool call E W heap result trace c one a n is retires at_rest. (
  call_rest pool (λ w. IsTrue (E w)) (λ w. IsTrue (W w)) result trace is retires a call heap c
      at_rest,
  redo_rest pool (λ w. IsTrue (E w)) (λ w. IsTrue (W w)) result trace is retires a
      (suc call.done) one n c at_rest,
)

pub returns-clause-again : goal.returns-clause-again
returns-clause-again c = λ pool call E W h result trace k one other given_fits is owed cuts.
    cut_again pool call (λ w. IsTrue (E w)) (λ w. IsTrue (W w)) h result trace given_fits is k one
    other (inl owed) cuts

pub returns-clause-trace : goal.returns-clause-trace
returns-clause-trace c =
    λ z H es sound. (
      sound_trace z.records H es sound,
      (λ w over. stored_of None es w over),
      λ a heap.
          step_events z a es 0 heap sound.paired,
    )

pub returns-clause-fences : goal.returns-clause-fences
returns-clause-fences c = fences_add_none

pub returns-clause-count : goal.returns-clause-count
returns-clause-count c = count_undone
