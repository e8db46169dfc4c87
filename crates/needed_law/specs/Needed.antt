-- Each flush, each fence and each order of stores of the protocol: with that one left out, or two
-- exchanged, a power cut leaves an image that the crash law doesn't allow. The words that are
-- named show what is wrong with it. Events are numbered as in docs/PROTOCOL.md.
use Rattle.std.specs.Prelude.{◌≡◌, [], ◌∷◌, ◌++◌, pos, negsuc}
use Rattle.cache_model.specs.Event.{Fence}
use Rattle.cache_model.specs.Cache.{Cache, Words}
use Rattle.cache_model.specs.Play.{apply}
use Rattle.cache_model.specs.declared.choice.Rest.TheVariants.{Old}
use Rattle.pool_layout.specs.declared.places.Place.TheVariants.{RecordOld, RecordStamp}
use Rattle.pool_layout.specs.declared.places.TheConstants.{LAST, DONE, ATTEMPT, MARK}
use Rattle.pool_layout.specs.declared.places.TheConstants.{FIRST_ARGUMENT, SEAL}
use Rattle.crash_law.specs.Pools.{Call}
use Rattle.crash_law.specs.Due.{due_seal}
use Rattle.needed_law.specs.SmallPool.{small_word, counter}
use Rattle.needed_law.specs.Trials.{inc, set, trapping, take_back, redo, redo_twice, tidy_up}
use Rattle.needed_law.specs.Wrong.{lacking, exchanged, keeps, IsWrong, IsWrongEnd}

-- Function and argument are safe before the seal is stored. Else the seal of `inc 5` may stand
-- beside the argument 3 of the call before.
pub record PayloadLaw : Type 0 where
  pub flush : IsWrong inc (lacking 2 inc.events) 4 Old (keeps 5 1 ∷ [])
      ((SEAL, pos 2) ∷ (FIRST_ARGUMENT, pos 3) ∷ [])
  pub fence : IsWrong inc (lacking 3 inc.events) 4 Old (keeps 5 1 ∷ [])
      ((SEAL, pos 2) ∷ (FIRST_ARGUMENT, pos 3) ∷ [])
  pub order : IsWrong inc (exchanged 1 4 inc.events) 2 Old (keeps 5 1 ∷ [])
      ((SEAL, pos 2) ∷ (FIRST_ARGUMENT, pos 3) ∷ [])

-- The seal is safe before the run's first store. Else the counter may be stored by a call that
-- isn't owed. The fence is that of a call whose first store has no record: a record has a fence of
-- its own, which makes the seal safe too.
pub record SealLaw : Type 0 where
  pub flush : IsWrong inc (lacking 5 inc.events) 12 Old (keeps 8 1 ∷ [])
      ((SEAL, pos 1) ∷ (counter, pos 8) ∷ [])
  pub fence : IsWrong set (lacking 6 set.events) 7 Old (keeps 8 1 ∷ [])
      ((SEAL, pos 1) ∷ (counter, pos 5) ∷ [])

-- A record is safe before the store of its word, and its stamp is stored last. Else the call is
-- owed, the counter is overwritten, and no record has the 3 that a second run must read; or a
-- valid record has the old value of the record that was there before.
pub record RecordLaw : Type 0 where
  pub flush : IsWrong inc (lacking 10 inc.events) 12 Old (keeps 8 1 ∷ [])
      ((SEAL, pos 2) ∷ (small_word (RecordStamp 0), pos 1) ∷ (counter, pos 8) ∷ [])
  pub fence : IsWrong inc (lacking 11 inc.events) 12 Old (keeps 8 1 ∷ [])
      ((SEAL, pos 2) ∷ (small_word (RecordStamp 0), pos 1) ∷ (counter, pos 8) ∷ [])
  pub store_last : IsWrong inc (exchanged 9 12 inc.events) 10 Old (keeps 8 1 ∷ [])
      ((SEAL, pos 2) ∷ (small_word (RecordStamp 0), pos 1) ∷ (counter, pos 8) ∷ [])
  pub stamp_last : IsWrong inc (exchanged 8 9 inc.events) 9 Old (keeps 6 2 ∷ [])
      ((SEAL, pos 2) ∷ (small_word (RecordStamp 0), pos 2) ∷ (small_word (RecordOld 0), pos 0)
      ∷ (counter, pos 3) ∷ [])

-- The stores of the run are safe before the retirement. Else the call is done, and its store is
-- lost.
pub record RunEndLaw : Type 0 where
  pub flush : IsWrong inc (lacking 13 inc.events) 17 Old (keeps 2 3 ∷ [])
      ((DONE, pos 2) ∷ (counter, pos 3) ∷ [])
  pub fence : IsWrong inc (lacking 14 inc.events) 17 Old (keeps 2 3 ∷ [])
      ((DONE, pos 2) ∷ (counter, pos 3) ∷ [])
  pub order : IsWrong inc (exchanged 14 16 inc.events) 15 Old (keeps 2 1 ∷ [])
      ((DONE, pos 2) ∷ (counter, pos 3) ∷ [])

-- the third call of the pool, `inc 7`
abbrev pub third_call : Call
third_call = record { done = 2; function = pos 1; args = pos 7 ∷ [] }

-- The retirement is safe before the next call. Else `inc 5`, which was answered, may still be
-- owed, with the argument of the next call. Last is stored before done: else the call is done
-- without its value. Done is stored before the attempt: else the call is owed, and its record
-- isn't valid.
pub record RetireLaw : Type 0 where
  pub flush : IsWrong inc (lacking 18 inc.events ++ due_seal third_call) 21 Old (keeps 3 2 ∷ [])
      ((SEAL, pos 2) ∷ (DONE, pos 1) ∷ (FIRST_ARGUMENT, pos 7) ∷ [])
  pub fence : IsWrong inc (lacking 19 inc.events ++ due_seal third_call) 21 Old (keeps 3 2 ∷ [])
      ((SEAL, pos 2) ∷ (DONE, pos 1) ∷ (FIRST_ARGUMENT, pos 7) ∷ [])
  pub last_first : IsWrong inc (exchanged 15 16 inc.events) 16 Old (keeps 2 1 ∷ [])
      ((DONE, pos 2) ∷ (LAST, pos 3) ∷ [])
  pub done_first : IsWrong inc (exchanged 16 17 inc.events) 17 Old (keeps 2 2 ∷ [])
      ((DONE, pos 1) ∷ (ATTEMPT, pos 2) ∷ (counter, pos 8) ∷ [])

-- The mark of a trap is safe once the trap is answered. Else the pool may still owe the call,
-- which traps again when it is recovered: no value is lost, but the pool isn't unusable as was
-- answered.
pub record MarkLaw : Type 0 where
  pub flush : IsWrongEnd trapping (lacking 9 trapping.events) Old []
      ((SEAL, pos 2) ∷ (MARK, pos 0) ∷ [])
  pub fence : IsWrongEnd trapping (lacking 10 trapping.events) Old []
      ((SEAL, pos 2) ∷ (MARK, pos 0) ∷ [])

-- But the crash law allows each image that has the mark, whatever else it has. So it doesn't ask
-- that the mark is stored after the seal or after the run's stores.
abbrev pub MarkAloneLaw : Type 0
MarkAloneLaw = (image : Words) → image MARK ≡ pos 4 → trapping.cut image

-- What is put back at an abort is safe before the retirement. Else the call is retired, and its
-- store is still there.
pub record UndoLaw : Type 0 where
  pub flush : IsWrong take_back (lacking 14 take_back.events) 18 Old (keeps 2 3 ∷ keeps 8 1 ∷ [])
      ((DONE, pos 2) ∷ (counter, negsuc 1) ∷ [])
  pub fence : IsWrong take_back (lacking 15 take_back.events) 18 Old (keeps 2 3 ∷ keeps 8 1 ∷ [])
      ((DONE, pos 2) ∷ (counter, negsuc 1) ∷ [])
  pub order : IsWrong take_back (exchanged 13 17 take_back.events) 14 Old
      (keeps 2 1 ∷ keeps 8 1 ∷ []) ((DONE, pos 2) ∷ (counter, negsuc 1) ∷ [])

-- What a recovery puts back is safe before the next attempt, and goes from the newest record to
-- the oldest. Else the records are gone, and the counter isn't the 3 that a second run must read.
pub record BackLaw : Type 0 where
  pub flush : IsWrong redo (lacking 1 redo.events) 3 Old (keeps 2 1 ∷ [])
      ((ATTEMPT, pos 2) ∷ (counter, pos 8) ∷ [])
  pub fence : IsWrong redo (lacking 2 redo.events) 3 Old (keeps 2 1 ∷ [])
      ((ATTEMPT, pos 2) ∷ (counter, pos 8) ∷ [])
  pub order : IsWrong redo (exchanged 0 3 redo.events) 1 Old (keeps 2 1 ∷ [])
      ((ATTEMPT, pos 2) ∷ (counter, pos 8) ∷ [])
  pub oldest_last : IsWrong redo_twice (exchanged 0 2 redo_twice.events) 6 Old (keeps 2 1 ∷ [])
      ((ATTEMPT, pos 2) ∷ (counter, pos 8) ∷ [])

-- The next attempt is safe before the second run. Without its flush the counter is overwritten by
-- a run whose record isn't valid. Without its fence only the log isn't well made: the first record
-- may have a stamp that no record of this attempt has.
pub record AttemptLaw : Type 0 where
  pub flush : IsWrong redo (lacking 4 redo.events) 11 Old (keeps 8 1 ∷ [])
      ((ATTEMPT, pos 1) ∷ (small_word (RecordStamp 0), pos 3) ∷ (counter, pos 8) ∷ [])
  pub fence : IsWrong redo (lacking 5 redo.events) 8 Old (keeps 6 3 ∷ [])
      ((ATTEMPT, pos 1) ∷ (small_word (RecordStamp 0), pos 3) ∷ [])

-- A recovery that owes nothing leaves no valid record, once it is answered.
pub record TidyUpLaw : Type 0 where
  pub flush : IsWrongEnd tidy_up (lacking 1 tidy_up.events) Old []
      ((ATTEMPT, pos 1) ∷ (small_word (RecordStamp 0), pos 2) ∷ [])
  pub fence : IsWrongEnd tidy_up (lacking 2 tidy_up.events) Old []
      ((ATTEMPT, pos 1) ∷ (small_word (RecordStamp 0), pos 2) ∷ [])

-- A fence right after a fence changes nothing. So of a call that stores nothing the fence at the
-- run's end isn't needed: it comes right after that of the seal.
abbrev pub IdleFenceLaw : Type 0
IdleFenceLaw = (c : Cache) → apply (apply c Fence) Fence ≡ apply c Fence
