-- How the answer of a call or of a recovery leaves the session, and what the command then answers.
use Rattle.std.specs.Prelude.{ℕ, ◌≡◌, ◌+◌, ◌≤◌, Bool, true, false, List, ℤ}
use Rattle.pmem.specs.Device.{Device, blanked}
use Rattle.pmem.specs.Played.{PlaysAll}
use Rattle.pool_layout.specs.Sizes.{pool_lines}
use Rattle.pm_machine.specs.declared.image.Image.{Image}
use Rattle.pmem.specs.declared.answer.Phase.TheVariants as phases
use Rattle.tx_run.specs.Called.{IsTxCalled}
use Rattle.tx_run.specs.Looked.{IsLooked}
use Rattle.tx_run.specs.declared.looking.LookAnswer.{LookAnswer}
use Rattle.tx_run.specs.declared.looking.LookAnswer.TheVariants as looked
use Rattle.tx_run.specs.declared.answer.CallAnswer.{CallAnswer}
use Rattle.tx_run.specs.declared.answer.CallAnswer.TheVariants as called
use Rattle.recovery.specs.Recovered.{IsRecovered}
use Rattle.recovery.specs.declared.answer.RecoverAnswer.{RecoverAnswer}
use Rattle.recovery.specs.declared.answer.RecoverAnswer.TheVariants as recovered
use Rattle.cnvm_session.specs.Opening.{opening_events}
use Rattle.cnvm_session.specs.declared.mode.Mode.{Mode}
use Rattle.cnvm_session.specs.declared.mode.Mode.TheVariants as mode
use Rattle.cnvm_session.specs.declared.answer.Answer.{Answer}
use Rattle.cnvm_session.specs.declared.answer.Answer.TheVariants as answer
use Rattle.cnvm_session.specs.declared.program.Program.{Program}
use Rattle.cnvm_session.specs.Marks.{rolls_back_of, looks_of, policy_of, owes_marked}
use Rattle.cnvm_session.specs.Marks.{unsigned_of, owes_unsigned}

abbrev pub answer_of_call : (unsigned : Bool) → CallAnswer → Answer
answer_of_call u (called.Done value logged) = answer.Done value u logged
answer_of_call u (called.Trap kind) = answer.Trap kind
answer_of_call u (called.Aborted kind) = answer.Aborted kind
answer_of_call u (called.Off phase) = answer.Stopped phase
answer_of_call u called.Failed = answer.DeviceFault
answer_of_call u (called.Unusable kind) = answer.RefusedUnusable kind
answer_of_call u called.Numbers = answer.RefusedNumbers
answer_of_call u called.NoMemory = answer.NoMemory

-- the session after a call, if it was ready; one that is rolled back, or refused for its numbers,
-- leaves it ready
abbrev pub mode_of_call : CallAnswer → Mode
mode_of_call (called.Done value logged) = mode.Ready
mode_of_call (called.Trap kind) = mode.Unusable kind
mode_of_call (called.Aborted kind) = mode.Ready
mode_of_call (called.Off phase) = mode.Down
mode_of_call called.Failed = mode.Down
mode_of_call (called.Unusable kind) = mode.Unusable kind
mode_of_call called.Numbers = mode.Ready
mode_of_call called.NoMemory = mode.Down

-- a look keeps no log, and where it traps nothing is lost
abbrev pub answer_of_look : (unsigned : Bool) → LookAnswer → Answer
answer_of_look u (looked.Done value) = answer.Done value u 0
answer_of_look u (looked.Aborted kind) = answer.Aborted kind
answer_of_look u looked.Off = answer.Stopped phases.Unsealed
answer_of_look u looked.NoMemory = answer.NoMemory

abbrev pub mode_of_look : LookAnswer → Mode
mode_of_look (looked.Done value) = mode.Ready
mode_of_look (looked.Aborted kind) = mode.Ready
mode_of_look looked.Off = mode.Down
mode_of_look looked.NoMemory = mode.Down

abbrev pub answer_of_recovery : (unsigned : Bool) → RecoverAnswer → Answer
answer_of_recovery u recovered.Clean = answer.RecoveredNone
answer_of_recovery u (recovered.Redone value logged) = answer.RecoveredRedone value u logged
answer_of_recovery u (recovered.Trap kind) = answer.RecoveredTrap kind
answer_of_recovery u (recovered.Aborted kind) = answer.RecoveredAborted kind
answer_of_recovery u (recovered.Unusable kind) = answer.RefusedUnusable kind
answer_of_recovery u recovered.Numbers = answer.RefusedNumbers
answer_of_recovery u (recovered.Off phase) = answer.Stopped phase
answer_of_recovery u recovered.Failed = answer.DeviceFault
answer_of_recovery u recovered.NoMemory = answer.NoMemory

abbrev pub mode_of_recovery : RecoverAnswer → Mode
mode_of_recovery recovered.Clean = mode.Ready
mode_of_recovery (recovered.Redone value logged) = mode.Ready
mode_of_recovery (recovered.Trap kind) = mode.Unusable kind
mode_of_recovery (recovered.Aborted kind) = mode.Ready
mode_of_recovery (recovered.Unusable kind) = mode.Unusable kind
mode_of_recovery recovered.Numbers = mode.Down
mode_of_recovery (recovered.Off phase) = mode.Down
mode_of_recovery recovered.Failed = mode.Down
mode_of_recovery recovered.NoMemory = mode.Down

-- A call that is accepted, by whether its transaction is marked and whether it returns `uint64_t`.
pub record RunsBy (marked unsigned : Bool) (image : Image) (tx : ℕ) (args : List ℤ) (d : Device)
    (a : Answer) (n : Mode) (b : Device) (k k1 : ℕ) : Type 0 where
  pub tx_answer : CallAnswer
  pub called : IsTxCalled tx_answer (policy_of marked) image tx args d b k k1
  pub answer : a ≡ answer_of_call unsigned tx_answer
  pub mode : n ≡ mode_of_call tx_answer

-- A call of a transaction that only looks: the device stays as it is.
pub record Looks (unsigned : Bool) (image : Image) (tx : ℕ) (args : List ℤ) (d : Device)
    (a : Answer) (n : Mode) (b : Device) (k k1 : ℕ) : Type 0 where
  pub seen : LookAnswer
  pub looked : IsLooked seen image tx args d k k1
  pub answer : a ≡ answer_of_look unsigned seen
  pub mode : n ≡ mode_of_look seen
  pub same : b ≡ d
  pub most : k1 ≤ k + image.parts.most

-- a call that is accepted, by its marks
abbrev pub RunsAs : (looks marked unsigned : Bool) → Image → (tx : ℕ) → List ℤ → Device → Answer
    → Mode → Device → (k k1 : ℕ) → Type 0
RunsAs true marked unsigned image tx args d a n b k k1 =
    Looks unsigned image tx args d a n b k k1
RunsAs false marked unsigned image tx args d a n b k k1 =
    RunsBy marked unsigned image tx args d a n b k k1

abbrev pub Runs : Program → (tx : ℕ) → List ℤ → Device → Answer → Mode → Device
    → (k k1 : ℕ) → Type 0
Runs program tx args d a n b k k1 =
    RunsAs (looks_of program tx) (rolls_back_of program tx) (unsigned_of program tx) program.image
    tx args d a n b k k1

-- A recovery, by whether the pool owes a marked transaction, and one that returns `uint64_t`.
pub record RecoversBy (marked unsigned : Bool) (image : Image) (d : Device) (a : Answer) (n : Mode)
    (b : Device) (k k1 : ℕ) : Type 0 where
  pub tx_answer : RecoverAnswer
  pub recovered : IsRecovered tx_answer (policy_of marked) image d b k k1
  pub answer : a ≡ answer_of_recovery unsigned tx_answer
  pub mode : n ≡ mode_of_recovery tx_answer

abbrev pub Recovers : Program → Device → Answer → Mode → Device → (k k1 : ℕ) → Type 0
Recovers program d a n b k k1 =
    RecoversBy (owes_marked program d) (owes_unsigned program d) program.image d a n b k k1

-- an image is written on blank lines, and the pool in it is recovered
pub record Opens (program : Program) (words : List ℤ) (d : Device) (a : Answer) (n : Mode)
    (b : Device) (k k1 : ℕ) : Type 0 where
  pub opened : Device
  pub written : PlaysAll (blanked (pool_lines program.image.parts.sizes) d)
      (opening_events (pool_lines program.image.parts.sizes) words) opened
  pub recovers : Recovers program opened a n b k k1
