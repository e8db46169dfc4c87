-- The laws of commands: at rest no power cut changes what a session shows of its pool, and a
-- refused command changes nothing.
use Rattle.std.specs.Prelude.{ℕ, ◌+◌, ◌^◌, ◌<◌, ◌≤◌, ◌≡◌, ◌≢◌, ◌⊎◌, false, None, ℤ, pos}
use Rattle.cache_model.specs.Cache.{Words, Cache, view}
use Rattle.cache_model.specs.Image.{Images, HasOne}
use Rattle.cache_model.specs.Collapse.{bad}
use Rattle.cache_model.specs.declared.choice.Choice.{Choice}
use Rattle.pmem.specs.Device.{Device, memory_of, powered}
use Rattle.pmem.specs.declared.answer.Phase.TheVariants as phase
use Rattle.pool_layout.specs.declared.places.TheConstants.{LAST, DONE, ATTEMPT, MARK}
use Rattle.pool_layout.specs.declared.limits.Sizes.{Sizes}
use Rattle.pool_layout.specs.Image.{is_sealed}
use Rattle.pool_layout.specs.Good.{Pool}
use Rattle.pm_machine.specs.HeapPool.{heap_of}
use Rattle.crash_law.specs.Pools.{IsBefore}
use Rattle.clobber_log.specs.Logs.{attempt_in, count_in}
use Rattle.tx_run.specs.Standing.{trap_of_mark}
use Rattle.recovery.specs.Found.{has_numbers}
use Rattle.cnvm_script.specs.declared.command.Command.{Command}
use Rattle.cnvm_script.specs.declared.command.Command.TheVariants as command
use Rattle.cnvm_session.specs.declared.mode.Mode.{Mode}
use Rattle.cnvm_session.specs.declared.mode.Mode.TheVariants.{Ready, Down, Unusable}
use Rattle.cnvm_session.specs.declared.answer.Answer.{Answer}
use Rattle.cnvm_session.specs.declared.answer.Answer.TheVariants.{Stopped, DeviceFault}
use Rattle.cnvm_session.specs.declared.answer.Answer.TheVariants.{RecoveredNone, NoMemory}
use Rattle.cnvm_session.specs.declared.answer.Answer.TheVariants.{RefusedDown, RefusedUnusable}
use Rattle.cnvm_session.specs.declared.answer.Answer.TheVariants.{RefusedUnknown, RefusedArity}
use Rattle.cnvm_session.specs.declared.answer.Answer.TheVariants.{RefusedNumbers, RefusedPick}
use Rattle.cnvm_session.specs.declared.program.Program.{Program}
use Rattle.cnvm_session.specs.Commands.{fallen, Commanded}
use Rattle.cnvm_session.specs.Steps.{most_of_command, most_of_program}

-- `show` and `last` answer the same for both: the heap, the number of finished transactions and the
-- value of the last.
pub record TellTheSame (s : Sizes) (v w : Words) : Type 0 where
  pub heap : heap_of s v ≡ heap_of s w
  pub done : v DONE ≡ w DONE
  pub value : v LAST ≡ w LAST

-- An image at rest: it has no mark, no call is sealed, and if a record is valid, another attempt
-- can follow.
pub record IsQuiet (s : Sizes) (image : Words) : Type 0 where
  pub mark : image MARK ≡ pos 0
  pub unsealed : is_sealed image ≡ false
  pub numbers : has_numbers (count_in s image) (attempt_in s image) ≡ false

-- A cache at rest: each image that a power cut may leave is at rest, and shows what the view shows.
pub record IsCacheAtRest (s : Sizes) (c : Cache) : Type 0 where
  pub quiet : Images (IsQuiet s) c
  pub alike : Images (λ image. TellTheSame s image (view c)) c

-- Nothing was owed, or the recovery was interrupted at one of its events.
abbrev pub OwesNothing : Answer → Mode → Type 0
OwesNothing RecoveredNone n = n ≡ Ready
OwesNothing (Stopped phase.Unsealed) n = n ≡ Down
OwesNothing DeviceFault n = n ≡ Down
OwesNothing NoMemory n = n ≡ Down
OwesNothing a n = ⊥

-- At rest no choice whose picks fit changes what the view shows, wherever the recovery ends. If no
-- image has a valid record either, the recovery has no event: the answer is `recovered none`, and
-- the device is what the power cut left.
abbrev pub SessionRestLaw : Type 0
SessionRestLaw =
    (program : Program) (choice : Choice) (m n : Mode) (d b : Device) (a : Answer) (k k1 : ℕ) →
    IsCacheAtRest program.image.parts.sizes d.cache → fallen 0 choice.picks ≡ None
    → bad (memory_of d) choice.picks ≡ None →
    Commanded program (command.Power choice) m d a n b k k1 →
    TellTheSame program.image.parts.sizes (view b.cache) (view d.cache) × OwesNothing a n
    × (Images (λ image. count_in program.image.parts.sizes image ≡ 0) d.cache → (a ≡ RecoveredNone)
    × (n ≡ Ready) × (b ≡ powered choice d))

-- A cache whose lines each have one version, or only equal ones, is at rest if its view is.
abbrev pub OneLaw : Type 0
OneLaw = (s : Sizes) (c : Cache) → HasOne c (view c) → IsQuiet s (view c) → IsCacheAtRest s c

-- A cache is at rest if the crash law says of each image that it is before a call: good, with this
-- heap, this number of finished transactions and this value of the last, and with an attempt below
-- 2^62.
abbrev pub GoodLaw : Type 0
GoodLaw =
    (pool : Pool) (f : ℕ) (h : ℕ → ℤ) (last : ℤ) (c : Cache) →
    Images (IsBefore pool f h last) c
    → Images (λ image. (a : ℕ) → image ATTEMPT ≡ pos a → a < 2 ^ 62) c →
    IsCacheAtRest pool.sizes c

-- A command is refused. `power` is refused only for a bad pick: after any other choice the power
-- was cut, whatever the recovery answers.
abbrev pub IsRefusal : Answer → Type 0
IsRefusal RefusedDown = Unit {0}
IsRefusal (RefusedUnusable kind) = Unit {0}
IsRefusal RefusedUnknown = Unit {0}
IsRefusal RefusedArity = Unit {0}
IsRefusal RefusedNumbers = Unit {0}
IsRefusal a = ⊥

abbrev pub IsBadPick : Answer → Type 0
IsBadPick (RefusedPick line) = Unit {0}
IsBadPick a = ⊥

abbrev pub IsRefused : Command → Answer → Type 0
IsRefused (command.Power choice) a = IsBadPick a
IsRefused c a = IsRefusal a

-- the session stays as it was; or it was ready on a pool with a mark, and now knows the mark
abbrev pub StaysOrMarks : Mode → Device → Mode → Type 0
StaysOrMarks m d n = (n ≡ m) ⊎ ((m ≡ Ready) × (view d.cache MARK ≢ pos 0)
    × (n ≡ Unusable (trap_of_mark (view d.cache MARK))))

-- A refused command changes neither a line, a version, an armed event or a count of the device, nor
-- the count of steps. The session stays as it was, unless it was ready on a pool with a mark: then
-- it becomes unusable with the mark's trap.
abbrev pub RefusedLaw : Type 0
RefusedLaw =
    (program : Program) (c : Command) (m n : Mode) (d b : Device) (a : Answer) (k k1 : ℕ) →
    IsRefused c a → Commanded program c m d a n b k k1 →
    (b ≡ d) × StaysOrMarks m d n × (k1 ≡ k)

-- No command takes more steps than its bound, nor than that of the program.
abbrev pub MostLaw : Type 0
MostLaw =
    (program : Program) (c : Command) (m n : Mode) (d b : Device) (a : Answer) (k k1 : ℕ) →
    Commanded program c m d a n b k k1 →
    (k1 ≤ k + most_of_command program c d) × (k1 ≤ k + most_of_program program)
