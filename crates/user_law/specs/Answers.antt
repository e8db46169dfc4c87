-- What each command answers, and what the user knows after it. Of the device this looks at one
-- image, the one that the command finds: for `power` what the cut left of the lines, for any other
-- command the newest versions. Of the image it reads the seal, the counts and the mark; and for
-- `show dead`, where a trap has ended the pool, the heap.
use Rattle.std.specs.Prelude.{ℕ, suc, ◌≡◌, ◌⊎◌, ◌==◌, ◌&&◌, Bool, true, false, List}
use Rattle.std.specs.Prelude.{length, Option, Some, None, ℤ, pos}
use Rattle.std.specs.Ordering.{int_eq}
use Rattle.cache_model.specs.Cache.{Words}
use Rattle.pmem.specs.declared.answer.Phase.{Phase}
use Rattle.pmem.specs.declared.answer.Phase.TheVariants as phase
use Rattle.pool_layout.specs.declared.places.TheConstants.{DONE, ATTEMPT, MARK, SEAL}
use Rattle.pool_map.specs.declared.trap.TrapKind.{TrapKind}
use Rattle.pool_map.specs.Trap.{trap_number}
use Rattle.pool_map.specs.PoolText.{pool_text}
use Rattle.c_types.specs.Shapes.{shapes_in}
use Rattle.c_meaning.specs.Transaction.{Outcome, Done, Trap}
use Rattle.tx_run.specs.Standing.{is_number}
use Rattle.cnvm_script.specs.declared.command.Command.{Command}
use Rattle.cnvm_script.specs.declared.command.Command.TheVariants as command
use Rattle.cnvm_session.specs.declared.answer.Answer.{Answer}
use Rattle.cnvm_session.specs.declared.answer.Answer.TheVariants as answer
use Rattle.session_law.specs.State.{Pending}
use Rattle.user_law.specs.Source.{Source, number_named, arity_of, rolls_back, looks, means}
use Rattle.user_law.specs.Source.{comes_to, gives_unsigned, pool_of_image}
use Rattle.user_law.specs.State.{UserStanding, Ready, Idle, Owed, Unusable, UserState, stands_as}
use Rattle.user_law.specs.State.{state_after}

-- how an outcome is answered by a call, and by a recovery that runs the call again
abbrev pub call_told : (rolls unsigned : Bool) → (logged : ℕ) → Outcome → Answer
call_told rolls unsigned logged (Done pool value) = answer.Done value unsigned logged
call_told true unsigned logged (Trap kind) = answer.Aborted kind
call_told false unsigned logged (Trap kind) = answer.Trap kind

abbrev pub recovery_told : (rolls unsigned : Bool) → (logged : ℕ) → Outcome → Answer
recovery_told rolls unsigned logged (Done pool value) =
    answer.RecoveredRedone value unsigned logged
recovery_told true unsigned logged (Trap kind) = answer.RecoveredAborted kind
recovery_told false unsigned logged (Trap kind) = answer.RecoveredTrap kind

abbrev pub call_told_by : Source → UserState → Pending → Answer
call_told_by p s call =
    call_told (rolls_back p call.tx) (gives_unsigned p call.tx) (p.logged s.pool call)
    (comes_to p s.pool call)

abbrev pub recovery_told_by : Source → UserState → Pending → Answer
recovery_told_by p s call =
    recovery_told (rolls_back p call.tx) (gives_unsigned p call.tx) (p.logged s.pool call)
    (comes_to p s.pool call)

-- the call is run to its end
abbrev pub finished : UserStanding → Source → UserState → Pending → UserState
finished standing p s call =
    state_after standing (rolls_back p call.tx) (comes_to p s.pool call) s

-- the answer is this one, and nothing changes
abbrev pub StaysWith : Answer → UserState → Answer → UserState → Type 0
StaysWith why s a t = (a ≡ why) × (t ≡ s)

-- one of the image's numbers is at its end, 2^62, so no transaction and no recovery can follow
abbrev pub NumbersAreOut : Words → Type 0
NumbersAreOut image = is_number (image DONE) && is_number (image ATTEMPT) ≡ false

-- The call was cut off, by the power, a fault or want of memory, and is owed; or the image's
-- numbers are out; or it was run to its end.
abbrev pub UserRuns : Source → UserState → Words → Pending → Answer → UserState → Type 0
UserRuns p s image call (answer.Stopped at) t = t ≡ stands_as (Owed call at) s
UserRuns p s image call answer.DeviceFault t = t ≡ stands_as (Owed call phase.Sealing) s
UserRuns p s image call answer.NoMemory t = t ≡ stands_as (Owed call phase.Sealing) s
UserRuns p s image call answer.RefusedNumbers t = NumbersAreOut image × (t ≡ s)
UserRuns p s image call a t =
    (a ≡ call_told_by p s call) × (t ≡ finished Ready p s call)

-- A call that only looks: the source comes to this value, on a pool that stays as it is, or to this
-- trap, and nothing changes. Or memory was wanting, and nothing is owed.
abbrev pub UserLooks : Source → UserState → Pending → Answer → UserState → Type 0
UserLooks p s call (answer.Done value unsigned logged) t =
    (means p s.pool call ≡ Done s.pool value) × (logged ≡ 0) × (t ≡ s)
    × (unsigned ≡ gives_unsigned p call.tx)
UserLooks p s call (answer.Aborted kind) t = (means p s.pool call ≡ Trap kind) × (t ≡ s)
UserLooks p s call answer.NoMemory t = t ≡ stands_as Idle s
UserLooks p s call a t = ⊥

-- a call that is run, by whether its transaction only looks
abbrev pub UserRunsAs : (looks : Bool) → Source → UserState → Words → Pending → Answer →
    UserState → Type 0
UserRunsAs true p s image call a t = UserLooks p s call a t
UserRunsAs false p s image call a t = UserRuns p s image call a t

-- a call that has as many arguments as the transaction has parameters is run
abbrev pub UserCallsWith : Bool → Source → UserState → Words → Pending → Answer →
    UserState → Type 0
UserCallsWith true p s image call a t = UserRunsAs (looks p call.tx) p s image call a t
UserCallsWith false p s image call a t = StaysWith answer.RefusedArity s a t

abbrev pub UserCallsTo : Option ℕ → Source → UserState → Words → Pending → Answer →
    UserState → Type 0
UserCallsTo None p s image call a t = StaysWith answer.RefusedUnknown s a t
UserCallsTo (Some count) p s image call a t =
    UserCallsWith (count == length call.args) p s image call a t

abbrev pub UserCallsNamed : Option ℕ → Source → UserState → Words → List ℤ → Answer →
    UserState
    → Type 0
UserCallsNamed None p s image args a t = StaysWith answer.RefusedUnknown s a t
UserCallsNamed (Some tx) p s image args a t =
    UserCallsTo (arity_of p tx) p s image (record { tx = tx; args = args }) a t

abbrev pub UserCalls : UserStanding → Source → UserState → Words → (name : List ℕ) →
    List ℤ → Answer
    → UserState → Type 0
UserCalls Ready p s image name args a t =
    UserCallsNamed (number_named p name) p s image args a t
UserCalls (Unusable kind) p s image name args a t =
    StaysWith (answer.RefusedUnusable kind) s a t
UserCalls standing p s image name args a t = StaysWith answer.RefusedDown s a t

-- the pool's text; or there was no memory for it
abbrev pub UserTells : Source → UserState → Answer → UserState → Type 0
UserTells p s answer.NoMemory t = t ≡ stands_as Idle s
UserTells p s a t = StaysWith (answer.Shown (pool_text (shapes_in p.tables) s.pool)) s a t

abbrev pub UserShows : UserStanding → Source → UserState → Answer → UserState → Type 0
UserShows Ready p s a t = UserTells p s a t
UserShows (Unusable kind) p s a t = StaysWith (answer.RefusedUnusable kind) s a t
UserShows standing p s a t = StaysWith answer.RefusedDown s a t

-- The text of the pool in the image, with the trap that has ended it: the user doesn't know this
-- pool. Or there was no memory for the text.
abbrev pub UserTellsDead : Source → Words → TrapKind → Answer → Type 0
UserTellsDead p image kind a =
    (a ≡ answer.ShownDead kind (pool_text (shapes_in p.tables) (pool_of_image p image)))
    ⊎ (a ≡ answer.NoMemory)

-- only where a trap has ended the pool the answer isn't that of `show`; and then nothing changes
abbrev pub UserShowsDead : UserStanding → Source → UserState → Words → Answer → UserState → Type 0
UserShowsDead (Unusable kind) p s image a t = UserTellsDead p image kind a × (t ≡ s)
UserShowsDead standing p s image a t = UserShows standing p s a t

abbrev pub UserLasts : UserStanding → UserState → Answer → UserState → Type 0
UserLasts Ready s a t = StaysWith (answer.Last (pos s.done) s.last) s a t
UserLasts (Unusable kind) s a t = StaysWith (answer.RefusedUnusable kind) s a t
UserLasts standing s a t = StaysWith answer.RefusedDown s a t

-- the image has the seal of the next transaction
abbrev pub has_next_seal : UserState → Words → Bool
has_next_seal s image = int_eq (image SEAL) (pos (suc s.done))

-- the image counts the next transaction as finished
abbrev pub has_next_count : UserState → Words → Bool
has_next_count s image = int_eq (image DONE) (pos (suc s.done))

-- What is known of a cut off call once an image is found: without the seal, nothing of it is there;
-- with the seal and the count it was finished before the cut; with the seal alone it is run again.
abbrev pub found_by_seal : (seal count : Bool) → Source → UserState → Pending → UserState
found_by_seal false count p s call = stands_as Idle s
found_by_seal true true p s call = finished Idle p s call
found_by_seal true false p s call = stands_as (Owed call phase.Sealed) s

abbrev pub found_as : UserStanding → Source → UserState → Words → UserState
found_as (Owed call seal) p s image =
    found_by_seal (has_next_seal s image) (has_next_count s image) p s call
found_as (Unusable kind) p s image = s
found_as standing p s image = stands_as Idle s

-- the recovery came to its end
abbrev pub RecoveryEnds : UserStanding → Source → UserState → Answer → UserState → Type 0
RecoveryEnds Idle p s a t = (a ≡ answer.RecoveredNone) × (t ≡ stands_as Ready s)
RecoveryEnds (Owed call seal) p s a t =
    (a ≡ recovery_told_by p s call) × (t ≡ finished Ready p s call)
RecoveryEnds standing p s a t = ⊥

-- where the power went during a recovery: a call that is run again is sealed
abbrev pub phase_owed : UserStanding → Phase
phase_owed (Owed call seal) = phase.Sealed
phase_owed standing = phase.Unsealed

-- The answer of a recovery from what is found. Unless it comes to its end, what is known stays.
abbrev pub UserRecovers : Source → UserState → Words → Answer → UserState → Type 0
UserRecovers p s image (answer.Stopped at) t = (at ≡ phase_owed s.standing) × (t ≡ s)
UserRecovers p s image answer.DeviceFault t = t ≡ s
UserRecovers p s image answer.NoMemory t = t ≡ s
UserRecovers p s image answer.RefusedNumbers t = NumbersAreOut image × (t ≡ s)
UserRecovers p s image a t = RecoveryEnds s.standing p s a t

-- The pool has a mark: the trap of the cut off call, which isn't marked `abort`; or one that was
-- answered before.
abbrev pub HasTrapped : UserStanding → Source → UserState → TrapKind → Type 0
HasTrapped (Owed call seal) p s kind =
    (rolls_back p call.tx ≡ false) × (comes_to p s.pool call ≡ Trap kind)
HasTrapped (Unusable trap) p s kind = kind ≡ trap
HasTrapped standing p s kind = ⊥

-- The answer of `power`. A pick that doesn't fit changes nothing. Else an image with a mark is
-- unusable, and any other is recovered.
abbrev pub UserPowers : Source → UserState → Words → Answer → UserState → Type 0
UserPowers p s image (answer.RefusedPick line) t = t ≡ s
UserPowers p s image (answer.RefusedUnusable kind) t =
    (image MARK ≡ pos (trap_number kind)) × HasTrapped s.standing p s kind
    × (t ≡ stands_as (Unusable kind) s)
UserPowers p s image a t =
    (image MARK ≡ pos 0) × UserRecovers p (found_as s.standing p s image) image a t

abbrev pub UserAnswers : Source → UserState → Words → Command → Answer → UserState → Type 0
UserAnswers p s image (command.Call name args) a t =
    UserCalls s.standing p s image name args a t
UserAnswers p s image (command.Stop left) a t = StaysWith answer.Silent s a t
UserAnswers p s image (command.Fault at) a t = StaysWith answer.Silent s a t
UserAnswers p s image (command.Power choice) a t = UserPowers p s image a t
UserAnswers p s image command.Show a t = UserShows s.standing p s a t
UserAnswers p s image command.ShowDead a t = UserShowsDead s.standing p s image a t
UserAnswers p s image command.Last a t = UserLasts s.standing s a t
