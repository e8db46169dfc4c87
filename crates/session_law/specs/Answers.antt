-- What a command answers in a session by the source alone, and what the source knows after it. Of
-- the device it looks only at the image that the command finds: for `power` what the cut left, for
-- any other command the view. Of the image it reads the number of transactions done, the attempt,
-- the mark and the seal; and for `show dead` of a pool that a trap has ended, the heap.
use Rattle.std.specs.Prelude.{ℕ, suc, ◌≡◌, ◌≢◌, ◌⊎◌, ◌==◌, ◌&&◌, Bool, true, false, List, length}
use Rattle.std.specs.Prelude.{Option, Some, None, ℤ, pos}
use Rattle.cache_model.specs.Cache.{Words}
use Rattle.pmem.specs.declared.answer.Phase.TheVariants as phase
use Rattle.pool_layout.specs.declared.places.TheConstants.{DONE, ATTEMPT, MARK, SEAL}
use Rattle.pool_map.specs.declared.trap.TrapKind.{TrapKind}
use Rattle.pool_map.specs.Trap.{trap_number}
use Rattle.pool_map.specs.PoolMap.{PoolMap}
use Rattle.pool_map.specs.PoolText.{pool_text}
use Rattle.c_types.specs.Shapes.{shapes_of}
use Rattle.c_meaning.specs.Transaction.{Outcome, Done, Trap}
use Rattle.clobber_log.specs.Logs.{attempt_in, count_in}
use Rattle.tx_run.specs.Standing.{is_number}
use Rattle.recovery.specs.Found.{has_numbers}
use Rattle.cnvm_script.specs.declared.command.Command.{Command}
use Rattle.cnvm_script.specs.declared.command.Command.TheVariants as command
use Rattle.cnvm_session.specs.declared.answer.Answer.{Answer}
use Rattle.cnvm_session.specs.declared.answer.Answer.TheVariants as answer
use Rattle.cnvm_session.specs.declared.program.Program.{Program}
use Rattle.cnvm_session.specs.Commands.{call_number}
use Rattle.cnvm_session.specs.Marks.{rolls_back_of, looks_of, unsigned_of}
use Rattle.cnvm_session.specs.Pool.{sizes_of}
use Rattle.session_law.specs.Source.{source_parameters, means, ComesBy, pool_of_image}
use Rattle.session_law.specs.State.{Pending, Standing, Ready, Down, Unusable, SourceState}
use Rattle.session_law.specs.State.{standing_as, done_with, undone_as}

-- the answer is this one, and nothing changes
abbrev pub Refused : Answer → SourceState → Answer → SourceState → Type 0
Refused why s a t = (a ≡ why) × (t ≡ s)

-- The transaction is done: it comes to this value and to the next pool, with this number of logged
-- stores; and the answer tells exactly whether it returns `uint64_t`.
abbrev pub IsDoneWith : (marked : Bool) → Program → SourceState → (tx : ℕ) → List ℤ → (value : ℤ)
    → (unsigned : Bool) → (logged : ℕ) → Standing → SourceState → Type 0
IsDoneWith marked program s tx args value unsigned logged standing t =
    (pool : PoolMap) × ComesBy marked program s.pool tx args logged (Done pool value)
    × (t ≡ done_with pool value standing s) × (unsigned ≡ unsigned_of program tx)

-- the transaction comes to this trap
abbrev pub TrapsAs : (marked : Bool) → Program → SourceState → (tx : ℕ) → List ℤ → TrapKind → Type 0
TrapsAs marked program s tx args kind =
    (logged : ℕ) × ComesBy marked program s.pool tx args logged (Trap kind)

-- the transaction was interrupted, so it is owed
abbrev pub IsCutOff : SourceState → (tx : ℕ) → List ℤ → SourceState → Type 0
IsCutOff s tx args t = t ≡ standing_as (Down (Some (record { tx = tx; args = args }))) s

-- the image's numbers are at their ends, so no call can follow; nothing changes
abbrev pub IsOutOfNumbers : SourceState → Words → SourceState → Type 0
IsOutOfNumbers s image t =
    (is_number (image DONE) && is_number (image ATTEMPT) ≡ false) × (t ≡ s)

-- The answer of a call, by whether its transaction is marked. A trap makes the pool unusable; a
-- marked transaction is rolled back, and the pool stays usable.
abbrev pub RunsBy : (marked : Bool) → Program → SourceState → Words → (tx : ℕ) → List ℤ → Answer
    → SourceState → Type 0
RunsBy marked program s image tx args (answer.Done value unsigned logged) t =
    IsDoneWith marked program s tx args value unsigned logged Ready t
RunsBy marked program s image tx args (answer.Trap kind) t =
    (marked ≡ false) × TrapsAs marked program s tx args kind × (t ≡ standing_as (Unusable kind) s)
RunsBy marked program s image tx args (answer.Aborted kind) t =
    (marked ≡ true) × TrapsAs marked program s tx args kind × (t ≡ undone_as Ready s)
RunsBy marked program s image tx args (answer.Stopped at) t = IsCutOff s tx args t
RunsBy marked program s image tx args answer.DeviceFault t = IsCutOff s tx args t
RunsBy marked program s image tx args answer.NoMemory t = IsCutOff s tx args t
RunsBy marked program s image tx args answer.RefusedNumbers t = IsOutOfNumbers s image t
RunsBy marked program s image tx args a t = ⊥

-- The answer of a call that only looks: the transaction comes to this value, on a pool that stays
-- as it is, or to this trap, and nothing changes. Without memory for it the session is down.
abbrev pub Looks : Program → SourceState → (tx : ℕ) → List ℤ → Answer → SourceState → Type 0
Looks program s tx args (answer.Done value unsigned logged) t =
    (means program s.pool tx args ≡ Done s.pool value) × (logged ≡ 0) × (t ≡ s)
    × (unsigned ≡ unsigned_of program tx)
Looks program s tx args (answer.Aborted kind) t =
    (means program s.pool tx args ≡ Trap kind) × (t ≡ s)
Looks program s tx args answer.NoMemory t = t ≡ standing_as (Down None) s
Looks program s tx args a t = ⊥

-- the same of any call, by its marks
abbrev pub RunsAs : (looks marked : Bool) → Program → SourceState → Words → (tx : ℕ) → List ℤ
    → Answer → SourceState → Type 0
RunsAs true marked program s image tx args a t = Looks program s tx args a t
RunsAs false marked program s image tx args a t = RunsBy marked program s image tx args a t

-- the answer of a call whose transaction takes these arguments
abbrev pub Runs : Program → SourceState → Words → (tx : ℕ) → List ℤ → Answer → SourceState → Type 0
Runs program s image tx args a t =
    RunsAs (looks_of program tx) (rolls_back_of program tx) program s image tx args a t

abbrev pub CallsWith : Bool → Program → SourceState → Words → (tx : ℕ) → List ℤ → Answer
    → SourceState → Type 0
CallsWith true program s image tx args a t = Runs program s image tx args a t
CallsWith false program s image tx args a t = Refused answer.RefusedArity s a t

abbrev pub CallsTo : Option ℕ → Program → SourceState → Words → (tx : ℕ) → List ℤ → Answer
    → SourceState → Type 0
CallsTo None program s image tx args a t = Refused answer.RefusedUnknown s a t
CallsTo (Some count) program s image tx args a t =
    CallsWith (count == length args) program s image tx args a t

abbrev pub CallsNamed : Option ℕ → Program → SourceState → Words → List ℤ → Answer
    → SourceState → Type 0
CallsNamed None program s image args a t = Refused answer.RefusedUnknown s a t
CallsNamed (Some tx) program s image args a t =
    CallsTo (source_parameters program tx) program s image tx args a t

abbrev pub Calls : Standing → Program → SourceState → Words → (name : List ℕ) → List ℤ
    → Answer → SourceState → Type 0
Calls Ready program s image name args a t =
    CallsNamed (call_number program name) program s image args a t
Calls (Down owed) program s image name args a t = Refused answer.RefusedDown s a t
Calls (Unusable kind) program s image name args a t =
    Refused (answer.RefusedUnusable kind) s a t

-- the pool's text; or there was no memory for it
abbrev pub Tells : Program → SourceState → Answer → SourceState → Type 0
Tells program s (answer.Shown text) t =
    (text ≡ pool_text (shapes_of program.typed) s.pool) × (t ≡ s)
Tells program s answer.NoMemory t = t ≡ standing_as (Down None) s
Tells program s a t = ⊥

abbrev pub Shows : Standing → Program → SourceState → Answer → SourceState → Type 0
Shows Ready program s a t = Tells program s a t
Shows (Down owed) program s a t = Refused answer.RefusedDown s a t
Shows (Unusable kind) program s a t = Refused (answer.RefusedUnusable kind) s a t

-- The text of the pool in the image, with the trap that has ended it: the source doesn't know this
-- pool. Or there was no memory for the text.
abbrev pub TellsDead : Program → Words → TrapKind → Answer → Type 0
TellsDead program image kind a =
    (a ≡ answer.ShownDead kind
    (pool_text (shapes_of program.typed) (pool_of_image program image)))
    ⊎ (a ≡ answer.NoMemory)

-- only where a trap has ended the pool the answer isn't that of `show`; and then nothing changes
abbrev pub ShowsDead : Standing → Program → SourceState → Words → Answer → SourceState → Type 0
ShowsDead Ready program s image a t = Shows Ready program s a t
ShowsDead (Down owed) program s image a t = Shows (Down owed) program s a t
ShowsDead (Unusable kind) program s image a t = TellsDead program image kind a × (t ≡ s)

abbrev pub Lasts : Standing → SourceState → Answer → SourceState → Type 0
Lasts Ready s a t = Refused (answer.Last (pos s.done) s.last) s a t
Lasts (Down owed) s a t = Refused answer.RefusedDown s a t
Lasts (Unusable kind) s a t = Refused (answer.RefusedUnusable kind) s a t

-- the image has the seal of the next transaction
abbrev pub HasSeal : SourceState → Words → Type 0
HasSeal s image = image SEAL ≡ pos (suc s.done)

-- how a transaction of this outcome is finished: it is done; or rolled back, if it is marked
abbrev pub ConcludesAs : (marked : Bool) → Outcome → Standing → (s t : SourceState) → Type 0
ConcludesAs marked (Done pool value) standing s t = t ≡ done_with pool value standing s
ConcludesAs marked (Trap kind) standing s t = (marked ≡ true) × (t ≡ undone_as standing s)

-- the owed transaction was run to its end, and is finished as the source says
abbrev pub IsConcluded : (marked : Bool) → Program → Pending → SourceState → Standing
    → SourceState → Type 0
IsConcluded marked program owed s standing t =
    (logged : ℕ) × (outcome : Outcome)
    × ComesBy marked program s.pool owed.tx owed.args logged outcome
    × ConcludesAs marked outcome standing s t

-- What is known of an owed transaction once the power is back. Without its seal in the image
-- nothing of it is done; with the seal it was finished before the cut, or is still owed.
abbrev pub FindsOf : Option Pending → Program → SourceState → Words → SourceState → Type 0
FindsOf None program s image t = t ≡ standing_as (Down None) s
FindsOf (Some owed) program s image t =
    ((image SEAL ≢ pos (suc s.done)) × (t ≡ standing_as (Down None) s))
    ⊎ ((HasSeal s image × (image DONE ≡ pos (suc s.done))
    × IsConcluded (rolls_back_of program owed.tx) program owed s (Down None) t)
    ⊎ (HasSeal s image × (image DONE ≡ pos s.done) × (t ≡ standing_as (Down (Some owed)) s)))

abbrev pub FindsOwed : Standing → Program → SourceState → Words → SourceState → Type 0
FindsOwed Ready program s image t = FindsOf None program s image t
FindsOwed (Down owed) program s image t = FindsOf owed program s image t
FindsOwed (Unusable kind) program s image t = ⊥

-- the attempts are at their end, so no recovery can follow; nothing changes
abbrev pub HasNumbers : Program → Words → SourceState → SourceState → Type 0
HasNumbers program image s t =
    (has_numbers (count_in (sizes_of program) image) (attempt_in (sizes_of program) image) ≡ true)
    × (t ≡ s)

-- the answer of a recovery where nothing is owed
abbrev pub Rests : Program → SourceState → Words → Answer → SourceState → Type 0
Rests program s image answer.RecoveredNone t = t ≡ standing_as Ready s
Rests program s image answer.RefusedNumbers t = HasNumbers program image s t
Rests program s image (answer.Stopped at) t = (at ≡ phase.Unsealed) × (t ≡ s)
Rests program s image answer.DeviceFault t = t ≡ s
Rests program s image answer.NoMemory t = t ≡ s
Rests program s image a t = ⊥

-- the answer of a recovery where a transaction is owed, by whether it is marked
abbrev pub RedoesBy : (marked : Bool) → Program → Pending → SourceState → Words → Answer
    → SourceState → Type 0
RedoesBy marked program owed s image (answer.RecoveredRedone value unsigned logged) t =
    IsDoneWith marked program s owed.tx owed.args value unsigned logged Ready t
RedoesBy marked program owed s image (answer.RecoveredTrap kind) t =
    (marked ≡ false) × TrapsAs marked program s owed.tx owed.args kind
    × (t ≡ standing_as (Unusable kind) s)
RedoesBy marked program owed s image (answer.RecoveredAborted kind) t =
    (marked ≡ true) × TrapsAs marked program s owed.tx owed.args kind × (t ≡ undone_as Ready s)
RedoesBy marked program owed s image answer.RefusedNumbers t = HasNumbers program image s t
RedoesBy marked program owed s image (answer.Stopped at) t = (at ≡ phase.Sealed) × (t ≡ s)
RedoesBy marked program owed s image answer.DeviceFault t = t ≡ s
RedoesBy marked program owed s image answer.NoMemory t = t ≡ s
RedoesBy marked program owed s image a t = ⊥

abbrev pub Redoes : Program → Pending → SourceState → Words → Answer → SourceState → Type 0
Redoes program owed s image a t =
    RedoesBy (rolls_back_of program owed.tx) program owed s image a t

abbrev pub Recovers : Standing → Program → SourceState → Words → Answer → SourceState → Type 0
Recovers Ready program s image a t = ⊥
Recovers (Down None) program s image a t = Rests program s image a t
Recovers (Down (Some owed)) program s image a t = Redoes program owed s image a t
Recovers (Unusable kind) program s image a t = ⊥

-- a trap of the owed transaction marks the pool, unless the transaction rolls back
abbrev pub MarksAs : (marked : Bool) → Program → SourceState → Pending → TrapKind → Type 0
MarksAs marked program s owed kind =
    (marked ≡ false) × TrapsAs marked program s owed.tx owed.args kind

-- the pool ended with this trap: just now, by the owed transaction, or earlier
abbrev pub IsMarked : Standing → Program → SourceState → TrapKind → Type 0
IsMarked Ready program s kind = ⊥
IsMarked (Down None) program s kind = ⊥
IsMarked (Down (Some owed)) program s kind =
    MarksAs (rolls_back_of program owed.tx) program s owed kind
IsMarked (Unusable trap) program s kind = kind ≡ trap

-- The answer of `power`. A pick that doesn't fit changes nothing. Else a pool with a mark is
-- unusable; without one, what is owed is recovered.
abbrev pub Powers : Program → SourceState → Words → Answer → SourceState → Type 0
Powers program s image (answer.RefusedPick line) t = t ≡ s
Powers program s image (answer.RefusedUnusable kind) t =
    (image MARK ≡ pos (trap_number kind)) × IsMarked s.standing program s kind
    × (t ≡ standing_as (Unusable kind) s)
Powers program s image a t =
    (image MARK ≡ pos 0)
    × ((found : SourceState) × FindsOwed s.standing program s image found
    × Recovers found.standing program found image a t)

abbrev pub Answers : Program → SourceState → Words → Command → Answer
    → SourceState → Type 0
Answers program s image (command.Call name args) a t =
    Calls s.standing program s image name args a t
Answers program s image (command.Stop left) a t = Refused answer.Silent s a t
Answers program s image (command.Fault at) a t = Refused answer.Silent s a t
Answers program s image (command.Power choice) a t = Powers program s image a t
Answers program s image command.Show a t = Shows s.standing program s a t
Answers program s image command.ShowDead a t = ShowsDead s.standing program s image a t
Answers program s image command.Last a t = Lasts s.standing s a t
