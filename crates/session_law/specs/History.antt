-- The history of a session is the list of transactions that are finished, in order: those that are
-- done, and those that were rolled back. A call that only looks is in no history. The commands, the
-- answers and the images that the commands find determine it.
use Rattle.std.specs.Prelude.{ℕ, suc, ◌+◌, ◌≡◌, ◌⊎◌, ◌&&◌, Bool, true, if◌then◌else◌, List}
use Rattle.std.specs.Prelude.{[], ◌∷◌, ◌++◌, length, Option, Some, None, ℤ, pos}
use Rattle.std.specs.Ordering.{int_eq}
use Rattle.cache_model.specs.Cache.{Words}
use Rattle.pool_layout.specs.declared.places.TheConstants.{DONE, SEAL}
use Rattle.pool_map.specs.PoolMap.{PoolMap}
use Rattle.c_meaning.specs.Transaction.{Outcome, Done, Trap}
use Rattle.cnvm_script.specs.declared.command.Command.{Command}
use Rattle.cnvm_script.specs.declared.command.Command.TheVariants as command
use Rattle.cnvm_session.specs.declared.answer.Answer.{Answer}
use Rattle.cnvm_session.specs.declared.answer.Answer.TheVariants as answer
use Rattle.cnvm_session.specs.declared.program.Program.{Program}
use Rattle.cnvm_session.specs.Commands.{call_number}
use Rattle.cnvm_session.specs.Marks.{rolls_back_of, looks_of}
use Rattle.session_law.specs.Source.{ComesBy}
use Rattle.session_law.specs.State.{Pending, Standing, Ready, Down, Unusable, SourceState}

-- the transaction that is owed, if any
abbrev pub waiting_of : Standing → List Pending
waiting_of Ready = []
waiting_of (Down None) = []
waiting_of (Down (Some owed)) = owed ∷ []
waiting_of (Unusable kind) = []

-- a call of the transaction of this number
abbrev pub call_to : Option ℕ → List ℤ → List Pending
call_to None args = []
call_to (Some tx) args = record { tx = tx; args = args } ∷ []

-- the number, unless that transaction only looks
abbrev pub counted : Program → Option ℕ → Option ℕ
counted program None = None
counted program (Some tx) = if looks_of program tx then None else Some tx

-- the transaction that a command calls, unless it only looks
abbrev pub call_in : Program → Command → List Pending
call_in program (command.Call name args) = call_to (counted program (call_number program name)) args
call_in program c = []

abbrev pub calls_in : Program → List Command → List Pending
calls_in program [] = []
calls_in program (c ∷ commands) = call_in program c ++ calls_in program commands

-- a call that is answered with a value is done; an aborted one is finished too
abbrev pub called_by : List Pending → Answer → List Pending
called_by call (answer.Done value unsigned logged) = call
called_by call (answer.Aborted kind) = call
called_by call a = []

-- The image that a power cut left has the seal of the next transaction and counts it as done: it
-- was done before the cut.
abbrev pub is_retired : SourceState → Words → Bool
is_retired s image = int_eq (image SEAL) (pos (suc s.done))
    && int_eq (image DONE) (pos (suc s.done))

-- After a power cut the owed transaction is finished if the recovery ran it to a value or rolled it
-- back, or if the image shows that it was finished before. A refused cut finishes nothing; nor does
-- one that finds a mark.
abbrev pub recovered_by : SourceState → Words → Answer → List Pending
recovered_by s image (answer.RecoveredRedone value unsigned logged) = waiting_of s.standing
recovered_by s image (answer.RecoveredAborted kind) = waiting_of s.standing
recovered_by s image (answer.RefusedPick line) = []
recovered_by s image (answer.RefusedUnusable kind) = []
recovered_by s image a = if is_retired s image then waiting_of s.standing else []

-- what a command has done, by its answer and the image that it found
abbrev pub done_by : Program → SourceState → Words → Command → Answer → List Pending
done_by program s image (command.Call name args) a =
    called_by (call_to (counted program (call_number program name)) args) a
done_by program s image (command.Power choice) a = recovered_by s image a
done_by program s image c a = []

abbrev pub history_after : Program → SourceState → Words → Command → Answer → List Pending
    → List Pending
history_after program s image c a history = history ++ done_by program s image c a

-- the calls that were answered with a value, or aborted, but for those that only look
abbrev pub answered_by : Program → Command → Answer → List Pending
answered_by program (command.Call name args) a =
    called_by (call_to (counted program (call_number program name)) args) a
answered_by program c a = []

abbrev pub answered_in : Program → List Command → List Answer → List Pending
answered_in program [] answers = []
answered_in program (c ∷ commands) [] = []
answered_in program (c ∷ commands) (a ∷ answers) =
    answered_by program c a ++ answered_in program commands answers

-- the pool after a finished transaction of this outcome: one that is rolled back leaves the pool as
-- it was
abbrev pub LeavesPool : (marked : Bool) → Outcome → (p q : PoolMap) → Type 0
LeavesPool marked (Done pool value) p q = q ≡ pool
LeavesPool marked (Trap kind) p q = (marked ≡ true) × (q ≡ p)

-- One transaction leads from the first pool to the second: it comes to a value, and the second pool
-- is the source's; or it is marked and rolled back, and the pool stays.
abbrev pub GivesPool : (marked : Bool) → Program → Pending → (p q : PoolMap) → Type 0
GivesPool marked program call p q =
    (logged : ℕ) × (outcome : Outcome)
    × ComesBy marked program p call.tx call.args logged outcome × LeavesPool marked outcome p q

-- these transactions, in order, lead from the first pool to the second
abbrev pub LeadsTo : Program → PoolMap → List Pending → PoolMap → Type 0
LeadsTo program p [] q = q ≡ p
LeadsTo program p (call ∷ calls) q =
    (r : PoolMap) × GivesPool (rolls_back_of program call.tx) program call p r
    × LeadsTo program r calls q

-- a sublist of the second list, in the same order
abbrev pub IsPart : List Pending → List Pending → Type 0
IsPart xs [] = xs ≡ []
IsPart xs (y ∷ ys) = IsPart xs ys ⊎ ((zs : List Pending) × (xs ≡ y ∷ zs) × IsPart zs ys)

-- These transactions were done between the two states: the source gives the pool after them, and
-- they are counted. Together with what is owed at the end they are a sublist of what was owed
-- before and the calls after it, so each occurs at most once, in order.
pub record HasDone (program : Program) (s t : SourceState) (done calls : List Pending) :
    Type 0 where
  pub pool : LeadsTo program s.pool done t.pool
  pub count : t.done ≡ s.done + length done
  pub part : IsPart (done ++ waiting_of t.standing) (waiting_of s.standing ++ calls)
