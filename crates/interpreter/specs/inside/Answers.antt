-- What only bodies and proofs need beside `Answers`.
use Rattle.std.specs.Prelude.{◌≡◌, ◌≢◌, ℕ, ℤ, Option, None, Some, Result, Ok, Err, IsErrOf}
use Rattle.pool_map.specs.declared.trap.TrapKind.{TrapKind}
use Rattle.pool_map.specs.declared.trap.TrapKind.TheVariants.{LogFull}
use Rattle.c_meaning.specs.declared.trap_at.TrapAt.{TrapAt}
use Rattle.c_meaning.specs.Meaning.{Out, Stops}
use Rattle.c_meaning.specs.Transaction.{Done, outcome}
use Rattle.interpreter.specs.declared.fault.Fault.{Fault}
use Rattle.interpreter.specs.declared.fault.Fault.TheVariants.{Trapped, NoMemory}
use Rattle.interpreter.specs.declared.answer.PlainAnswer.{PlainAnswer}
use Rattle.interpreter.specs.declared.answer.PlainAnswer.TheVariants as answer
use Rattle.pool_map.specs.PoolMap.{PoolMap}

-- A run that ended like this has this outcome. Of want of memory nothing is said.
abbrev pub RunGives : Result (PoolMap × ℤ) Fault → Out ℤ → Type 0
RunGives (Ok done) out = outcome out ≡ Done done.0 done.1
RunGives (Err NoMemory) out = Unit
RunGives (Err (Trapped trap)) out = out ≡ Stops trap

-- the answer for a run that ended like this
abbrev pub plain_answer : Result (PoolMap × ℤ) Fault → PlainAnswer
plain_answer (Ok done) = answer.Done done.0 done.1
plain_answer (Err (Trapped trap)) = answer.Trap trap.kind
plain_answer (Err NoMemory) = answer.NoMemory

-- the place where it trapped, or want of memory
abbrev pub place_answer : {E : Type 0} → Result (PoolMap × ℤ) Fault → E → Result (Option ℕ) E
place_answer (Ok done) e = Ok None
place_answer (Err (Trapped trap)) e = Ok (Some trap.place)
place_answer (Err NoMemory) e = Err e

-- the trap logfull, which belongs to the runtime, doesn't occur
abbrev pub Quiet : {A : Type 0} → Result A Fault → Type 0
Quiet (Ok a) = Unit
Quiet (Err NoMemory) = Unit
Quiet (Err (Trapped trap)) = trap.kind ≢ LogFull

-- the same of a trap with its place, and of one without
abbrev pub QuietAt : {A : Type 0} → Result A TrapAt → Type 0
QuietAt (Ok a) = Unit
QuietAt (Err trap) = trap.kind ≢ LogFull

abbrev pub QuietTrap : {A : Type 0} → Result A TrapKind → Type 0
QuietTrap r = IsErrOf r LogFull → ⊥
