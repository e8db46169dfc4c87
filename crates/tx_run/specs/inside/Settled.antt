-- What only bodies and proofs need beside `Settled`.
use Rattle.std.specs.Prelude.{ℕ, ℤ}
use Rattle.pmem.specs.declared.answer.LogAnswer.{LogAnswer}
use Rattle.pmem.specs.declared.answer.LogAnswer.TheVariants as log
use Rattle.pmem.specs.declared.answer.Phase.TheVariants as phase
use Rattle.pool_map.specs.declared.trap.TrapKind.{TrapKind}
use Rattle.pm_machine.specs.declared.records.Policy.{Policy}
use Rattle.pm_machine.specs.declared.records.Policy.TheVariants.{EndPool, RollBack}
use Rattle.tx_run.specs.declared.answer.CallAnswer.{CallAnswer}
use Rattle.tx_run.specs.declared.answer.CallAnswer.TheVariants as call
use Rattle.tx_run.specs.declared.answer.Settled.{Settled}
use Rattle.tx_run.specs.declared.answer.Settled.TheVariants as settled

abbrev pub log_done : LogAnswer → ℤ → ℕ → Settled
log_done log.Done v l = settled.Done v l
log_done log.Off v l = settled.Off
log_done log.Failed v l = settled.Failed
log_done log.NoMemory v l = settled.NoMemory

abbrev pub trap_done : Policy → TrapKind → Settled
trap_done EndPool k = settled.Trap k
trap_done RollBack k = settled.Aborted k

abbrev pub log_trap : LogAnswer → Policy → TrapKind → Settled
log_trap log.Done p k = trap_done p k
log_trap log.Off p k = settled.Off
log_trap log.Failed p k = settled.Failed
log_trap log.NoMemory p k = settled.NoMemory

-- After the seal, a power cut is in phase sealed.
abbrev pub call_answer : Settled → CallAnswer
call_answer (settled.Done v l) = call.Done v l
call_answer (settled.Trap k) = call.Trap k
call_answer (settled.Aborted k) = call.Aborted k
call_answer settled.Off = call.Off phase.Sealed
call_answer settled.Failed = call.Failed
call_answer settled.NoMemory = call.NoMemory
