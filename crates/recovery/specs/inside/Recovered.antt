-- What only bodies and proofs need beside `Recovered`.
use Rattle.pmem.specs.declared.answer.Phase.TheVariants as phase
use Rattle.pmem.specs.declared.answer.LogAnswer.{LogAnswer}
use Rattle.pmem.specs.declared.answer.LogAnswer.TheVariants as log
use Rattle.tx_run.specs.declared.answer.Settled.{Settled}
use Rattle.tx_run.specs.declared.answer.Settled.TheVariants as settled
use Rattle.recovery.specs.declared.answer.RecoverAnswer.{RecoverAnswer}
use Rattle.recovery.specs.declared.answer.RecoverAnswer.TheVariants.{Clean, Redone, Trap, Aborted}
use Rattle.recovery.specs.declared.answer.RecoverAnswer.TheVariants.{Off, Failed, NoMemory}

-- If the pool is sealed, a power cut is in phase sealed, else in phase unsealed.
abbrev pub redo_answer : Settled → RecoverAnswer
redo_answer (settled.Done v l) = Redone v l
redo_answer (settled.Trap k) = Trap k
redo_answer (settled.Aborted k) = Aborted k
redo_answer settled.Off = Off phase.Sealed
redo_answer settled.Failed = Failed
redo_answer settled.NoMemory = NoMemory

abbrev pub clean_answer : LogAnswer → RecoverAnswer
clean_answer log.Done = Clean
clean_answer log.Off = Off phase.Unsealed
clean_answer log.Failed = Failed
clean_answer log.NoMemory = NoMemory
