use Rattle.tx_run.specs.Due as plays
use Rattle.recovery.specs.Due.{due_redo}
use Rattle.pmem.proofs.Parts.{part_failed}
use Rattle.cut_law.proofs.FaultCounts.{call_rise, redo_rise, clean_rise}
use Rattle.cut_law.proofs.faults.Goals as goal

pub returns-clause-call : goal.returns-clause-call
returns-clause-call c = λ p image tx args d b k k1. (
  call_rise p image tx args d b k k1,
  λ called. part_failed (plays.due_call p image tx args d.cache)
      d b called,
)

pub returns-clause-redo : goal.returns-clause-redo
returns-clause-redo c = λ p image tx args m d b k k1. (
  redo_rise p image tx args m d b k k1,
  λ redid. part_failed (due_redo p image tx args m d.cache)
      d b redid,
)

pub returns-clause-clean : goal.returns-clause-clean
returns-clause-clean c = λ d b es. (clean_rise d b es, λ cleaned. part_failed es d b cleaned)
