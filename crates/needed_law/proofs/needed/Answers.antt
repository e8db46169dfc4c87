use Rattle.needed_law.proofs.Wrongs.{payload, seal, log, run, retirement, mark, undo}
use Rattle.needed_law.proofs.Wrongs.{back, attempt, tidy}
use Rattle.needed_law.proofs.Wrongs.{idle_fence, mark_alone}
use Rattle.needed_law.proofs.needed.Goals as goal

pub returns-clause-payload : goal.returns-clause-payload
returns-clause-payload c = payload

pub returns-clause-seal : goal.returns-clause-seal
returns-clause-seal c = seal

pub returns-clause-log : goal.returns-clause-log
returns-clause-log c = log

pub returns-clause-run : goal.returns-clause-run
returns-clause-run c = run

pub returns-clause-retirement : goal.returns-clause-retirement
returns-clause-retirement c = retirement

pub returns-clause-mark : goal.returns-clause-mark
returns-clause-mark c = mark

pub returns-clause-undo : goal.returns-clause-undo
returns-clause-undo c = undo

pub returns-clause-back : goal.returns-clause-back
returns-clause-back c = back

pub returns-clause-attempt : goal.returns-clause-attempt
returns-clause-attempt c = attempt

pub returns-clause-tidy : goal.returns-clause-tidy
returns-clause-tidy c = tidy

pub returns-clause-idle : goal.returns-clause-idle
returns-clause-idle c = idle_fence

pub returns-clause-mark_alone : goal.returns-clause-mark_alone
returns-clause-mark_alone c = mark_alone
