use Rattle.workers_source_law.proofs.Scripts.{word_commands}
use Rattle.workers_source_law.proofs.Opened.{opened_run, opened_part}
use Rattle.workers_source_law.proofs.Runs.{workers_run, workers_part}
use Rattle.workers_source_law.proofs.source_law.Goals as goal

pub returns-clause-run : goal.returns-clause-run
returns-clause-run c = workers_run

pub returns-clause-part : goal.returns-clause-part
returns-clause-part c = workers_part

pub returns-clause-opened : goal.returns-clause-opened
returns-clause-opened c = opened_run

pub returns-clause-opened_part : goal.returns-clause-opened_part
returns-clause-opened_part c = opened_part

pub returns-clause-words : goal.returns-clause-words
returns-clause-words c = word_commands
