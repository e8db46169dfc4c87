use Rattle.workers_source_law.proofs.Runs.{new_run, new_part}
use Rattle.workers_source_law.proofs.Opened.{opened_held_run, opened_held_part}
use Rattle.workers_source_law.proofs.Reopening.{reopened_run, reopened_part}
use Rattle.workers_source_law.proofs.reopen_law.Goals as goal

pub returns-clause-new : goal.returns-clause-new
returns-clause-new c = new_run

pub returns-clause-new_part : goal.returns-clause-new_part
returns-clause-new_part c = new_part

pub returns-clause-opened : goal.returns-clause-opened
returns-clause-opened c = opened_held_run

pub returns-clause-opened_part : goal.returns-clause-opened_part
returns-clause-opened_part c = opened_held_part

pub returns-clause-reopened : goal.returns-clause-reopened
returns-clause-reopened c = reopened_run

pub returns-clause-reopened_part : goal.returns-clause-reopened_part
returns-clause-reopened_part c = reopened_part
