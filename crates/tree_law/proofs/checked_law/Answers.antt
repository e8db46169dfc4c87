use Rattle.tree_law.proofs.checked.Laws.{shapes, root, calls, logs, limits, constants, entries}
use Rattle.tree_law.proofs.checked_law.Goals as goal

pub returns-clause-shapes : goal.returns-clause-shapes
returns-clause-shapes c = shapes

pub returns-clause-root : goal.returns-clause-root
returns-clause-root c = root

pub returns-clause-calls : goal.returns-clause-calls
returns-clause-calls c = calls

pub returns-clause-logs : goal.returns-clause-logs
returns-clause-logs c = logs

pub returns-clause-limits : goal.returns-clause-limits
returns-clause-limits c = limits

pub returns-clause-constants : goal.returns-clause-constants
returns-clause-constants c = constants

pub returns-clause-entries : goal.returns-clause-entries
returns-clause-entries c = entries
