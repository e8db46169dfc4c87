use Rattle.machine_law.proofs.emitted.Dirty.{clean_all, few_lines, grow_all}
use Rattle.machine_law.proofs.dirty_law.Goals as goal

pub returns-clause-run : goal.returns-clause-run
returns-clause-run c = clean_all

pub returns-clause-few : goal.returns-clause-few
returns-clause-few c = few_lines

pub returns-clause-grow : goal.returns-clause-grow
returns-clause-grow c = grow_all
