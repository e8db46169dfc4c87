use Rattle.pmem.proofs.Refused.{all_done, went_off, has_failed, was_short, down}
use Rattle.pmem.proofs.Glue.{all_append, part_left, part_right}
use Rattle.pmem.proofs.laws.device_laws.Goals as goal

pub returns-clause-all : goal.returns-clause-all
returns-clause-all c = all_done

pub returns-clause-off : goal.returns-clause-off
returns-clause-off c = went_off

pub returns-clause-failed : goal.returns-clause-failed
returns-clause-failed c = has_failed

pub returns-clause-memory : goal.returns-clause-memory
returns-clause-memory c = was_short

pub returns-clause-down : goal.returns-clause-down
returns-clause-down c = down

pub returns-clause-glue : goal.returns-clause-glue
returns-clause-glue c = λ es fs d b c.
    (all_append es fs d b c, λ why. part_left es fs why d c, λ why. part_right es fs why d b c)
