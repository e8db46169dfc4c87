use Rattle.workers_law.proofs.Powers.{power, fenced, marks, created}
use Rattle.workers_law.proofs.device_law.Goals as goal

pub returns-clause-power : goal.returns-clause-power
returns-clause-power c = power

pub returns-clause-fenced : goal.returns-clause-fenced
returns-clause-fenced c = fenced

pub returns-clause-marks : goal.returns-clause-marks
returns-clause-marks c = marks

pub returns-clause-created : goal.returns-clause-created
returns-clause-created c = created
