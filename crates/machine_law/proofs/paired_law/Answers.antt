use Rattle.machine_law.proofs.emitted.PairedCode.{emits_pairs}
use Rattle.machine_law.proofs.emitted.Pairs.{paired_all}
use Rattle.machine_law.proofs.paired_law.Goals as goal

pub returns-clause-code : goal.returns-clause-code
returns-clause-code c = emits_pairs

pub returns-clause-run : goal.returns-clause-run
returns-clause-run c = paired_all
