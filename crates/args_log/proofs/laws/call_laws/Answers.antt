use Rattle.args_log.proofs.Lengths.{seal_length, retire_length, mark_length}
use Rattle.args_log.proofs.Phases.{unsealed_law, sealing_law, sealed_law}
use Rattle.args_log.proofs.laws.call_laws.Goals as goal

pub returns-clause-seal : goal.returns-clause-seal
returns-clause-seal c = seal_length

pub returns-clause-retire : goal.returns-clause-retire
returns-clause-retire c = retire_length

pub returns-clause-mark : goal.returns-clause-mark
returns-clause-mark c = mark_length

pub returns-clause-unsealed : goal.returns-clause-unsealed
returns-clause-unsealed c = unsealed_law

pub returns-clause-sealing : goal.returns-clause-sealing
returns-clause-sealing c = sealing_law

pub returns-clause-sealed : goal.returns-clause-sealed
returns-clause-sealed c = sealed_law
