use Rattle.needed_law.proofs.Determined.{one_answer}
use Rattle.needed_law.proofs.Refusals.{power_unusable, power_numbers, uncut_opening}
use Rattle.needed_law.proofs.answered.Goals as goal

pub returns-clause-one : goal.returns-clause-one
returns-clause-one c = one_answer

pub returns-clause-refused : goal.returns-clause-refused
returns-clause-refused c = (power_unusable, power_numbers)

pub returns-clause-uncut : goal.returns-clause-uncut
returns-clause-uncut c = uncut_opening
