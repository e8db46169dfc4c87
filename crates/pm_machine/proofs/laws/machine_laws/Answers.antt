use Rattle.pm_machine.proofs.Fuel.{more_fuel}
use Rattle.pm_machine.proofs.Recording.{records_law, exact_law}
use Rattle.pm_machine.proofs.Dues.{due_run}
use Rattle.pm_machine.proofs.Agree.{agree, alike_due}
use Rattle.pm_machine.proofs.Least.{found_least}
use Rattle.pm_machine.proofs.Looked.{look_run}
use Rattle.pm_machine.proofs.laws.machine_laws.Goals as goal

pub returns-clause-fuel : goal.returns-clause-fuel
returns-clause-fuel c = more_fuel

pub returns-clause-records : goal.returns-clause-records
returns-clause-records c = records_law

pub returns-clause-exact : goal.returns-clause-exact
returns-clause-exact c = exact_law

pub returns-clause-agreement : goal.returns-clause-agreement
returns-clause-agreement c = λ image k g s h r end es ran alike.
    agree image end k g s h r es ran alike

pub returns-clause-due : goal.returns-clause-due
returns-clause-due given = λ image a k g s c lines ends. due_run image a k g s c lines ends

pub returns-clause-alike : goal.returns-clause-alike
returns-clause-alike given = λ image a k g s c h end es lines ran alike.
    alike_due image end a k g s c h es lines ran alike

pub returns-clause-find : goal.returns-clause-find
returns-clause-find given = found_least

pub returns-clause-looks : goal.returns-clause-looks
returns-clause-looks c = look_run
