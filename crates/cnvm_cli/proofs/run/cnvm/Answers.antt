use Rattle.std.proofs.Common.{refl}
use Rattle.cnvm_cli.proofs.Completing.{plan_kept_as}
use Rattle.cnvm_cli.proofs.meant.Meaning.{memory_meant, plan_meant_as}
use Rattle.cnvm_cli.proofs.meant.PoolMeaning.{plan_on_file_as, memory_on_file}
use Rattle.session_run.proofs.Running.{keeps_same}
use Rattle.cnvm_cli.proofs.run.cnvm.Goals as goal

pub returns-in-Ok-clause-read : goal.returns-in-Ok-clause-read
returns-in-Ok-clause-read g c is = rw c.in-Ok.ensures.ok (c.run_plan.ensures.read is)

pub returns-in-Ok-clause-device : goal.returns-in-Ok-clause-device
returns-in-Ok-clause-device g c is = rw c.in-Ok.ensures.ok (c.run_plan.ensures.device is)

pub returns-in-Ok-clause-complete : goal.returns-in-Ok-clause-complete
returns-in-Ok-clause-complete g c =
    plan_kept_as _ c.in-Ok.plan _ _ _ _ c.in-Ok.ensures.ok c.run_plan.ensures.ends

pub returns-in-Ok-clause-source : goal.returns-in-Ok-clause-source
returns-in-Ok-clause-source g c =
    plan_meant_as _ c.in-Ok.plan _ _ _ _ c.in-Ok.ensures.ok c.run_plan.ensures.ends

pub returns-in-Ok-clause-pool : goal.returns-in-Ok-clause-pool
returns-in-Ok-clause-pool g c =
    plan_on_file_as _ c.in-Ok.plan _ _ _ _ c.in-Ok.ensures.ok c.run_plan.ensures.pool
    c.run_plan.ensures.kept

pub returns-in-Err-NoMemory-clause-source : goal.returns-in-Err-NoMemory-clause-source
returns-in-Err-NoMemory-clause-source g c =
    memory_meant _ _ _ _ (keeps_same _) (keeps_same _, refl, refl)

pub returns-in-Err-NoMemory-clause-pool : goal.returns-in-Err-NoMemory-clause-pool
returns-in-Err-NoMemory-clause-pool g c =
    memory_on_file _ _ _ _ (keeps_same _) (record { held = refl; steps = refl; found = refl })
    c.know.ensures.covers
