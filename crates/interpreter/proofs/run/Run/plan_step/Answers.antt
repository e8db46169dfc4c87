use Rattle.std.proofs.Common.{◌∙◌, refl}
use Rattle.interpreter.proofs.Resume.{then_ok}
use Rattle.interpreter.proofs.run.Run.plan_step.Goals as goal

pub returns-in-Up : goal.returns-in-Up
returns-in-Up c = λ t. then_ok c.plan_update.result (c.plan_update.ensures t)
    (λ is. is ∙ rw c.in-Up.is refl)

pub returns-in-Down : goal.returns-in-Down
returns-in-Down c = λ t. then_ok c.plan_update-in-Down.result (c.plan_update-in-Down.ensures t)
    (λ is. is ∙ rw c.in-Down.is refl)
