use Rattle.std.proofs.Common.{◌∙◌, refl}
use Rattle.interpreter.proofs.Resume.{then_ok}
use Rattle.interpreter.proofs.run.Run.plan_for.Goals as goal

pub returns : goal.returns
returns c = λ t. then_ok c.plan_first.result (c.plan_first.ensures t)
    (λ is. is ∙ rw (c.in_ok-plan_stmt.ensures, c.in_ok-plan_close.ensures) refl)
