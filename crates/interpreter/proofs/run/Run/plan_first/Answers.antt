use Rattle.std.proofs.Common.{◌∙◌, refl}
use Rattle.interpreter.proofs.Resume.{then_ok}
use Rattle.interpreter.proofs.run.Run.plan_first.Goals as goal

pub returns-in-Declare : goal.returns-in-Declare
returns-in-Declare c = λ t. then_ok c.plan_declaration.result (c.plan_declaration.ensures t)
    (λ is. is ∙ rw (c.in-Some.is, c.in-Declare.is) refl)
