use Rattle.std.proofs.Common.{◌∙◌, ap, refl}
use Rattle.c_types.specs.Views.{tables_in}
use Rattle.interpreter.proofs.Resume.{then_ok}
use Rattle.interpreter.proofs.run.Run.plan_assign.Goals as goal

pub returns-in-Set : goal.returns-in-Set
returns-in-Set c =
    then_ok c.plan_set.result (c.plan_set.ensures (tables_in c.args.program.now))
    (λ is. is ∙ rw c.in-Set.is refl)

pub returns-in-Update : goal.returns-in-Update
returns-in-Update c =
    let top = ap (λ s. s.top) c.self.view_is in
    then_ok c.plan_update.result (c.plan_update.ensures (tables_in c.args.program.now))
    (λ is. is ∙ rw (
      c.in-Update.is,
      c.sides_type-int.ensures,
      c.scopes.ensures,
      top,
      c.binary-op.ensures,
    ) refl)
