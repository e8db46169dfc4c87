use Rattle.std.proofs.Common.{refl}
use Rattle.c_types.specs.Views.{tables_in}
use Rattle.interpreter.proofs.Resume.{then_ok}
use Rattle.interpreter.proofs.run.Run.open.Goals as goal

pub returns : goal.returns
returns c = then_ok c.begin.result (c.begin.ensures (tables_in c.args.program.now))
    (λ is. rw (
      is,
      c.in_ok-enter.ensures,
      c.in_ok-locals.ensures.others,
      c.in_ok-locals.ensures.locals,
    ) refl)
