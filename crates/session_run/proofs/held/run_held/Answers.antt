use Rattle.std.proofs.Common.{Err, ap}
use Rattle.session_run.proofs.Holding.{held_ran, held_early}
use Rattle.session_run.proofs.held.run_held.Goals as goal

pub returns-in-Ok-clause-ran : goal.returns-in-Ok-clause-ran
returns-in-Ok-clause-ran g c =
    held_ran c.args.program.now c.args.script.now c.args.words _ _ c.answer_script.result _ _ _
    _ _ _ _ _ _ _ (rw c.as_slice.ensures at c.in-Ok.ensures.opened) c.answer_script.ensures.answered

pub returns-in-Err-clause-ran : goal.returns-in-Err-clause-ran
returns-in-Err-clause-ran g c =
    held_early c.args.program.now c.args.script.now c.args.words _ c.in-Err.status _ _ _ _ _ _
    (λ e. c.in-Err.ensures.undone (ap Err e)) (rw c.as_slice.ensures at c.in-Err.ensures.ended)
