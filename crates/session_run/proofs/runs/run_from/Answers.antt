use Rattle.session_run.proofs.Running.{opened_ends}
use Rattle.session_run.proofs.runs.run_from.Goals as goal

pub returns-in-Ok-put_answer-clause-ran : goal.returns-in-Ok-put_answer-clause-ran
returns-in-Ok-put_answer-clause-ran g c =
    opened_ends c.args.program.now c.args.script.now c.args.words c.run_commands.result
    c.in-Ok.started.1 c.in-Ok.started.0 _ _ _ _ _ _ _ _ _
    (rw c.as_slice.ensures at c.in-Ok.ensures.opens)
    c.in-Ok-put_answer.ensures.whole c.run_commands.ensures.ran
