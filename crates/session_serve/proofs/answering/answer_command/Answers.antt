use Rattle.session_serve.proofs.Telling.{told_as}
use Rattle.session_serve.proofs.answering.answer_command.Goals as goal

pub returns-clause-answered : goal.returns-clause-answered
returns-clause-answered g c =
    let told = c.put_answer.ensures in
    told_as c.put_answer.result c.args.program.now c.args.command.now c.command-answer.result
    _ _ _ _ _ _ _ _ c.command-answer.ensures.does told.whole told.part told.untold told.why
