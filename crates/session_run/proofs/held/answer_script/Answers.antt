use Rattle.session_run.proofs.Holding.{answers_as}
use Rattle.session_run.proofs.held.answer_script.Goals as goal

pub returns-clause-answered : goal.returns-clause-answered
returns-clause-answered g c =
    answers_as c.args.program.now c.as_slice-commands.result.now c.args.script.now
    c.answer_held.new.dev.link.state c.status_of.result _ _ _ _ _ _ _ c.answer_held.result
    c.status_of.ensures c.as_slice-commands.ensures c.answer_held.ensures.whole
    c.answer_held.ensures.broken c.answer_held.ensures.kept
