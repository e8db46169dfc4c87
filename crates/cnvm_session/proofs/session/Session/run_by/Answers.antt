use Rattle.std.proofs.Common.{sym, ◌∙◌}
use Rattle.cnvm_session.proofs.Calls.{call_counts}
use Rattle.cnvm_session.proofs.session.Session.run_by.Goals as goal

pub returns-clause-count : goal.returns-clause-count
returns-clause-count g c =
    (call_counts c.args.unsigned c.call-tx_answer.result _ c.args.image.now c.args.tx
    c.args.args.now _ _ _ _ c.call-tx_answer.ensures.called).0

pub returns-clause-fault : goal.returns-clause-fault
returns-clause-fault g c = λ fault.
    (call_counts c.args.unsigned c.call-tx_answer.result _ c.args.image.now c.args.tx
    c.args.args.now _ _ _ _ c.call-tx_answer.ensures.called).1
    (sym c.answer_of_call.ensures ∙ fault)
