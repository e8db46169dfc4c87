use Rattle.std.proofs.Common.{sym, ◌∙◌}
use Rattle.cnvm_session.proofs.Recoveries.{recovery_counts}
use Rattle.cnvm_session.proofs.session.Session.recover_by.Goals as goal

pub returns-clause-count : goal.returns-clause-count
returns-clause-count g c =
    (recovery_counts c.args.unsigned c.recover_with-tx_answer.result _ c.args.image.now
    _ _ _ _ c.recover_with-tx_answer.ensures.recovered).0

pub returns-clause-fault : goal.returns-clause-fault
returns-clause-fault g c = λ fault.
    (recovery_counts c.args.unsigned c.recover_with-tx_answer.result _ c.args.image.now
    _ _ _ _ c.recover_with-tx_answer.ensures.recovered).1 (sym c.answer_of_recovery.ensures ∙ fault)
