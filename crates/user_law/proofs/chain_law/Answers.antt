use Rattle.user_law.proofs.Moving.{chain_grows}
use Rattle.user_law.proofs.Staying.{sealed_law, sure_law, once_sealed_law, unsealed_law, kept_law}
use Rattle.user_law.proofs.Staying.{head_law, run_head_law}
use Rattle.user_law.proofs.Looking.{look_law}
use Rattle.user_law.proofs.chain_law.Goals as goal

pub returns-clause-stays : goal.returns-clause-stays
returns-clause-stays c = (sealed_law, sure_law, once_sealed_law, unsealed_law)

pub returns-clause-look : goal.returns-clause-look
returns-clause-look c = look_law

pub returns-clause-whole : goal.returns-clause-whole
returns-clause-whole c = chain_grows

pub returns-clause-kept : goal.returns-clause-kept
returns-clause-kept c = kept_law

pub returns-clause-head : goal.returns-clause-head
returns-clause-head c = head_law

pub returns-clause-run : goal.returns-clause-run
returns-clause-run c = run_head_law
