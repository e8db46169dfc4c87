use Rattle.pool_layout.proofs.Answer.{opened_rests}
use Rattle.pool_layout.proofs.Opening.{kept_opens}
use Rattle.pool_layout.proofs.image_laws.opens_law.Goals as goal

pub returns-clause-kept : goal.returns-clause-kept
returns-clause-kept c = kept_opens

pub returns-clause-rests : goal.returns-clause-rests
returns-clause-rests c = opened_rests
