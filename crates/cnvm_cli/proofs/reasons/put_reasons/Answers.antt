use Rattle.cnvm_cli.proofs.Statuses.{written_as}
use Rattle.cnvm_cli.proofs.reasons.put_reasons.Goals as goal

pub returns-in-Ok-clause-written : goal.returns-in-Ok-clause-written
returns-in-Ok-clause-written g c =
    written_as _ _ _ _ (rw (← c.in-Ok.ensures, ← c.as_str.ensures) c.put.ensures.tells)
