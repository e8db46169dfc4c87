use Rattle.pmem.proofs.Refused.{all_on}
use Rattle.session_run.proofs.held.create_held.Goals as goal

pub words_of-requires-clause-on : goal.words_of-requires-clause-on
words_of-requires-clause-on g c = all_on _ _ _ c.in-Ok.ensures.done
