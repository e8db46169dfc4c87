use Rattle.text_law.proofs.Meaning.{text_law, run_law}
use Rattle.text_law.proofs.text_law.Goals as goal

pub returns-clause-text : goal.returns-clause-text
returns-clause-text c = text_law

pub returns-clause-run : goal.returns-clause-run
returns-clause-run c = run_law
