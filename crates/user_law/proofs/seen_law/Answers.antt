use Rattle.user_law.proofs.Keeping.{keeps_law}
use Rattle.user_law.proofs.Playing.{played_law}
use Rattle.user_law.proofs.Meaning.{meant_law}
use Rattle.user_law.proofs.Sealing.{seal_kept}
use Rattle.user_law.proofs.Stepping.{step_law, ran_law}
use Rattle.user_law.proofs.seen_law.Goals as goal

pub returns-clause-keeps : goal.returns-clause-keeps
returns-clause-keeps c = keeps_law

pub returns-clause-played : goal.returns-clause-played
returns-clause-played c = played_law

pub returns-clause-meant : goal.returns-clause-meant
returns-clause-meant c = meant_law

pub returns-clause-seal : goal.returns-clause-seal
returns-clause-seal c = seal_kept

pub returns-clause-step : goal.returns-clause-step
returns-clause-step c = step_law

pub returns-clause-ran : goal.returns-clause-ran
returns-clause-ran c = ran_law
