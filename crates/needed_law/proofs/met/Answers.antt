use Rattle.needed_law.proofs.Mets.{met, keeps_all}
use Rattle.needed_law.proofs.RunsMet.{runs_met}
use Rattle.needed_law.proofs.SessionMet.{session_met}
use Rattle.needed_law.proofs.met.Goals as goal

pub returns-clause-premises : goal.returns-clause-premises
returns-clause-premises c = met

pub returns-clause-trials : goal.returns-clause-trials
returns-clause-trials c = keeps_all

pub returns-clause-runs : goal.returns-clause-runs
returns-clause-runs c = runs_met

pub returns-clause-session : goal.returns-clause-session
returns-clause-session c = session_met
